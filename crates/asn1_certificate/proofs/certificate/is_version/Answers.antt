-- For `certificate::is_version`: what it returns is right.
use Rattle.std.proofs.Common.{sym, ◌∙◌}
use Rattle.asn1_outline.specs.Structure.{tree_at}
use Rattle.asn1_certificate.specs.Sequences.{is_leaf}
use Rattle.asn1_certificate.proofs.EntryTrees.{tagged-inside}
use Rattle.asn1_certificate.proofs.certificate.is_version.Goals as goal

pub returns-in-Some : goal.returns-in-Some
returns-in-Some c ns d =
    c.is_leaf.ensures ns d
    ∙ sym (tagged-inside (tree_at ns c.args.index) 0 (tree_at ns c.in-Some.inside) (is_leaf 2) (c.in-Some.ensures ns d))

pub returns-in-None : goal.returns-in-None
returns-in-None c ns d = sym (c.in-None.ensures ns d (is_leaf 2))
