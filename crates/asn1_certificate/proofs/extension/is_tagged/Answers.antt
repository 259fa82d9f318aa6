-- For `extension::is_tagged`: what it returns is right.
use Rattle.std.proofs.Common.{sym, ◌∙◌}
use Rattle.asn1_outline.specs.Structure.{tree_at}
use Rattle.asn1_certificate.specs.Types.{is_extensions}
use Rattle.asn1_certificate.proofs.EntryTrees.{tagged-inside}
use Rattle.asn1_certificate.proofs.extension.is_tagged.Goals as goal

pub returns-in-Some : goal.returns-in-Some
returns-in-Some c ns d =
    c.is_extensions.ensures ns d
    ∙ sym (tagged-inside (tree_at ns c.args.index) c.args.tag (tree_at ns c.in-Some.inside) is_extensions
    (c.in-Some.ensures ns d))

pub returns-in-None : goal.returns-in-None
returns-in-None c ns d = sym (c.in-None.ensures ns d is_extensions)
