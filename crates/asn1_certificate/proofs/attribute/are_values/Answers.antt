-- For `attribute::are_values`: what it returns is right.
use Rattle.std.proofs.Common.{sym, ◌∙◌}
use Rattle.asn1_outline.specs.Structure.{tree_at}
use Rattle.asn1_certificate.specs.Reading.{left}
use Rattle.asn1_certificate.specs.Types.{is_any}
use Rattle.asn1_certificate.proofs.EntryTrees.{set_of_some-group, set_of_some-other}
use Rattle.asn1_certificate.proofs.Steps.{some-any}
use Rattle.asn1_certificate.proofs.attribute.are_values.Goals as goal

pub returns-in-Some : goal.returns-in-Some
returns-in-Some c ns d =
    let ks = left c.in-Some.items in
    c.is_some.ensures
    ∙ sym (set_of_some-group ns is_any (tree_at ns c.args.index) ks (c.in-Some.ensures ns d) ∙ some-any ns ks)

pub returns-in-None : goal.returns-in-None
returns-in-None c ns d = sym (set_of_some-other is_any (tree_at ns c.args.index) (c.in-None.ensures ns d))
