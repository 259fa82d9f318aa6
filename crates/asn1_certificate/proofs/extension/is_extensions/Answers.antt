-- For `extension::is_extensions`: what it returns is right.
use Rattle.std.proofs.Common.{◌≡◌, true, false, sym, ap, ◌∙◌, arith}
use Rattle.std.specs.Prelude.{◌&&◌}
use Rattle.std.proofs.lemmas.Grind.{common_steps}
use Rattle.asn1_outline.specs.Structure.{tree_at}
use Rattle.asn1_certificate.specs.Sequences.{each}
use Rattle.asn1_certificate.specs.Reading.{left, trees_at}
use Rattle.asn1_certificate.specs.Types.{is_extension}
use Rattle.asn1_certificate.proofs.EntryTrees.{sequence_of_some-group, sequence_of_some-other}
use Rattle.asn1_certificate.proofs.extension.is_extensions.Goals as goal

pub returns-in_default : goal.returns-in_default
returns-in_default c ns d =
    sym (sequence_of_some-other is_extension (tree_at ns c.args.index) (c.in_default.ensures ns d))

pub returns-then-not-is_some : goal.returns-then-not-is_some
returns-then-not-is_some c ns d =
    let ks = left c.in-Some.items in
    let refused : c.is_some.result ≡ false = grind (arith, common_steps) in
    sym (sequence_of_some-group ns is_extension (tree_at ns c.args.index) ks (c.in-Some.ensures ns d)
    ∙ ap (λ z. z && each is_extension (trees_at ns ks)) (sym c.is_some.ensures ∙ refused))

pub returns : goal.returns
returns c ns d =
    let ks = left c.in-Some.items in
    let told : c.is_some.result ≡ true = grind (arith, common_steps) in
    c.are_extensions.ensures ns d
    ∙ sym (sequence_of_some-group ns is_extension (tree_at ns c.args.index) ks (c.in-Some.ensures ns d)
    ∙ ap (λ z. z && each is_extension (trees_at ns ks)) (sym c.is_some.ensures ∙ told))
