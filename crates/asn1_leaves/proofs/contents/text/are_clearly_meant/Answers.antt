-- For `contents::text::are_clearly_meant`: what it returns is right.
use Rattle.std.proofs.Common.{◌≡◌, true, refl, subst, sym, arith}
use Rattle.std.specs.Prelude.{IsUtf8}
use Rattle.std.specs.List.{list_all}
use Rattle.std.proofs.lemmas.Grind.{common_steps}
use Rattle.asn1_leaves.specs.Contents.Text.{TextContents, is_printable}
use Rattle.asn1_leaves.proofs.contents.text.are_clearly_meant.Goals as goal

pub returns-in-Utf8 : goal.returns-in-Utf8
returns-in-Utf8 c is_true =
    let octets = c.args.contents.now in
    let are : IsUtf8 octets = grind (arith, common_steps, is_true) in
    let (characters, means) = are in
    (characters, subst (λ z. TextContents z characters octets) (sym c.in-Utf8.is) means)

pub returns-in-Printable : goal.returns-in-Printable
returns-in-Printable c is_true =
    let octets = c.args.contents.now in
    let all : list_all is_printable octets ≡ true = grind (arith, common_steps, is_true) in
    (octets, subst (λ z. TextContents z octets octets) (sym c.in-Printable.is) (all, refl))

pub returns-in-Octets : goal.returns-in-Octets
returns-in-Octets c is_true =
    let octets = c.args.contents.now in
    (octets, subst (λ z. TextContents z octets octets) (sym c.in-Octets.is) refl)
