-- For `contents::text::is_faithful`: what it returns is right.
use Rattle.std.proofs.Common.{◌↔◌, true, refl, sym, subst, arith}
use Rattle.std.specs.Prelude.{IsTrue}
use Rattle.std.specs.Str.{chars}
use Rattle.std.proofs.lemmas.Grind.{common_steps}
use Rattle.std.proofs.lemmas.Str.{scalars-chars}
use Rattle.asn1_leaves.specs.Contents.Text.{HasCharacters}
use Rattle.asn1_leaves.proofs.Characters.{list_all-is_printable-chars}
use Rattle.asn1_leaves.proofs.contents.text.is_faithful.Goals as goal

pub returns-in-Utf8 : goal.returns-in-Utf8
returns-in-Utf8 c =
    subst (λ z. IsTrue true ↔ HasCharacters z (chars c.args.text.now)) (sym c.in-Utf8.is)
    (λ t. scalars-chars c.args.text.now c.utf8.text, λ e. refl)

pub returns-in-Printable : goal.returns-in-Printable
returns-in-Printable c =
    let p = list_all-is_printable-chars c.args.text.now c.utf8.text in
    subst (λ z. IsTrue c.are_printable.result ↔ HasCharacters z (chars c.args.text.now)) (sym c.in-Printable.is)
    (grind (arith, common_steps, p.0, p.1))
