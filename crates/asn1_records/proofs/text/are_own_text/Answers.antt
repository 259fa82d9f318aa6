-- For `text::are_own_text`: what it returns is right (`utf8`, `meant`).
use Rattle.std.proofs.Common.{◌≡◌, true, subst, sym, arith}
use Rattle.std.specs.Prelude.{IsAscii, IsUtf8}
use Rattle.std.specs.List.{list_all}
use Rattle.std.specs.Str.{chars}
use Rattle.std.proofs.lemmas.Grind.{common_steps}
use Rattle.std.proofs.lemmas.Str.{IsUtf8-from_ascii, chars-IsAscii, encodes-chars, scalars-chars}
use Rattle.asn1_leaves.proofs.Characters.{IsAscii-printable}
use Rattle.asn1_leaves.specs.Contents.Text.{TextContents, is_printable}
use Rattle.asn1_records.proofs.text.are_own_text.Goals as goal

pub returns-in-Utf8-clause-utf8 : goal.returns-in-Utf8-clause-utf8
returns-in-Utf8-clause-utf8 c is_true = grind (arith, common_steps, is_true)

pub returns-in-Utf8-clause-meant : goal.returns-in-Utf8-clause-meant
returns-in-Utf8-clause-meant c is_true =
    let octets = c.args.contents.now in
    let u : IsUtf8 octets = grind (arith, common_steps, is_true) in
    subst (λ z. TextContents z (chars octets) octets) (sym c.in-Utf8.is)
    (scalars-chars octets u, encodes-chars octets u)

pub returns-in-Printable-clause-utf8 : goal.returns-in-Printable-clause-utf8
returns-in-Printable-clause-utf8 c is_true =
    let octets = c.args.contents.now in
    let all : list_all is_printable octets ≡ true = grind (arith, common_steps, is_true) in
    IsUtf8-from_ascii octets (IsAscii-printable octets all)

pub returns-in-Printable-clause-meant : goal.returns-in-Printable-clause-meant
returns-in-Printable-clause-meant c is_true =
    let octets = c.args.contents.now in
    let all : list_all is_printable octets ≡ true = grind (arith, common_steps, is_true) in
    subst (λ z. TextContents z (chars octets) octets) (sym c.in-Printable.is)
    (all, chars-IsAscii octets (IsAscii-printable octets all))

pub returns-in-Octets-clause-utf8 : goal.returns-in-Octets-clause-utf8
returns-in-Octets-clause-utf8 c is_true =
    let octets = c.args.contents.now in
    let a : IsAscii octets = grind (arith, common_steps, is_true) in
    IsUtf8-from_ascii octets a

pub returns-in-Octets-clause-meant : goal.returns-in-Octets-clause-meant
returns-in-Octets-clause-meant c is_true =
    let octets = c.args.contents.now in
    let a : IsAscii octets = grind (arith, common_steps, is_true) in
    subst (λ z. TextContents z (chars octets) octets) (sym c.in-Octets.is) (chars-IsAscii octets a)
