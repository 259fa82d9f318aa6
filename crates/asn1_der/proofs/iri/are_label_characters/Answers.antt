-- For `iri::are_label_characters`: what it returns is right.
use Rattle.std.proofs.Common.{ap, ◌∙◌, sym}
use Rattle.std.specs.Prelude.{◌&&◌}
use Rattle.std.specs.List.{list_all}
use Rattle.std.specs.Str.{chars, is_utf8}
use Rattle.std.proofs.lemmas.Bool.{false_from_ne_true}
use Rattle.std.proofs.lemmas.Str.{IsUtf8-from_is_utf8, is_utf8-from_IsUtf8}
use Rattle.asn1_der.specs.Iri.{are_label_characters, is_label_character}
use Rattle.asn1_der.proofs.iri.are_label_characters.Goals as goal

pub returns-in-Ok : goal.returns-in-Ok
unfolding are_label_characters
returns-in-Ok c =
    let octets = c.args.octets.now in
    let (text, utf8) = c.in-Ok.ensures.cases in
    c.is_label_text.ensures
    ∙ (ap (λ z. list_all is_label_character (chars z)) text
    ∙ sym (ap (λ z. z && list_all is_label_character (chars octets)) (is_utf8-from_IsUtf8 octets utf8)))

pub returns-in-Err : goal.returns-in-Err
unfolding are_label_characters
returns-in-Err c =
    let octets = c.args.octets.now in
    sym (ap (λ z. z && list_all is_label_character (chars octets))
    (false_from_ne_true (is_utf8 octets) (λ e. c.in-Err.ensures.cases.0 (IsUtf8-from_is_utf8 octets e))))
