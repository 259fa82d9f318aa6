-- For `input::are_words`: what it returns is right.
use Rattle.std.proofs.Common.{◌≡◌, true, refl, sym, ◌∙◌}
use Rattle.der_digits.specs.Search.{all_of_some}
use Rattle.der_forms.specs.Known.{are_words, is_in_words}
use Rattle.der_forms.proofs.Utf8.{is_ok-utf8}
use Rattle.std.specs.Str.{is_utf8}
use Rattle.der_forms.proofs.input.are_words.Goals as goal

pub returns-then-are_all_in_words : goal.returns-then-are_all_in_words
returns-then-are_all_in_words c =
    let octets = c.args.octets.now in
    let all : all_of_some is_in_words octets ≡ true = sym c.are_all_in_words.ensures ∙ c.if-are_all_in_words.true in
    let whole : are_words octets ≡ is_utf8 octets = rw all refl in
    c.is_ok.ensures.value ∙ is_ok-utf8 octets _ _ _ c.from_utf8.ensures.cases ∙ sym whole
