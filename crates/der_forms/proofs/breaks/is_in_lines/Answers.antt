-- For `breaks::is_in_lines`: what it returns is right, where nothing is to be changed.
use Rattle.std.proofs.Common.{◌≡◌, ◌∙◌, ℕ, List, [], ◌∷◌, arith, false, length, refl, sym}
use Rattle.std.proofs.lemmas.Bool.Decides.{nat_tests}
use Rattle.der_digits.specs.Search.{begins}
use Rattle.der_forms.specs.Forms.{without_mark}
use Rattle.der_forms.specs.Texts.{unfolded, with_breaks}
use Rattle.der_forms.specs.declared.breaks.Place.{Place}
use Rattle.der_forms.specs.declared.breaks.Place.TheVariants.{Blank}
use Rattle.der_forms.proofs.breaks.is_in_lines.Goals as goal

-- where nothing of a text is left, all of it stays as it is
stays : (text rest : List ℕ) (place : Place) → length rest ≡ 0 → begins (239 ∷ 187 ∷ 191 ∷ []) text ≡ false
    → (with_breaks rest ≡ rest → with_breaks text ≡ text)
    → (unfolded place rest ≡ rest → unfolded Blank text ≡ text)
    → unfolded Blank (with_breaks (without_mark text)) ≡ text
stays text [] place none unmarked broken whole = rw (unmarked, broken refl) (whole refl)
stays text (b ∷ rest) place none unmarked broken whole = absurd (omega (arith, none))

pub returns : goal.returns
returns c = λ _.
    let none : length c.loop-rest.rest.now ≡ 0 =
    let is = c.is_empty.ensures in let test = c.loop-rest-test.false in grind (arith, nat_tests) in
    stays c.args.text.now c.loop-rest.rest.now c.loop-rest.place none
    (sym c.starts_with.ensures.value ∙ c.if-starts_with.false) c.loop-rest.invariant.0 c.loop-rest.invariant.1
