-- Length octets, for `components::split_contents`.
use Rattle.std.proofs.Common.{◌≡◌, ℕ, zero, suc, ◌-◌, ◌<◌, ◌≤◌, false, true, List, [], ◌∷◌, inl, inr, length, take, drop, refl, sym, ap, ◌∙◌, arith}
use Rattle.std.specs.Int.Digits.{number_from_digits}
use Rattle.std.proofs.lemmas.Bool.{cases_lt, cond_above, cond_below}
use Rattle.std.proofs.lemmas.List.{length-take-le}
use Rattle.asn1_headers.specs.Header.{BeginsWithNo, IsLength}
use Rattle.asn1_der.specs.Components.{announced, are_contents, behind_contents, contents_of}

-- octets begin with so many length octets that say a length
pub record SaysLength (octets : List ℕ) (count size : ℕ) : Type 0 where
  pub initial : ℕ
  pub more : List ℕ
  pub whole : octets ≡ initial ∷ more
  pub least : initial < 137
  pub count_is : count ≡ suc (initial - 128)
  pub enough : initial - 128 ≤ length more
  pub size_is : size ≡ announced initial more

-- length octets in front are as many as the first of them tells, and say the length that is announced
pub SaysLength-front : (octets : List ℕ) (count size : ℕ) → count ≤ length octets → IsLength (take count octets) size
    → SaysLength octets count size
SaysLength-front [] zero size within is = absurd is
SaysLength-front [] (suc k) size within is = absurd is
SaysLength-front (b ∷ more) zero size within is = absurd is
SaysLength-front (b ∷ more) (suc k) size within (inl (small, none, says)) =
    let k_is : k ≡ 0 = sym (length-take-le k more (omega (arith, within))) ∙ ap length none in
    record {
      initial = b;
      more = more;
      whole = refl;
      least = omega (arith, small);
      count_is = omega (arith, small, k_is);
      enough = omega (arith, small);
      size_is = says ∙ cond_below b 128 b (number_from_digits 256 (take (b - 128) more)) small;
    }
SaysLength-front (b ∷ more) (suc k) size within (inr (leads, few, says)) =
    let k_is : length (take k more) ≡ k = length-take-le k more (omega (arith, within)) in
    let same : k ≡ b - 128 = omega (arith, leads, k_is) in
    record {
      initial = b;
      more = more;
      whole = refl;
      least = omega (arith, leads, few);
      count_is = ap suc same;
      enough = omega (arith, same, within);
      size_is = cond_above b 128 b (number_from_digits 256 (take (b - 128) more)) size (omega (arith, leads))
          (says ∙ ap (λ z. number_from_digits 256 (take z more)) same);
    }

module _ (octets : List ℕ) (count size : ℕ) (s : SaysLength octets count size) where
  -- what stands behind the length octets
  drop-length_octets : drop count octets ≡ drop (s.initial - 128) s.more
  drop-length_octets = ap (λ z. drop z octets) s.count_is ∙ ap (drop (suc (s.initial - 128))) s.whole

  -- where so many octets as are announced stand behind the length octets, there are contents octets
  pub are_contents-fit : size ≤ length (drop count octets) → are_contents octets ≡ true
  unfolding are_contents
  are_contents-fit fit =
      let behind = ap length drop-length_octets in
      ap are_contents s.whole ∙ here s.initial s.more s.least s.enough (omega (arith, fit, behind, s.size_is))
    where
      here : (b : ℕ) (more : List ℕ) → b < 137 → b - 128 ≤ length more
          → announced b more ≤ length (drop (b - 128) more) → are_contents (b ∷ more) ≡ true
      here b more least enough fit = grind (arith, least, enough, fit)

  -- where fewer stand there, there are none
  pub are_contents-cut_off : length (drop count octets) < size → are_contents octets ≡ false
  unfolding are_contents
  are_contents-cut_off short =
      let behind = ap length drop-length_octets in
      ap are_contents s.whole ∙ here s.initial s.more (omega (arith, short, behind, s.size_is))
    where
      here : (b : ℕ) (more : List ℕ) → length (drop (b - 128) more) < announced b more
          → are_contents (b ∷ more) ≡ false
      here b more short = grind (arith, short)

  -- the contents octets are so many as are announced, and the rest follows them
  pub contents_of-announced : contents_of octets ≡ take size (drop count octets)
  unfolding contents_of
  contents_of-announced =
      ap contents_of s.whole
      ∙ (ap (λ z. take z (drop (s.initial - 128) s.more)) (sym s.size_is) ∙ ap (take size) (sym drop-length_octets))

  pub behind_contents-announced : behind_contents octets ≡ drop size (drop count octets)
  unfolding behind_contents
  behind_contents-announced =
      ap behind_contents s.whole
      ∙ (ap (λ z. drop z (drop (s.initial - 128) s.more)) (sym s.size_is) ∙ ap (drop size) (sym drop-length_octets))

-- octets in front of which stand no length octets have no contents octets
pub are_contents-no_length : (octets : List ℕ) → BeginsWithNo IsLength octets → are_contents octets ≡ false
unfolding are_contents
are_contents-no_length [] none = refl
are_contents-no_length (b ∷ more) none = elim (cases_lt b 128) [
  | inl short ↦ absurd (none b 1 (inl (short, refl, refl)))
  | inr long ↦ elim (cases_lt b 137) [
    | inr large ↦ grind (arith, large)
    | inl few ↦ elim (cases_lt (length more) (b - 128)) [
      | inl cut_off ↦ grind (arith, cut_off)
      | inr enough ↦
          let size = length-take-le (b - 128) more enough in
          absurd (none (number_from_digits 256 (take (b - 128) more)) (suc (b - 128))
          (inr (omega (arith, size, long), omega (arith, size, few), refl)))
    ]
  ]
]
