-- Octets that stand in others.
use Rattle.std.proofs.Common.{◌≡◌, inl, inr, ℕ, zero, suc, ◌+◌, ◌-◌, ◌≤◌, min, List, [], ◌∷◌, ◌++◌, drop, length, slice_range, take, refl, sym, ap, ◌∙◌, append-nil, append_assoc, arith}
use Rattle.std.proofs.lemmas.List.{drop-drop, drop-take, length-take, take-take}
use Rattle.dump_walk.specs.Fronts.{HoldsBehind, StandAt}

-- what is left of joined octets is what is left of the first, and more
drop-append : (n : ℕ) (xs ys : List ℕ) → (zs : List ℕ) × (drop n (xs ++ ys) ≡ drop n xs ++ zs)
drop-append zero xs ys = (ys, refl)
drop-append (suc n) [] ys = (drop (suc n) ys, refl)
drop-append (suc n) (x ∷ xs) ys = drop-append n xs ys

-- what stands in a part of octets stands in the octets, later by as many as stand before the part
pub StandAt-inside : (octets part inner : List ℕ) (m n : ℕ) → StandAt octets m part → StandAt part n inner →
    StandAt octets (m + n) inner
StandAt-inside octets part inner m n (rest, p) (after, q) =
    let (zs, r) = drop-append n part rest in (
      after ++ zs,
      sym (drop-drop n m octets)
          ∙ (ap (drop n) p ∙ (r ∙ (ap (λ z. z ++ zs) q ∙ append_assoc inner after zs))),
    )

-- a slice of what stands in octets between two offsets is a slice of the octets
pub slice_range-inside :
    (octets : List ℕ) (offset end first size : ℕ) → first + size ≤ length (slice_range octets offset end) →
    slice_range (slice_range octets offset end) first (first + size)
    ≡ slice_range octets (offset + first) (offset + (first + size))
slice_range-inside octets offset end first size within =
    let rest = drop offset octets in
    let l : length (slice_range octets offset end) ≡ min (end - offset) (length rest) =
    length-take (end - offset) rest in
    let m = end - offset - first in
    let room : end - offset ≡ first + m = omega (arith, within, l) in
    let count : first + size - first ≡ size = omega arith in
    let count' : size ≡ offset + (first + size) - (offset + first) = omega arith in
    ap (λ z. take z (drop first (take (end - offset) rest))) count
    ∙ (ap (λ z. take size (drop first (take z rest))) room
    ∙ (ap (take size) (drop-take first m rest)
    ∙ (take-take size m (drop first rest) (omega (arith, within, l))
    ∙ (ap (take size) (drop-drop first offset octets)
    ∙ ap (λ z. take z (drop (offset + first) octets)) count'))))

-- the octets of a string stand in the contents octets that hold them
pub StandAt-behind : (name contents string : List ℕ) (skipped : ℕ) → HoldsBehind name contents skipped string →
    StandAt contents skipped string
StandAt-behind name contents string skipped (inl (name_is, none, same)) =
    ([], ap (λ z. drop z contents) none ∙ (same ∙ sym (append-nil string)))
StandAt-behind name contents string skipped (inr (name_is, one, same)) =
    ([], ap (λ z. drop z contents) one ∙ (ap (drop 1) same ∙ sym (append-nil string)))
