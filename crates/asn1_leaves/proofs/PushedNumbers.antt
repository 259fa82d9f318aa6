-- Numbers of subidentifiers as values of a type, one after another, for `oid::numbers_of_short`, `oid::push_numbers`
-- and `oid::push_number`.
use Rattle.std.proofs.Common.{◌≡◌, ℕ, ◌≤◌, inl, inr, List, [], ◌∷◌, ◌++◌, length, drop, sym, ap, ◌∙◌, subst, append_assoc}
use Rattle.std.specs.List.{slice_range}
use Rattle.asn1_numbers.specs.Base128.{IsBase128}
use Rattle.asn1_numbers.specs.FittingNumbers.{AreNumbers, HasNotAll}
use Rattle.asn1_leaves.specs.Contents.ObjectIdentifier.{ObjectIdentifierContents, Subidentifiers}
use Rattle.asn1_leaves.specs.Inner.IdentifierForms.{numbers_after}
use Rattle.asn1_leaves.proofs.IdentifierForms.{numbers_after-append}
use Rattle.asn1_leaves.proofs.Subidentifiers.{Subidentifiers-none_after}
use Rattle.std.proofs.lemmas.List.Folds.{drop_split}

-- values with one more at the end are the numbers with one more at the end
pub AreNumbers-push : {T : Type 0} (has : ℕ → Type 0) (is_number : T → ℕ → Type 0) (xs : List T) (x : T) (ns : List ℕ)
    (n : ℕ)
    → AreNumbers has is_number xs ns → has n → is_number x n → AreNumbers has is_number (xs ++ x ∷ []) (ns ++ n ∷ [])
AreNumbers-push has is_number [] x [] n p h i = (h, i, tt)
AreNumbers-push has is_number [] x (m ∷ ns) n p h i = absurd p
AreNumbers-push has is_number (y ∷ xs) x [] n p h i = absurd p
AreNumbers-push has is_number (y ∷ xs) x (m ∷ ns) n p h i = (p.0, p.1, AreNumbers-push has is_number xs x ns n p.2 h i)

-- where a type does not have one of some numbers, it does not have all of them
pub HasNotAll-among : (has : ℕ → Type 0) (done more : List ℕ) (n : ℕ) → (has n → ⊥) → HasNotAll has (done ++ n ∷ more)
HasNotAll-among has [] more n h = inl h
HasNotAll-among has (m ∷ done) more n h = inr (HasNotAll-among has done more n h)

-- the numbers of subidentifiers from an index on are the next one, and those after it
pub numbers_after-drop : (octets : List ℕ) (i j n : ℕ) → i ≤ j → IsBase128 (slice_range octets i j) n
    → numbers_after 0 (drop i octets) ≡ n ∷ numbers_after 0 (drop j octets)
numbers_after-drop octets i j n forward p =
    let found = numbers_after-append 0 (slice_range octets i j) (drop j octets) p.continued in
    let value = p.value in
    ap (numbers_after 0) (drop_split octets i j forward) ∙ cc

-- the numbers before the index were pushed, and with those after it are all numbers of the octets; where the octets
-- after the index are no subidentifiers, neither are all octets
abbrev pub ArePushed : {T : Type 0} → (ℕ → Type 0) → (T → ℕ → Type 0) → List T → List T → List ℕ → ℕ → Type 0
ArePushed has is_number before now octets i =
    (i ≤ length octets)
    × ((done : List ℕ) × (done ++ numbers_after 0 (drop i octets) ≡ numbers_after 0 octets)
    × ((ns : List ℕ) → AreNumbers has is_number before ns → AreNumbers has is_number now (ns ++ done)))
    × (((ns : List ℕ) → Subidentifiers ns (drop i octets) → ⊥) → (ns : List ℕ) → Subidentifiers ns octets → ⊥)

-- once the number of the next subidentifier is pushed, all before the index behind it are
pub ArePushed-more : {T : Type 0} (has : ℕ → Type 0) (is_number : T → ℕ → Type 0) (before now new : List T)
    (octets : List ℕ) (i j n : ℕ)
    → i ≤ j → j ≤ length octets → IsBase128 (slice_range octets i j) n → ArePushed has is_number before now octets i
    → ((ns : List ℕ) → AreNumbers has is_number now ns → AreNumbers has is_number new (ns ++ n ∷ []))
    → ArePushed has is_number before new octets j
ArePushed-more has is_number before now new octets i j n forward inside p (within, (done, all, pushed), none) push =
    let next = numbers_after-drop octets i j n forward p in (
      inside,
      (
        done ++ n ∷ [],
        append_assoc done (n ∷ []) (numbers_after 0 (drop j octets)) ∙ ap (λ z. done ++ z) (sym next) ∙ all,
        λ ns a. subst (AreNumbers has is_number new) (append_assoc ns done (n ∷ [])) (push (ns ++ done) (pushed ns a)),
      ),
      λ h. none (Subidentifiers-none_after (slice_range octets i j) (drop j octets) n p h (drop i octets)
          (drop_split octets i j forward)),
    )

-- octets after the first that mean components are subidentifiers
pub ObjectIdentifierContents-rest : (ns : List ℕ) (b : ℕ) (octets : List ℕ) → ObjectIdentifierContents ns (b ∷ octets) →
    (ms : List ℕ) × Subidentifiers ms octets
ObjectIdentifierContents-rest [] b octets p = absurd p
ObjectIdentifierContents-rest (x ∷ []) b octets p = absurd p
ObjectIdentifierContents-rest (x ∷ y ∷ ns) b octets (c, rest, e, f, s) =
    let same : rest ≡ octets = cc in
    (ns, subst (Subidentifiers ns) same s)
