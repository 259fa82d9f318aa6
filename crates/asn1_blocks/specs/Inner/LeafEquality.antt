-- When two leaves are the same, where the trait of `==` wants it: they are equal, and that is decided kind by kind.
use Rattle.std.specs.Prelude.{◌≡◌, ◌==◌, ◌&&◌, ◌∷◌, [], ℕ, ℤ, Bool, List, true, false}
use Rattle.std.specs.Bool.{Decides}
use Rattle.std.specs.Ordering.{int_eq}
use Rattle.std.specs.Str.{bytes_eq}
use Rattle.std.proofs.Common.{refl, sym, ap, ◌∙◌, inl, inr, arith}
use Rattle.std.proofs.lemmas.Bool.{false≢true, cases_Bool, and_parts, and_from}
use Rattle.std.proofs.lemmas.Bool.Decides.{Decides-eqb, Decides-int_eq}
use Rattle.std.proofs.lemmas.Slice.Eq.{bytes_eq-Decides}
use Rattle.std.proofs.Math.Bool.{Bool-discrete}
use Rattle.std.proofs.Math.Decide.{ℕ_discrete}
use Rattle.std.proofs.Math.IntN.{ℤ_discrete}
use Rattle.asn1_headers.specs.Header.{constructed_bit}
use Rattle.asn1_leaves.specs.Contents.Moment.{Moment}
use Rattle.asn1_leaves.specs.StringKind.{StringKind-discrete}
use Rattle.asn1_blocks.specs.Tree.{Leaf, Leaf-discrete}

pub eqb-same : (m n : ℕ) → m ≡ n → (m == n) ≡ true
eqb-same m n = (Decides-eqb m n).1

pub constructed_bit-injective : (j k : Bool) → constructed_bit j ≡ constructed_bit k → j ≡ k
constructed_bit-injective true true e = refl
constructed_bit-injective false false e = refl
constructed_bit-injective true false e = absurd (omega (arith, e))
constructed_bit-injective false true e = absurd (omega (arith, e))

-- equality that a test decides
Discrete-by_test : {A : Type 0} (test : A → A → Bool)
    → ((a b : A) → Decides (test a b) (a ≡ b)) → Discrete A
Discrete-by_test test decides a b = elim (cases_Bool (test a b)) [
  | inl same ↦ yes ((decides a b).0 same)
  | inr other ↦ no (λ e. false≢true (sym other ∙ (decides a b).1 e))
]

octets-discrete : Discrete (List ℕ)
octets-discrete = Discrete-by_test bytes_eq bytes_eq-Decides

-- the fields of a moment but its year
fields : Moment → List ℕ
fields m = m.month ∷ m.day ∷ m.hour ∷ m.minute ∷ m.second ∷ m.nanosecond ∷ []

-- moments with equal fields are equal
Moment-same_fields :
    (y y' : ℤ) (m m' d d' h h' i i' s s' n n' : ℕ) → y ≡ y' →
    m ∷ d ∷ h ∷ i ∷ s ∷ n ∷ [] ≡ m' ∷ d' ∷ h' ∷ i' ∷ s' ∷ n' ∷ [] →
    ◌≡◌ {A = Moment}
    (record { year = y; month = m; day = d; hour = h; minute = i; second = s; nanosecond = n })
    (record { year = y'; month = m'; day = d'; hour = h'; minute = i'; second = s'; nanosecond = n' })
Moment-same_fields y y' m m' d d' h h' i i' s s' n n' e f = cc

Moment-decides :
    (m n : Moment) → Decides (int_eq m.year n.year && bytes_eq (fields m) (fields n)) (m ≡ n)
unfolding fields
Moment-decides m n = (
  λ e.
      let q = and_parts (int_eq m.year n.year) (bytes_eq (fields m) (fields n)) e in
      Moment-same_fields m.year n.year m.month n.month m.day n.day m.hour n.hour m.minute n.minute m.second
      n.second m.nanosecond n.nanosecond ((Decides-int_eq m.year n.year).0 q.0)
      ((bytes_eq-Decides (fields m) (fields n)).0 q.1),
  λ e.
      and_from _ _ ((Decides-int_eq m.year n.year).1 (ap (λ (z : Moment). z.year) e))
      ((bytes_eq-Decides (fields m) (fields n)).1 (ap fields e)),
)

Moment-discrete : Discrete Moment
Moment-discrete = Discrete-by_test (λ m n. int_eq m.year n.year && bytes_eq (fields m) (fields n)) Moment-decides

-- whether two leaves are equal, by whether the values of their kinds are
pub leaf-discrete : Discrete Leaf
leaf-discrete =
    Leaf-discrete Bool-discrete ℤ_discrete ℕ_discrete octets-discrete StringKind-discrete Moment-discrete

abbrev pub is_yes : {A : Type 0} → Dec A → Bool
is_yes (yes a) = true
is_yes (no a) = false

abbrev pub same_leaf : Leaf → Leaf → Bool
same_leaf l m = is_yes (leaf-discrete l m)

is_yes-holds : {A : Type 0} (d : Dec A) → is_yes d ≡ true → A
is_yes-holds (yes a) e = a
is_yes-holds (no a) e = absurd (false≢true e)

is_yes-true : {A : Type 0} (d : Dec A) → A → is_yes d ≡ true
is_yes-true (yes a) b = refl
is_yes-true (no a) b = absurd (a b)

pub same_leaf-equal : (l m : Leaf) → same_leaf l m ≡ true → l ≡ m
same_leaf-equal l m e = is_yes-holds (leaf-discrete l m) e

pub same_leaf-refl : (l : Leaf) → same_leaf l l ≡ true
same_leaf-refl l = is_yes-true (leaf-discrete l l) refl
