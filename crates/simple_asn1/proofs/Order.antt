-- From the order that a sort ensures to that of DER. For `sets`.
use Rattle.std.proofs.Common.{◌≡◌, ℕ, suc, ◌+◌, true, false, not, List, [], ◌∷◌, refl, arith, map}
use Rattle.std.specs.Cmp.Lexicographic.{slice_cmp}
use Rattle.std.specs.List.Sorted.{IsSortedByKey}
use Rattle.std.specs.Ordering.{is_gt, is_lt, nat_cmp, ordering_reverse, ordering_then}
use Rattle.std.specs.declared.cmp.Ordering.{Ordering}
use Rattle.std.specs.declared.cmp.Ordering.TheVariants.{Less, Equal, Greater}
use Rattle.std.proofs.lemmas.Bool.{true≢false}
use Rattle.std.proofs.lemmas.Cmp.{nat_list_cmp_total}
use Rattle.asn1_der.specs.Der.{Ascend, HasNoGreaterOctets, is_not_greater}

-- what is not less is, turned round, not greater
reversed : (o : Ordering) → is_lt o ≡ false → not (is_gt (ordering_reverse o)) ≡ true
reversed Less e = absurd (true≢false e)
reversed Equal e = refl
reversed Greater e = refl

not_greater : (x y : List ℕ) → is_lt (slice_cmp nat_cmp y x) ≡ false → is_not_greater x y ≡ true
not_greater x y e = rw (nat_list_cmp_total.antisymm x y) (reversed (slice_cmp nat_cmp y x) e)

pub Ascend-sorted :
    {X : Type 0} (key : X → List ℕ) (xs : List X) → IsSortedByKey key (slice_cmp nat_cmp) xs →
    Ascend HasNoGreaterOctets (map key xs)
Ascend-sorted key [] up = tt
Ascend-sorted key (x ∷ []) up = tt
Ascend-sorted key (x ∷ y ∷ xs) up = (
  not_greater (key x) (key y) (up 0 x (omega arith) (omega arith)),
  Ascend-sorted key (y ∷ xs)
      (λ k d low high.
      let next : suc k + 1 ≡ suc (k + 1) = omega arith in
      let less = up (suc k) d (omega arith) (omega (arith, high)) in
      rw next at less),
)

-- nothing decides behind two numbers that are the same
pub ordering_then-Equal : (o : Ordering) → ordering_then o Equal ≡ o
ordering_then-Equal Less = refl
ordering_then-Equal Equal = refl
ordering_then-Equal Greater = refl
