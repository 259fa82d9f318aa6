-- For `own::type_found`: what it returns is right.
use Rattle.std.proofs.Common.{◌≡◌, ◌<◌, ◌^◌, ℕ, Bool, true, false, List, ap, arith, inl, inr, subst, sym}
use Rattle.std.specs.Prelude.{None, Some, if◌then◌else◌}
use Rattle.std.specs.Option.{unwrap_or}
use Rattle.std.proofs.lemmas.Bool.{cases_lt}
use Rattle.asn1_headers.specs.declared.header.ASN1Class.TheVariants.{Universal}
use Rattle.asn1_der.specs.Der.{IsRightAlone, is_constructed_type, is_reserved}
use Rattle.asn1_der.specs.Departures.{Found, TypeFound, broken}
use Rattle.asn1_der.specs.Rules.{contents_rule, form_rule, is_string, items_rule}
use Rattle.asn1_der.specs.declared.rule.Rule.TheVariants.{ConstructedString, NotConstructed, NotPrimitive, ReservedTag}
use Rattle.asn1_der.proofs.own.type_found.Goals as goal

-- a number that is not below 2 ^ 64 is above 36
large_above_36 : (n : ℕ) → (n < 2 ^ 64 → ⊥) → 36 < n
large_above_36 n never = elim (cases_lt 36 n) [
  | inl lt ↦ lt
  | inr ge ↦ absurd (never (omega (arith, ge)))
]

-- a tag number above 36 is reserved
is_reserved-above_36 : (n : ℕ) → 36 < n → is_reserved n ≡ true
is_reserved-above_36 n large = grind (arith, large)

-- a tag number above 36 is of no constructed type
is_constructed_type-above_36 : (n : ℕ) → 36 < n → is_constructed_type n ≡ false
is_constructed_type-above_36 n large = grind (arith, large)

-- primitive or constructed, an encoding of class Universal breaks the rule of reserved tags with a tag number above 36
form_rule-above_36 : (k : Bool) (n : ℕ) → 36 < n → form_rule k n ≡ Some ReservedTag
form_rule-above_36 true n large =
    ap (λ b. if b then Some ReservedTag else if is_constructed_type n then None
    else if is_string n then Some ConstructedString else Some NotPrimitive) (is_reserved-above_36 n large)
form_rule-above_36 false n large =
    ap (λ b. if b then Some ReservedTag else if is_constructed_type n then Some NotConstructed else None)
    (is_reserved-above_36 n large)

-- an encoding of class Universal with a tag number above 36 is not right by itself
IsRightAlone-not_above_36 : (k : Bool) (n : ℕ) (v : List ℕ) → 36 < n → IsRightAlone Universal k n v → ⊥
IsRightAlone-not_above_36 true n v large (t, o) = let f = is_constructed_type-above_36 n large in absurd cc
IsRightAlone-not_above_36 false n v large (r, t, d) = let f = is_reserved-above_36 n large in absurd cc

-- of an encoding of class Universal with a tag number above 36 it is found that its tag is reserved
TypeFound-above_36 : (b k : Bool) (n : ℕ) (v : List ℕ) → 36 < n → TypeFound b Universal k n v (Some ReservedTag)
TypeFound-above_36 true k n v large = sym (form_rule-above_36 k n large)
TypeFound-above_36 false k n v large =
    subst (λ z. Found (IsRightAlone Universal k n v) z (Some ReservedTag))
    (sym (ap (λ z. unwrap_or z (if k then items_rule n else contents_rule n v)) (form_rule-above_36 k n large)))
    (broken (IsRightAlone-not_above_36 k n v large))

pub returns-in-Universal-None : goal.returns-in-Universal-None
returns-in-Universal-None c =
    let h = c.args.header.now in
    subst (λ z. TypeFound h.has_length_80 z h.constructed h.tag c.args.contents.now (Some ReservedTag))
    (sym c.in-Universal-None.is-0)
    (TypeFound-above_36 h.has_length_80 h.constructed h.tag c.args.contents.now
    (large_above_36 h.tag c.in-Universal-None.ensures))
