-- For `integer::integer_at`: what it returns is right.
use Rattle.std.proofs.Common.{◌≡◌, ◌∙◌, ℕ, ℤ, rules, refl, subst, arith, List}
use Rattle.asn1_headers.specs.declared.tags.TheConstants.{INTEGER}
use Rattle.asn1_numbers.specs.TwosComplement.{signed_number}
use Rattle.simple_asn1.specs.Contents.{leaf_tag}
use Rattle.simple_asn1.specs.Tree.{Leaf, integer}
use Rattle.asn1_records.specs.Values.{IsIntegerAt, IsIntegerTag, IsLeafAt, UniversalAt, integer_is_missing, integer_is_too_large, integer_was_found}
use Rattle.asn1_records.proofs.OffsetLeaves.{IsMissing-not_tag, IsLeafAt-universal, IsMissing-nothing}
use Rattle.asn1_records.proofs.PathSteps.{fitting-does_not_fit, fitting-found}
use Rattle.asn1_records.proofs.integer.integer_at.Goals as goal
use Rattle.asn1_outline.proofs.Values.{IsCapped-small}

module _ (octets : List ℕ) (offset : ℕ) where
  -- an integer at an offset is a leaf there
  IsLeafAt-integer : (n : ℤ) × IsIntegerAt octets offset n →
      (l : Leaf) × IsIntegerTag (leaf_tag l) × IsLeafAt octets offset l
  IsLeafAt-integer (n, is) = (integer n, refl, is)

  -- a number equal to the integer at an offset is the integer there
  IsIntegerAt-same : (n m : ℤ) → n ≡ m → IsIntegerAt octets offset n → IsIntegerAt octets offset m
  IsIntegerAt-same n m e is = subst (IsIntegerAt octets offset) e is

pub returns-in-Err : goal.returns-in-Err
returns-in-Err c =
    let octets = c.args.octets.now in
    let offset = c.args.offset in
    integer_is_missing
    (IsMissing-nothing octets offset ((n : ℤ) × IsIntegerAt octets offset n) IsIntegerTag
    (IsLeafAt-integer octets offset) c.in-Err.status c.no_integer.result.status
    c.in-Err.ensures.missing c.no_integer.ensures.0) c.no_integer.ensures.1

pub returns-then-tag-ne-INTEGER : goal.returns-then-tag-ne-INTEGER
returns-then-tag-ne-INTEGER c =
    let octets = c.args.octets.now in
    let offset = c.args.offset in
    let (n, u, number) = c.in-Ok.ensures.found in
    integer_is_missing
    (IsMissing-not_tag octets offset ((n : ℤ) × IsIntegerAt octets offset n) IsIntegerTag
    (IsLeafAt-integer octets offset) c.no_integer-then-tag-ne-INTEGER.result.status n
    c.in-Ok.found.0 c.in-Ok.found.1.now u number (λ m t. omega (arith, t)) c.if-tag-ne-INTEGER.true
    c.no_integer-then-tag-ne-INTEGER.ensures.0) c.no_integer-then-tag-ne-INTEGER.ensures.1

pub returns-in-Some : goal.returns-in-Some
returns-in-Some c =
    let octets = c.args.octets.now in
    let offset = c.args.offset in
    let v = c.in-Ok.found.1.now in
    let (n, u, number) = c.in-Ok.ensures.found in
    let same : n ≡ INTEGER = IsCapped-small n c.in-Ok.found.0 INTEGER number c.if-tag-ne-INTEGER.false (omega arith) in
    let is =
    IsLeafAt-universal octets offset (integer (signed_number v)) v
    (subst (λ z. UniversalAt octets offset z v) same u) refl in
    integer_was_found refl
    (IsIntegerAt-same octets offset (signed_number v) _
    (fitting-found (signed_number v) c.in-Some.value c.in-Some.ensures ∙ search rules) is)

pub returns-in-None : goal.returns-in-None
returns-in-None c =
    let octets = c.args.octets.now in
    let offset = c.args.offset in
    let v = c.in-Ok.found.1.now in
    let (n, u, number) = c.in-Ok.ensures.found in
    let same : n ≡ INTEGER = IsCapped-small n c.in-Ok.found.0 INTEGER number c.if-tag-ne-INTEGER.false (omega arith) in
    let is =
    IsLeafAt-universal octets offset (integer (signed_number v)) v
    (subst (λ z. UniversalAt octets offset z v) same u) refl in
    integer_is_too_large c.no_integer-in-None.ensures.0 (signed_number v) is
    (fitting-does_not_fit (signed_number v) c.in-None.ensures) c.no_integer-in-None.ensures.1
