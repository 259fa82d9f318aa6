-- For `identifier::identifier_at`: what it returns is right.
use Rattle.std.proofs.Common.{◌≡◌, ℕ, List, [], inl, inr, refl, subst, ◌∙◌, arith}
use Rattle.asn1_headers.specs.declared.tags.TheConstants.{OBJECT_IDENTIFIER}
use Rattle.simple_asn1.specs.Contents.{leaf_tag}
use Rattle.simple_asn1.specs.Tree.{Leaf, object_identifier}
use Rattle.asn1_records.specs.Values.{IsIdentifierAt, IsIdentifierTag, IsLeafAt, UniversalAt, identifier_is_missing, identifier_is_too_long, identifier_was_found}
use Rattle.asn1_records.proofs.OffsetLeaves.{IsMissing-not_tag, IsMissing-fault, IsLeafAt-universal, IsMissing-nothing}
use Rattle.asn1_records.proofs.identifier.identifier_at.Goals as goal
use Rattle.asn1_blocks.proofs.Leaves.{LeafFault-kind}
use Rattle.asn1_outline.proofs.Values.{IsCapped-small}

-- an identifier at an offset is a leaf there
IsLeafAt-identifier : (octets : List ℕ) (offset : ℕ) → (ns : List ℕ) × IsIdentifierAt octets offset ns
    → (l : Leaf) × IsIdentifierTag (leaf_tag l) × IsLeafAt octets offset l
IsLeafAt-identifier octets offset (ns, is) = (object_identifier ns, refl, is)

pub returns-in-Err : goal.returns-in-Err
returns-in-Err c =
    let octets = c.args.octets.now in
    let offset = c.args.offset in
    let put = c.nothing_put.ensures in
    identifier_is_missing
    (IsMissing-nothing octets offset ((ns : List ℕ) × IsIdentifierAt octets offset ns) IsIdentifierTag
    (IsLeafAt-identifier octets offset) c.in-Err.status
    c.nothing_put.result.status c.in-Err.ensures.missing put.status)
    put.offset put.count refl

pub returns-then-tag-ne-OBJECT_IDENTIFIER : goal.returns-then-tag-ne-OBJECT_IDENTIFIER
returns-then-tag-ne-OBJECT_IDENTIFIER c =
    let octets = c.args.octets.now in
    let offset = c.args.offset in
    let put = c.nothing_put-then-tag-ne-OBJECT_IDENTIFIER.ensures in
    let (n, u, number) = c.in-Ok.ensures.found in
    identifier_is_missing
    (IsMissing-not_tag octets offset ((ns : List ℕ) × IsIdentifierAt octets offset ns) IsIdentifierTag
    (IsLeafAt-identifier octets offset)
    c.nothing_put-then-tag-ne-OBJECT_IDENTIFIER.result.status n c.in-Ok.found.0 c.in-Ok.found.1.now u number
    (λ m t. omega (arith, t)) c.if-tag-ne-OBJECT_IDENTIFIER.true put.status)
    put.offset put.count refl

pub returns-then-contents-gt-MOST_IN_DECIMAL : goal.returns-then-contents-gt-MOST_IN_DECIMAL
returns-then-contents-gt-MOST_IN_DECIMAL c =
    let v = c.in-Ok.found.1.now in
    let put = c.nothing_put-then-contents-gt-MOST_IN_DECIMAL.ensures in
    let (n, u, number) = c.in-Ok.ensures.found in
    let same : n ≡ OBJECT_IDENTIFIER = IsCapped-small n c.in-Ok.found.0 OBJECT_IDENTIFIER number
    c.if-tag-ne-OBJECT_IDENTIFIER.false (omega arith) in
    identifier_is_too_long v (subst (λ z. UniversalAt c.args.octets.now c.args.offset z v) same u)
    (omega (arith, c.if-contents-gt-MOST_IN_DECIMAL.true)) put.status put.offset put.count refl

pub returns-in-Ok-put_decimal : goal.returns-in-Ok-put_decimal
returns-in-Ok-put_decimal c =
    let octets = c.args.octets.now in
    let offset = c.args.offset in
    let v = c.in-Ok.found.1.now in
    let (n, u, number) = c.in-Ok.ensures.found in
    let (ns, meant, put) = c.in-Ok-put_decimal.ensures.put in
    let same : n ≡ OBJECT_IDENTIFIER = IsCapped-small n c.in-Ok.found.0 OBJECT_IDENTIFIER number
    c.if-tag-ne-OBJECT_IDENTIFIER.false (omega arith) in
    let is =
    IsLeafAt-universal octets offset (object_identifier ns) v
    (subst (λ z. UniversalAt octets offset z v) same u) meant in
    identifier_was_found ns is v (subst (λ z. UniversalAt octets offset z v) same u)
    (omega (arith, c.if-contents-gt-MOST_IN_DECIMAL.false)) put

pub returns-in-Err-put_decimal : goal.returns-in-Err-put_decimal
returns-in-Err-put_decimal c =
    let octets = c.args.octets.now in
    let offset = c.args.offset in
    let v = c.in-Ok.found.1.now in
    let put = c.nothing_put-in-Err-put_decimal.ensures in
    let (n, u, number) = c.in-Ok.ensures.found in
    let same : n ≡ OBJECT_IDENTIFIER = IsCapped-small n c.in-Ok.found.0 OBJECT_IDENTIFIER number
    c.if-tag-ne-OBJECT_IDENTIFIER.false (omega arith) in
    let (kept, why) = c.in-Err-put_decimal.ensures.refused in
    elim why [
      | inl memory ↦ identifier_is_missing (inl (put.status ∙ memory)) put.offset put.count kept
      | inr (f, fault, outcome) ↦
          identifier_is_missing
          (IsMissing-fault octets offset ((ns : List ℕ) × IsIdentifierAt octets offset ns) IsIdentifierTag
          (IsLeafAt-identifier octets offset)
          c.nothing_put-in-Err-put_decimal.result.status n v same u f
          (LeafFault-kind (object_identifier []) _ _ _ same fault)
          (put.status ∙ outcome)) put.offset put.count kept
    ]
