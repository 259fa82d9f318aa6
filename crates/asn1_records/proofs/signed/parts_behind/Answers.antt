-- For `signed::parts_behind`: what it returns is right, and `bounds_of` may be called.
use Rattle.std.proofs.Common.{◌≡◌, ℕ, ◌<◌, ◌^◌, List, length, sym, ap, subst, ◌∙◌, arith}
use Rattle.std.proofs.lemmas.Option.{MatchOption-at_none, MatchOption-at_some}
use Rattle.asn1_headers.specs.declared.tags.TheConstants.{BIT_STRING, OBJECT_IDENTIFIER, SEQUENCE}
use Rattle.asn1_records.specs.Inner.TripleRecords.{IsUniversalRecordAt, record_end, record_start}
use Rattle.asn1_records.specs.declared.record.Block.{Block}
use Rattle.asn1_records.proofs.TripleParts.{IsOfEncoding-at, IsOfEncoding-within, IsUniversalRecordAt-unique}
use Rattle.asn1_records.proofs.signed.parts_behind.Goals as goal

-- no encoding of class Universal with the tag number stands at the offset
abbrev NoUniversalAt : List ℕ → ℕ → ℕ → Type 0
NoUniversalAt x o tag = (r : Block) → IsUniversalRecordAt x o tag r → ⊥

-- a universal record that stands at one place stands at the same one
IsUniversalRecordAt-moved : (x : List ℕ) (o p tag : ℕ) (r : Block) → o ≡ p → IsUniversalRecordAt x o tag r →
    IsUniversalRecordAt x p tag r
IsUniversalRecordAt-moved x o p tag r e at = subst (λ z. IsUniversalRecordAt x z tag r) e at

pub bounds_of-end-requires : goal.bounds_of-end-requires
bounds_of-end-requires c =
    let x = c.args.octets.now in
    let small : length x < 2 ^ 64 = omega arith in
    omega (arith, IsOfEncoding-within x c.args.content.now c.requires, small)

pub bounds_of-start-requires : goal.bounds_of-start-requires
bounds_of-start-requires c =
    let x = c.args.octets.now in
    let p = c.bounds_of-end.result.1 in
    let b = c.in-Some.algorithm in
    let small : length x < 2 ^ 64 = omega arith in
    let found = MatchOption-at_some (NoUniversalAt x p SEQUENCE) (IsUniversalRecordAt x p SEQUENCE) b c.in-Some.is
    c.in_ok-algorithm.ensures in
    omega (arith, IsOfEncoding-within x b (IsOfEncoding-at x p b found.0), small)

pub returns-in_default : goal.returns-in_default
returns-in_default c a i s t =
    let x = c.args.octets.now in
    let p = c.bounds_of-end.result.1 in
    let none = MatchOption-at_none (NoUniversalAt x p SEQUENCE) (IsUniversalRecordAt x p SEQUENCE) c.in_default.is
    c.in_ok-algorithm.ensures in
    none a (IsUniversalRecordAt-moved x (record_end c.args.content.now) p SEQUENCE a (sym c.bounds_of-end.ensures.end)
    t.is_algorithm)

pub returns-then-algorithm-eq0 : goal.returns-then-algorithm-eq0
returns-then-algorithm-eq0 c a i s t =
    let x = c.args.octets.now in
    let p = c.bounds_of-end.result.1 in
    let b = c.in-Some.algorithm in
    let found = MatchOption-at_some (NoUniversalAt x p SEQUENCE) (IsUniversalRecordAt x p SEQUENCE) b c.in-Some.is
    c.in_ok-algorithm.ensures in
    let same : a ≡ b = IsUniversalRecordAt-unique x p SEQUENCE a b
    (IsUniversalRecordAt-moved x (record_end c.args.content.now) p SEQUENCE a (sym c.bounds_of-end.ensures.end)
    t.is_algorithm) found in
    omega (arith, t.some, ap (λ (z : Block). z.contents) same, c.if-algorithm-eq0.true)

pub returns-in_default-2 : goal.returns-in_default-2
returns-in_default-2 c a i s t =
    let x = c.args.octets.now in
    let p = c.bounds_of-end.result.1 in
    let q = c.bounds_of-start.result.0 in
    let b = c.in-Some.algorithm in
    let found = MatchOption-at_some (NoUniversalAt x p SEQUENCE) (IsUniversalRecordAt x p SEQUENCE) b c.in-Some.is
    c.in_ok-algorithm.ensures in
    let same : a ≡ b = IsUniversalRecordAt-unique x p SEQUENCE a b
    (IsUniversalRecordAt-moved x (record_end c.args.content.now) p SEQUENCE a (sym c.bounds_of-end.ensures.end)
    t.is_algorithm) found in
    let none = MatchOption-at_none (NoUniversalAt x q OBJECT_IDENTIFIER) (IsUniversalRecordAt x q OBJECT_IDENTIFIER)
    c.in_default-2.is c.in_ok-identifier.ensures in
    none i (IsUniversalRecordAt-moved x (record_start a) q OBJECT_IDENTIFIER i
    (ap record_start same ∙ sym c.bounds_of-start.ensures.start) t.is_identifier)

pub returns-in_default-3 : goal.returns-in_default-3
returns-in_default-3 c a i s t =
    let x = c.args.octets.now in
    let p = c.bounds_of-end.result.1 in
    let q = c.bounds_of-start.result.1 in
    let b = c.in-Some.algorithm in
    let found = MatchOption-at_some (NoUniversalAt x p SEQUENCE) (IsUniversalRecordAt x p SEQUENCE) b c.in-Some.is
    c.in_ok-algorithm.ensures in
    let same : a ≡ b = IsUniversalRecordAt-unique x p SEQUENCE a b
    (IsUniversalRecordAt-moved x (record_end c.args.content.now) p SEQUENCE a (sym c.bounds_of-end.ensures.end)
    t.is_algorithm) found in
    let none = MatchOption-at_none (NoUniversalAt x q BIT_STRING) (IsUniversalRecordAt x q BIT_STRING)
    c.in_default-3.is c.in_ok-signature.ensures in
    none s (IsUniversalRecordAt-moved x (record_end a) q BIT_STRING s
    (ap record_end same ∙ sym c.bounds_of-start.ensures.end) t.is_signature)

pub returns : goal.returns
returns c =
    let x = c.args.octets.now in
    let p = c.bounds_of-end.result.1 in
    let q = c.bounds_of-start.result.0 in
    let r = c.bounds_of-start.result.1 in
    let b = c.in-Some.algorithm in
    let i = c.in-Some-2.identifier in
    let s = c.in-Some-3.signature in
    let algorithm = MatchOption-at_some (NoUniversalAt x p SEQUENCE) (IsUniversalRecordAt x p SEQUENCE) b c.in-Some.is
    c.in_ok-algorithm.ensures in
    let identifier = MatchOption-at_some (NoUniversalAt x q OBJECT_IDENTIFIER)
    (IsUniversalRecordAt x q OBJECT_IDENTIFIER) i c.in-Some-2.is c.in_ok-identifier.ensures in
    let signature = MatchOption-at_some (NoUniversalAt x r BIT_STRING) (IsUniversalRecordAt x r BIT_STRING) s
    c.in-Some-3.is c.in_ok-signature.ensures in
    let full : b.contents ≡ 0 → ⊥ = c.if-algorithm-eq0.false in (
      b,
      record {
        is_algorithm = IsUniversalRecordAt-moved x p (record_end c.args.content.now) SEQUENCE b
            c.bounds_of-end.ensures.end algorithm;
        some = omega (arith, full);
        is_identifier = IsUniversalRecordAt-moved x q (record_start b) OBJECT_IDENTIFIER i
            c.bounds_of-start.ensures.start identifier;
        is_signature = IsUniversalRecordAt-moved x r (record_end b) BIT_STRING s c.bounds_of-start.ensures.end
            signature;
      },
    )
