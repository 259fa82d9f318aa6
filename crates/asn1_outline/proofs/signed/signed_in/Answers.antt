-- For `signed::signed_in`: what it returns is right.
use Rattle.std.proofs.Common.{List, ℕ, length, refl}
use Rattle.std.proofs.lemmas.Option.{MatchOption-at_some, MatchOption-at_none}
use Rattle.asn1_headers.specs.declared.tags.TheConstants.{BIT_STRING, OBJECT_IDENTIFIER, SEQUENCE}
use Rattle.asn1_blocks.specs.Places.{HeaderFound}
use Rattle.asn1_blocks.specs.declared.parsed.PlacedHeader.{PlacedHeader}
use Rattle.asn1_outline.specs.TripleHeaders.{IsUniversalAt}
use Rattle.asn1_outline.proofs.SignedHeaders.{HasTripleHeaders-algorithm, HasTripleHeaders-content, HasTripleHeaders-signature, HasTripleHeaders-whole}
use Rattle.asn1_outline.proofs.signed.signed_in.Goals as goal

-- no header is found from the offset to the limit
abbrev NoneAt : List ℕ → ℕ → ℕ → Type 0
NoneAt x offset limit = (h : PlacedHeader) → HeaderFound x offset limit h → ⊥

-- no header of class Universal with the tag number is found from the offset to the limit
abbrev NoUniversalAt : List ℕ → ℕ → ℕ → ℕ → Type 0
NoUniversalAt x offset limit tag = (h : PlacedHeader) → IsUniversalAt x offset limit tag h → ⊥

pub returns-in_default-2 : goal.returns-in_default-2
returns-in_default-2 c w c1 a i s t =
    let x = c.args.octets.now in
    let v = c.in-Some.whole in
    let whole = MatchOption-at_some (NoUniversalAt x 0 (length x) SEQUENCE) (IsUniversalAt x 0 (length x) SEQUENCE) v
    c.in-Some.is c.in_ok-whole.ensures in
    let none = MatchOption-at_none (NoneAt x v.start v.end) (HeaderFound x v.start v.end)
    c.in_default-2.is c.in_ok-content.ensures in
    let t1 = HasTripleHeaders-whole x w c1 a i s t v whole.0 in
    none c1 t1.is_content

pub returns-in_default-3 : goal.returns-in_default-3
returns-in_default-3 c w c1 a i s t =
    let x = c.args.octets.now in
    let v = c.in-Some.whole in
    let d = c.in-Some-2.content in
    let whole = MatchOption-at_some (NoUniversalAt x 0 (length x) SEQUENCE) (IsUniversalAt x 0 (length x) SEQUENCE) v
    c.in-Some.is c.in_ok-whole.ensures in
    let content = MatchOption-at_some (NoneAt x v.start v.end) (HeaderFound x v.start v.end) d
    c.in-Some-2.is c.in_ok-content.ensures in
    let none = MatchOption-at_none (NoUniversalAt x d.end v.end SEQUENCE) (IsUniversalAt x d.end v.end SEQUENCE)
    c.in_default-3.is c.in_ok-algorithm.ensures in
    let t1 = HasTripleHeaders-whole x w c1 a i s t v whole.0 in
    let t2 = HasTripleHeaders-content x v c1 a i s t1 d content in
    none a t2.is_algorithm

pub returns-in_default-4 : goal.returns-in_default-4
returns-in_default-4 c w c1 a i s t =
    let x = c.args.octets.now in
    let v = c.in-Some.whole in
    let d = c.in-Some-2.content in
    let b = c.in-Some-3.algorithm in
    let whole = MatchOption-at_some (NoUniversalAt x 0 (length x) SEQUENCE) (IsUniversalAt x 0 (length x) SEQUENCE) v
    c.in-Some.is c.in_ok-whole.ensures in
    let content = MatchOption-at_some (NoneAt x v.start v.end) (HeaderFound x v.start v.end) d
    c.in-Some-2.is c.in_ok-content.ensures in
    let algorithm =
    MatchOption-at_some (NoUniversalAt x d.end v.end SEQUENCE)
    (IsUniversalAt x d.end v.end SEQUENCE) b c.in-Some-3.is c.in_ok-algorithm.ensures in
    let none = MatchOption-at_none (NoUniversalAt x b.start b.end OBJECT_IDENTIFIER)
    (IsUniversalAt x b.start b.end OBJECT_IDENTIFIER) c.in_default-4.is c.in_ok-universal_header.ensures in
    let t1 = HasTripleHeaders-whole x w c1 a i s t v whole.0 in
    let t2 = HasTripleHeaders-content x v c1 a i s t1 d content in
    let t3 = HasTripleHeaders-algorithm x v d a i s t2 b algorithm.0 in
    none i t3.is_identifier

pub returns-in_default-5 : goal.returns-in_default-5
returns-in_default-5 c w c1 a i s t =
    let x = c.args.octets.now in
    let v = c.in-Some.whole in
    let d = c.in-Some-2.content in
    let b = c.in-Some-3.algorithm in
    let whole = MatchOption-at_some (NoUniversalAt x 0 (length x) SEQUENCE) (IsUniversalAt x 0 (length x) SEQUENCE) v
    c.in-Some.is c.in_ok-whole.ensures in
    let content = MatchOption-at_some (NoneAt x v.start v.end) (HeaderFound x v.start v.end) d
    c.in-Some-2.is c.in_ok-content.ensures in
    let algorithm =
    MatchOption-at_some (NoUniversalAt x d.end v.end SEQUENCE)
    (IsUniversalAt x d.end v.end SEQUENCE) b c.in-Some-3.is c.in_ok-algorithm.ensures in
    let none = MatchOption-at_none (NoUniversalAt x b.end v.end BIT_STRING) (IsUniversalAt x b.end v.end BIT_STRING)
    c.in_default-5.is c.in_ok-signature.ensures in
    let t1 = HasTripleHeaders-whole x w c1 a i s t v whole.0 in
    let t2 = HasTripleHeaders-content x v c1 a i s t1 d content in
    let t3 = HasTripleHeaders-algorithm x v d a i s t2 b algorithm.0 in
    none s t3.is_signature

pub returns-then-signature-whole : goal.returns-then-signature-whole
returns-then-signature-whole c w c1 a i s t =
    let x = c.args.octets.now in
    let v = c.in-Some.whole in
    let d = c.in-Some-2.content in
    let b = c.in-Some-3.algorithm in
    let r = c.in-Some-5.signature in
    let whole = MatchOption-at_some (NoUniversalAt x 0 (length x) SEQUENCE) (IsUniversalAt x 0 (length x) SEQUENCE) v
    c.in-Some.is c.in_ok-whole.ensures in
    let content = MatchOption-at_some (NoneAt x v.start v.end) (HeaderFound x v.start v.end) d
    c.in-Some-2.is c.in_ok-content.ensures in
    let algorithm =
    MatchOption-at_some (NoUniversalAt x d.end v.end SEQUENCE)
    (IsUniversalAt x d.end v.end SEQUENCE) b c.in-Some-3.is c.in_ok-algorithm.ensures in
    let signature = MatchOption-at_some (NoUniversalAt x b.end v.end BIT_STRING)
    (IsUniversalAt x b.end v.end BIT_STRING) r c.in-Some-5.is c.in_ok-signature.ensures in
    let t1 = HasTripleHeaders-whole x w c1 a i s t v whole.0 in
    let t2 = HasTripleHeaders-content x v c1 a i s t1 d content in
    let t3 = HasTripleHeaders-algorithm x v d a i s t2 b algorithm.0 in
    let t4 = HasTripleHeaders-signature x v d b i s t3 r signature.0 in
    c.if-signature-whole.true t4.to_the_end

pub returns : goal.returns
returns c =
    let x = c.args.octets.now in
    let v = c.in-Some.whole in
    let d = c.in-Some-2.content in
    let b = c.in-Some-3.algorithm in
    let e = c.in-Some-4.field-0 in
    let r = c.in-Some-5.signature in
    let whole = MatchOption-at_some (NoUniversalAt x 0 (length x) SEQUENCE) (IsUniversalAt x 0 (length x) SEQUENCE) v
    c.in-Some.is c.in_ok-whole.ensures in
    let content = MatchOption-at_some (NoneAt x v.start v.end) (HeaderFound x v.start v.end) d
    c.in-Some-2.is c.in_ok-content.ensures in
    let algorithm =
    MatchOption-at_some (NoUniversalAt x d.end v.end SEQUENCE)
    (IsUniversalAt x d.end v.end SEQUENCE) b c.in-Some-3.is c.in_ok-algorithm.ensures in
    let identifier =
    MatchOption-at_some (NoUniversalAt x b.start b.end OBJECT_IDENTIFIER)
    (IsUniversalAt x b.start b.end OBJECT_IDENTIFIER) e c.in-Some-4.is c.in_ok-universal_header.ensures in
    let signature = MatchOption-at_some (NoUniversalAt x b.end v.end BIT_STRING)
    (IsUniversalAt x b.end v.end BIT_STRING)
    r c.in-Some-5.is c.in_ok-signature.ensures in (
      v,
      d,
      b,
      e,
      r,
      record {
        is_whole = whole;
        is_content = content;
        is_algorithm = algorithm;
        is_identifier = identifier;
        is_signature = signature;
        to_the_end = c.if-signature-whole.false;
      },
      refl,
    )

pub returns-in_default : goal.returns-in_default
returns-in_default c w c1 a i s t =
    let x = c.args.octets.now in
    let none = MatchOption-at_none (NoUniversalAt x 0 (length x) SEQUENCE) (IsUniversalAt x 0 (length x) SEQUENCE)
    c.in_default.is c.in_ok-whole.ensures in
    none w t.is_whole
