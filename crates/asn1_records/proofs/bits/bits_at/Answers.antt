-- For `bits::bits_at`: what it returns is right, the difference is none below 0, and `end_at` may be called.
use Rattle.std.proofs.Common.{◌≡◌, ◌+◌, ◌-◌, ℕ, List, [], drop, take, length, inl, inr, refl, sym, ap, subst, ◌∙◌, arith, drop-drop}
use Rattle.asn1_headers.specs.Fault.{fault_of}
use Rattle.asn1_headers.specs.declared.tags.TheConstants.{BIT_STRING}
use Rattle.simple_asn1.specs.Contents.{leaf_tag}
use Rattle.simple_asn1.specs.Tree.{Leaf, bit_string}
use Rattle.asn1_records.specs.Status.{status_of}
use Rattle.asn1_records.specs.Values.{IsBitStringAt, IsBitStringTag, IsLeafAt, UniversalAt, bits_are_missing, bits_were_found}
use Rattle.asn1_records.proofs.HeldBits.{AreLast-held, EncodingAt-within, bits-held_le, length-universal, take-last_at}
use Rattle.asn1_records.proofs.Headers.{drop-header}
use Rattle.asn1_records.proofs.OffsetLeaves.{IsMissing-not_tag, IsMissing-fault, IsLeafAt-universal, IsMissing-nothing}
use Rattle.asn1_records.proofs.bits.bits_at.Goals as goal
use Rattle.asn1_blocks.proofs.Leaves.{LeafFault-kind}
use Rattle.asn1_outline.proofs.Values.{IsCapped-small}

module _ (octets : List ℕ) (offset : ℕ) where
  -- a BIT STRING at an offset is a leaf there
  IsLeafAt-bits : (n : ℕ) × (v : List ℕ) × IsBitStringAt octets offset n v →
      (l : Leaf) × IsBitStringTag (leaf_tag l) × IsLeafAt octets offset l
  IsLeafAt-bits (n, v, is) = (bit_string n v, refl, is)

pub returns-in-Err : goal.returns-in-Err
returns-in-Err c =
    let octets = c.args.octets.now in
    let offset = c.args.offset in
    bits_are_missing
    (IsMissing-nothing octets offset ((n : ℕ) × (v : List ℕ) × IsBitStringAt octets offset n v) IsBitStringTag
    (IsLeafAt-bits octets offset) c.in-Err.status c.no_bits.result.status
    c.in-Err.ensures.missing c.no_bits.ensures.status) c.no_bits.ensures.fields

pub returns-then-tag-ne-BIT_STRING : goal.returns-then-tag-ne-BIT_STRING
returns-then-tag-ne-BIT_STRING c =
    let octets = c.args.octets.now in
    let offset = c.args.offset in
    let (n, u, number) = c.in-Ok.ensures.found in
    bits_are_missing
    (IsMissing-not_tag octets offset ((n : ℕ) × (v : List ℕ) × IsBitStringAt octets offset n v) IsBitStringTag
    (IsLeafAt-bits octets offset) c.no_bits-then-tag-ne-BIT_STRING.result.status n
    c.in-Ok.found.0 c.in-Ok.found.1.now u number (λ m t. omega (arith, t)) c.if-tag-ne-BIT_STRING.true
    c.no_bits-then-tag-ne-BIT_STRING.ensures.status) c.no_bits-then-tag-ne-BIT_STRING.ensures.fields

pub end_at-requires : goal.end_at-requires
end_at-requires c =
    let (n, u, number) = c.in-Ok.ensures.found in
    (u.whole, u.at)

pub overflow_sub-result : goal.overflow_sub-result
overflow_sub-result c =
    let octets = c.args.octets.now in
    let w = c.in-Ok.found.1.now in
    let (n, u, number) = c.in-Ok.ensures.found in
    let last = AreLast-held c.in-Ok-read.bits c.in-Ok-read.held.items w c.in-Ok-read.ensures.found in
    omega (
      arith,
      c.end_at.ensures.end u.whole u.at,
      length-universal octets c.args.offset n w u,
      last.count,
    )

pub returns-in-Ok-read : goal.returns-in-Ok-read
returns-in-Ok-read c =
    let octets = c.args.octets.now in
    let offset = c.args.offset in
    let w = c.in-Ok.found.1.now in
    let v = c.in-Ok-read.held.items in
    let bits = c.in-Ok-read.bits in
    let (n, u, number) = c.in-Ok.ensures.found in
    let means = c.in-Ok-read.ensures.found in
    let same : n ≡ BIT_STRING = IsCapped-small n c.in-Ok.found.0 BIT_STRING number c.if-tag-ne-BIT_STRING.false
    (omega arith) in
    let is = IsLeafAt-universal octets offset (bit_string bits v) w
    (subst (λ z. UniversalAt octets offset z w) same u) means in
    let last = AreLast-held bits v w means in
    let k = u.header + last.before in
    let whole = length-universal octets offset n w u in
    let end = c.end_at.ensures.end u.whole u.at in
    let size : c.len-in-Ok-read.result ≡ length v = c.len-in-Ok-read.ensures ∙ c.in-Ok-read.held.ok.0 in
    let start : c.end_at.result - c.len.result ≡ offset + k =
    omega (arith, end, whole, last.count, c.len.ensures, c.in-Ok-read.held.ok.0) in
    let held = take-last_at octets offset k u.whole v u.at (omega (arith, whole, last.count))
    (sym (drop-drop last.before u.header u.whole)
    ∙ ap (drop last.before) (drop-header u.whole _ u.constructed n w u.header u.encoding) ∙ last.octets) in
    bits_were_found refl bits v is record {
      bits = refl;
      enough = omega (arith, bits-held_le bits v w means, size);
      within = omega (arith, start, size, whole, last.count, EncodingAt-within octets offset u.whole u.at);
      held = ap (λ z. take z (drop (c.end_at.result - c.len.result) octets)) size
          ∙ (ap (λ z. take (length v) (drop z octets)) start ∙ held);
    }

pub returns-in-Err-read : goal.returns-in-Err-read
returns-in-Err-read c =
    let octets = c.args.octets.now in
    let offset = c.args.offset in
    let w = c.in-Ok.found.1.now in
    let f = fault_of c.in-Err-read.e in
    let (n, u, number) = c.in-Ok.ensures.found in
    let none = c.no_bits-in-Err-read.ensures in
    let same : n ≡ BIT_STRING = IsCapped-small n c.in-Ok.found.0 BIT_STRING number c.if-tag-ne-BIT_STRING.false
    (omega arith) in
    let outcome = none.status ∙ c.status_of_fault.ensures in
    elim c.in-Err-read.ensures.refused [
      | inl memory ↦ bits_are_missing (inl (outcome ∙ ap (λ z. status_of (fault_of z)) memory)) none.fields
      | inr fault ↦ bits_are_missing
          (IsMissing-fault octets offset ((n : ℕ) × (v : List ℕ) × IsBitStringAt octets offset n v) IsBitStringTag
          (IsLeafAt-bits octets offset) c.no_bits-in-Err-read.result.status n w same u f
          (LeafFault-kind (bit_string 0 []) _ _ _ same fault) outcome) none.fields
    ]
