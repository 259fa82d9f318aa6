-- For `text::text_at`: what it returns is right.
use Rattle.std.proofs.Common.{◌≡◌, ℕ, ◌<◌, ◌^◌, List, inl, inr, refl, ap, subst, ◌∙◌, string_bytes, arith}
use Rattle.std.specs.Prelude.{IsUtf8}
use Rattle.std.specs.Str.{chars}
use Rattle.asn1_headers.specs.Fault.{fault_of}
use Rattle.asn1_leaves.specs.Contents.Text.{TextContents, TextFault, text_form}
use Rattle.asn1_blocks.proofs.Leaves.{LeafFault-text, string_tag-lt}
use Rattle.simple_asn1.specs.Contents.{leaf_tag, string_tag}
use Rattle.simple_asn1.specs.Tree.{Leaf, text}
use Rattle.asn1_records.specs.Room.{ArePut}
use Rattle.asn1_records.specs.Status.{status_of}
use Rattle.asn1_records.specs.Values.{IsLeafAt, IsTextAt, IsTextTag, UniversalAt, text_is_missing, text_was_found}
use Rattle.asn1_records.proofs.OffsetLeaves.{IsMissing-not_tag, IsMissing-fault, IsLeafAt-universal, IsMissing-nothing}
use Rattle.asn1_records.proofs.text.text_at.Goals as goal
use Rattle.asn1_outline.proofs.Values.{IsCapped-small}

-- a text at an offset is a leaf there
IsLeafAt-text : (octets : List ℕ) (offset : ℕ) → (utf8 : List ℕ) × IsTextAt octets offset utf8 →
    (l : Leaf) × IsTextTag (leaf_tag l) × IsLeafAt octets offset l
IsLeafAt-text octets offset (s, (kind, is)) = (text kind (chars s), (kind, refl), is)

-- the tag number of a text is below 2 ^ 64
IsTextTag-lt : (tag : ℕ) → IsTextTag tag → tag < 2 ^ 64
IsTextTag-lt tag (kind, e) = omega (arith, e, string_tag-lt kind)

pub returns-in-Err : goal.returns-in-Err
returns-in-Err c =
    let octets = c.args.octets.now in
    let offset = c.args.offset in
    let put = c.nothing_put.ensures in
    text_is_missing
    (IsMissing-nothing octets offset ((s : List ℕ) × IsTextAt octets offset s) IsTextTag (IsLeafAt-text octets offset)
    c.in-Err.status c.nothing_put.result.status
    c.in-Err.ensures.missing put.status)
    put.offset put.count refl

pub returns-in_default : goal.returns-in_default
returns-in_default c =
    let octets = c.args.octets.now in
    let offset = c.args.offset in
    let put = c.nothing_put-in_default.ensures in
    let (n, u, number) = c.in-Ok.ensures.found in
    text_is_missing
    (IsMissing-not_tag octets offset ((s : List ℕ) × IsTextAt octets offset s) IsTextTag (IsLeafAt-text octets offset)
    c.nothing_put-in_default.result.status n
    c.in-Ok.found.0 c.in-Ok.found.1.now u number IsTextTag-lt (λ (kind, e). c.in_default.ensures kind e) put.status)
    put.offset put.count refl

pub returns-then-are_own_text : goal.returns-then-are_own_text
returns-then-are_own_text c =
    let octets = c.args.octets.now in
    let offset = c.args.offset in
    let v = c.in-Ok.found.1.now in
    let (n, u, number) = c.in-Ok.ensures.found in
    let (kind, tag, form) = c.in-Some.ensures in
    let same : n ≡ string_tag kind =
    IsCapped-small n c.in-Ok.found.0 (string_tag kind) number tag (string_tag-lt kind) in
    let means = subst (λ z. TextContents z (chars v) v) form (c.if-are_own_text.ensures.meant refl) in
    let is =
    IsLeafAt-universal octets offset (text kind (chars v)) v
    (subst (λ z. UniversalAt octets offset z v) same u) means in
    text_was_found v (c.if-are_own_text.ensures.utf8 refl) (kind, is) c.put_front.ensures

pub returns-in-Ok-read : goal.returns-in-Ok-read
returns-in-Ok-read c =
    let octets = c.args.octets.now in
    let offset = c.args.offset in
    let v = c.in-Ok.found.1.now in
    let s = string_bytes c.in-Ok-read.text in
    let (n, u, number) = c.in-Ok.ensures.found in
    let (kind, tag, form) = c.in-Some.ensures in
    let same : n ≡ string_tag kind =
    IsCapped-small n c.in-Ok.found.0 (string_tag kind) number tag (string_tag-lt kind) in
    let means = subst (λ z. TextContents z (chars s) v) form c.in-Ok-read.ensures.found in
    let is =
    IsLeafAt-universal octets offset (text kind (chars s)) v
    (subst (λ z. UniversalAt octets offset z v) same u) means in
    let bytes : c.as_bytes.result.now ≡ s = c.as_bytes.ensures.value ∙ c.as_str.ensures.value in
    text_was_found s (subst IsUtf8 bytes c.as_bytes.ensures.utf8) (kind, is)
    (subst (λ z. ArePut z c.args.room.now c.put_front-in-Ok-read.new.room c.put_front-in-Ok-read.result) bytes
    c.put_front-in-Ok-read.ensures)

pub returns-in-Err-read : goal.returns-in-Err-read
returns-in-Err-read c =
    let octets = c.args.octets.now in
    let offset = c.args.offset in
    let v = c.in-Ok.found.1.now in
    let f = fault_of c.in-Err-read.e in
    let put = c.nothing_put-in-Err-read.ensures in
    let (n, u, number) = c.in-Ok.ensures.found in
    let (kind, tag, form) = c.in-Some.ensures in
    let same : n ≡ string_tag kind =
    IsCapped-small n c.in-Ok.found.0 (string_tag kind) number tag (string_tag-lt kind) in
    let outcome = put.status ∙ c.status_of_fault.ensures in
    elim c.in-Err-read.ensures.refused [
      | inl memory ↦ text_is_missing (inl (outcome ∙ ap (λ z. status_of (fault_of z)) memory)) put.offset put.count refl
      | inr fault ↦
          let own : TextFault (text_form kind) v f = subst (λ z. TextFault z v f) form fault in
          text_is_missing
          (IsMissing-fault octets offset ((s : List ℕ) × IsTextAt octets offset s) IsTextTag
          (IsLeafAt-text octets offset) c.nothing_put-in-Err-read.result.status n
          v (kind, same) u f (LeafFault-text kind _ _ _ same own) outcome)
          put.offset put.count refl
    ]
