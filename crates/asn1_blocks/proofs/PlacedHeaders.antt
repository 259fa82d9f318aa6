-- A header at the front of what is left of contents octets, and its place in the document, for `parsed::header_within`
-- and `parsed::header_between`, and for the crates above.
use Rattle.std.proofs.Common.{◌≡◌, ℕ, ◌+◌, ◌-◌, ◌<◌, ◌≤◌, ◌^◌, Bool, List, ◌++◌, length, take, drop, length-drop, refl, sym, ap, ◌∙◌, subst, arith, append_assoc}
use Rattle.std.proofs.lemmas.List.{take-take}
use Rattle.std.specs.List.{slice_range}
use Rattle.asn1_headers.specs.declared.header.ASN1Class.{ASN1Class}
use Rattle.asn1_headers.specs.Fault.{DecodeFault, incomplete, length_too_large}
use Rattle.asn1_headers.specs.Front.{BeginsWithHeader, IsAtFront, KnowsParts}
use Rattle.asn1_headers.specs.declared.whole_header.Header.{Header}
use Rattle.asn1_headers.specs.Header.{IsLength}
use Rattle.asn1_headers.specs.HeaderFault.{HeaderFault, too_far, too_long}
use Rattle.asn1_headers.proofs.FrontHeaders.{append-header_parts, length-header_parts}
use Rattle.asn1_headers.proofs.Prefixes.{IsIdentifier-not_empty}
use Rattle.asn1_blocks.specs.Places.{HeaderFound}
use Rattle.asn1_blocks.specs.declared.parsed.PlacedHeader.{PlacedHeader}
use Rattle.asn1_blocks.proofs.Faults.{HeaderFault-not_encoding}
use Rattle.asn1_blocks.proofs.ReadSteps.{slice_range-append, length-slice_range}

module _ (rest : List ℕ) (size announced : ℕ) (class : ASN1Class) (constructed : Bool) (tag : ℕ)
    (front : BeginsWithHeader rest size announced class constructed tag) where
  -- a header is at fault if its contents octets would end past a usize
  pub HeaderFault-too_far : (before offset : ℕ) → before ≡ offset + size → 2 ^ 64 ≤ before + announced →
      HeaderFault offset rest (length_too_large announced)
  HeaderFault-too_far before offset e far =
      too_far front.identifier front.len (drop size rest) tag announced (class, constructed, front.fields)
      front.length_octets (append-header_parts rest size announced class constructed tag front)
      (omega (arith, e, length-header_parts rest size announced class constructed tag front, far)) refl

  -- a header is at fault if its contents octets are more than what is left
  pub HeaderFault-too_long : (before offset : ℕ) → before ≡ offset + size → before + announced < 2 ^ 64 →
      length rest - size < announced
      → HeaderFault offset rest incomplete
  HeaderFault-too_long before offset e near long =
      too_long front.identifier front.len (drop size rest) tag announced (class, constructed, front.fields)
      front.length_octets (append-header_parts rest size announced class constructed tag front)
      (omega (arith, e, length-header_parts rest size announced class constructed tag front, near))
      (omega (arith, length-drop size rest, long))

module _ (x : List ℕ) (i e : ℕ) (h : PlacedHeader) (f : HeaderFound x i e h) (within : e ≤ length x) where
  -- the encoding of a header that was found ends no earlier than it begins
  pub starts_before_end : i ≤ h.end
  starts_before_end = omega (arith, f.starts_after, f.order)

  -- the octets from a header on are the encoding with this header and the octets behind it
  pub slice_range-at_header : slice_range x i e ≡ slice_range x i h.end ++ slice_range x h.end e
  slice_range-at_header = slice_range-append x i h.end e starts_before_end f.ends_within

  -- an encoding has as many octets as lie from the start of its header to the end of its contents octets
  pub length-slice_range-at_header : length (slice_range x i h.end) ≡ h.end - i
  length-slice_range-at_header = length-slice_range x i h.end starts_before_end (omega (arith, f.ends_within, within))

-- no header is at fault where one is found
pub HeaderFound-no_fault : (x : List ℕ) (s p e : ℕ) (h : PlacedHeader) (fault : DecodeFault) → length x < 2 ^ 64 →
    e ≤ length x → HeaderFound x p e h
    → HeaderFault (p - s) (slice_range x p e) fault → ⊥
HeaderFound-no_fault x s p e h fault small within f w =
    let before : p ≤ h.end = omega (arith, f.starts_after, f.order) in
    let l = length-slice_range x p e (omega (arith, before, f.ends_within)) within in
    HeaderFault-not_encoding (p - s) (slice_range x p e) (slice_range x p h.end) (slice_range x h.end e) fault h.class
    h.constructed h.tag _ _ w (omega (arith, l, small, within, before, f.ends_within))
    (slice_range-append x p h.end e before f.ends_within) f.encoding

-- a header whose contents octets fit into what is left is found
pub HeaderFound-fits : (octets : List ℕ) (offset limit : ℕ) (header : Header)
    → IsAtFront (slice_range octets offset limit) header → KnowsParts (slice_range octets offset limit) header
    → offset < limit → limit ≤ length octets
    → header.announced ≤ length (slice_range octets offset limit) - header.size
    → HeaderFound octets offset limit (record {
      class = header.class;
      constructed = header.constructed;
      tag = header.tag;
      identifier = header.identifier;
      size = header.size;
      has_length_80 = header.has_length_80;
      is_indefinite = header.is_indefinite;
      start = offset + header.size;
      end = (offset + header.size) + header.announced;
    })
HeaderFound-fits octets offset limit header front knows more within fits =
    let rest = slice_range octets offset limit in
    let size = header.size in
    let start = offset + size in
    let end = start + header.announced in
    let contents = slice_range octets start end in
    let l : length rest ≡ limit - offset = length-slice_range octets offset limit (omega (arith, more)) within in
    let w = front.within in
    let some = length-header_parts rest size header.announced header.class header.constructed header.tag front in
    let ends : end ≤ limit = omega (arith, l, w, fits, more) in
    let parts : slice_range octets offset start ≡ front.identifier ++ front.len =
    ap (λ n. take n (drop offset octets)) (omega arith)
    ∙ (sym (take-take size (limit - offset) (drop offset octets) (omega (arith, l, w))) ∙ front.front_is) in
    let known = knows front in
    record {
      encoding = record {
        identifier = front.identifier;
        len = front.len;
        identifier_octets = front.fields;
        length_octets =
            subst (IsLength front.len)
            (omega (arith, length-slice_range octets start end (omega arith) (omega (arith, ends, within))))
            front.length_octets;
        whole =
            slice_range-append octets offset start end (omega arith) (omega arith)
            ∙ (ap (λ z. z ++ contents) parts ∙ append_assoc front.identifier front.len contents);
        size = omega (arith, some);
      };
      starts_after = omega (
        arith,
        some,
        IsIdentifier-not_empty front.identifier header.class header.constructed
            header.tag front.fields,
      );
      order = omega arith;
      ends_within = ends;
      identifier_size = known.0;
      size_is = omega arith;
      length_80 = known.1;
      indefinite = known.2;
    }
