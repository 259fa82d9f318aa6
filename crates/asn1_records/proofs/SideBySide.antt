-- Encodings one after another by their headers, for the functions of `items`.
use Rattle.std.proofs.Common.{◌≡◌, ◌≢◌, ℕ, zero, suc, ◌+◌, ◌-◌, ◌<◌, ◌≤◌, List, ◌++◌, drop, length, refl, sym, ap, subst, ◌∙◌, arith, length-append}
use Rattle.std.specs.List.{slice_range}
use Rattle.std.proofs.lemmas.List.{append_cancel_left, drop_at}
use Rattle.asn1_headers.specs.Fault.{DecodeFault}
use Rattle.asn1_headers.specs.declared.header.ASN1Class.TheVariants.{Universal}
use Rattle.asn1_blocks.specs.HeadersBegun.{IsReadInside}
use Rattle.asn1_blocks.specs.Places.{EncodingAt, HasNoEncodingAt, HeaderFound, IsEncoding}
use Rattle.asn1_blocks.specs.declared.parsed.PlacedHeader.{PlacedHeader}
use Rattle.asn1_blocks.proofs.EncodingSizes.{IsEncoding-two_le}
use Rattle.asn1_blocks.proofs.PlacedHeaders.{slice_range-at_header}
use Rattle.asn1_blocks.proofs.ReadSteps.{length-slice_range, slice_range-append}
use Rattle.asn1_blocks.proofs.Slices.{EncodingAt-unique}
use Rattle.asn1_outline.proofs.ShapesAlone.{HeaderFound-unique}
use Rattle.asn1_outline.specs.Shapes.{AreShapes, HasItems, HeadersFaultAt, Shapes, as_it_came, in_header, in_item, in_later, more_shapes, no_more, no_shapes, not_read, one_more, read_inside}
use Rattle.asn1_records.specs.Inner.Named.{shapes_from}

-- shapes begin with the encoding whose header stands at the offset
pub record BeginWithHeader (x : List ℕ) (p e : ℕ) (all : Shapes) (h : PlacedHeader) : Type 0 where
  pub items : Shapes
  pub rest : Shapes
  pub is : all ≡ more_shapes p h items rest
  pub has : HasItems x h items
  pub more : AreShapes x h.end e rest

-- where a header is found, the shapes begin with it
pub BeginWithHeader-found : (x : List ℕ) (p e : ℕ) (all : Shapes) (h : PlacedHeader) → e ≤ length x →
    AreShapes x p e all → HeaderFound x p e h
    → BeginWithHeader x p e all h
BeginWithHeader-found x p e all h within (no_more end) f =
    absurd (omega (arith, end, f.starts_after, f.order, f.ends_within))
BeginWithHeader-found x p e all h within (one_more {header = g} {items = items} {rest = rest} f' has more) f =
    let same : g ≡ h = HeaderFound-unique x p e g h within f' f in
    record {
      items = items;
      rest = rest;
      is = ap (λ z. more_shapes p z items rest) same;
      has = subst (λ z. HasItems x z items) same has;
      more = subst (λ (z : PlacedHeader). AreShapes x z.end e rest) same more;
    }

-- where no header is found, there are no shapes
pub AreShapes-no_header : (x : List ℕ) (p e : ℕ) (all : Shapes) → AreShapes x p e all →
    ((h : PlacedHeader) → HeaderFound x p e h → ⊥)
    → all ≡ no_shapes
AreShapes-no_header x p e all (no_more end) none = refl
AreShapes-no_header x p e all (one_more {header = h} f has more) none = absurd (none h f)

-- the shapes behind the first are those from the next one on
pub shapes_from-next : (k : ℕ) (all : Shapes) (o : ℕ) (h : PlacedHeader) (items rest : Shapes) →
    shapes_from k all ≡ more_shapes o h items rest
    → shapes_from (suc k) all ≡ rest
shapes_from-next zero no_shapes o h items rest e =
    let none : no_shapes ≡ more_shapes o h items rest = e in
    absurd (cc)
shapes_from-next zero (more_shapes p g is later) o h items rest e =
    let same : more_shapes p g is later ≡ more_shapes o h items rest = e in
    let behind : later ≡ rest = cc in
    behind
shapes_from-next (suc k) no_shapes o h items rest e =
    let none : no_shapes ≡ more_shapes o h items rest = e in
    absurd (cc)
shapes_from-next (suc k) (more_shapes p g is later) o h items rest e = shapes_from-next k later o h items rest e

-- behind no shapes there are none
pub shapes_from-none : (k j : ℕ) (all : Shapes) → shapes_from k all ≡ no_shapes → k ≤ j →
    shapes_from j all ≡ no_shapes
shapes_from-none zero zero all e l = e
shapes_from-none zero (suc j) no_shapes e l = refl
shapes_from-none zero (suc j) (more_shapes p g is later) e l =
    let none : more_shapes p g is later ≡ no_shapes = e in
    absurd (cc)
shapes_from-none (suc k) zero all e l = absurd (omega (arith, l))
shapes_from-none (suc k) (suc j) no_shapes e l = refl
shapes_from-none (suc k) (suc j) (more_shapes p g is later) e l = shapes_from-none k j later e (omega (arith, l))

-- the contents octets of an encoding that is read inside, and in which nothing is at fault, are its items
pub AreShapes-no_fault_inside : (x : List ℕ) (h : PlacedHeader) (items : Shapes) → HasItems x h items →
    IsReadInside h.class h.constructed h.tag →
    ((fault : DecodeFault) (o : ℕ) → h.class ≢ Universal → HeadersFaultAt x h.start h.start h.end fault o → ⊥)
    → AreShapes x h.start h.end items
AreShapes-no_fault_inside x h items (read_inside i are) j well = are
AreShapes-no_fault_inside x h items (as_it_came {fault = fault} {offset = o} other c p) j well =
    absurd (well fault o other p)
AreShapes-no_fault_inside x h items (not_read shut) j well = absurd (shut j)

-- an encoding whose contents octets are no encodings, or are not read, has no items
pub AreShapes-no_items : (x : List ℕ) (h : PlacedHeader) (items : Shapes) → HasItems x h items →
    (IsReadInside h.class h.constructed h.tag → AreShapes x h.start h.end items → ⊥)
    → AreShapes x h.end h.end items
AreShapes-no_items x h items (read_inside i are) none = absurd (none i are)
AreShapes-no_items x h items (as_it_came other c p) none = no_more refl
AreShapes-no_items x h items (not_read shut) none = no_more refl

-- a header fault has octets behind its place
pub HeadersFaultAt-before_end : (x : List ℕ) (s p e : ℕ) (fault : DecodeFault) (o : ℕ) →
    HeadersFaultAt x s p e fault o → p < e
HeadersFaultAt-before_end x s p e fault o (in_header more w) = more
HeadersFaultAt-before_end x s p e fault o (in_item f u i t) =
    omega (arith, f.starts_after, f.order, f.ends_within)
HeadersFaultAt-before_end x s p e fault o (in_later f i t) =
    omega (arith, f.starts_after, f.order, f.ends_within)

-- what is left behind the first of octets up to an end is the octets from a place to this end
pub slice_range-behind : (x : List ℕ) (p e : ℕ) (first after : List ℕ) → p ≤ e → e ≤ length x →
    slice_range x p e ≡ first ++ after → after ≡ slice_range x (e - length after) e
slice_range-behind x p e first after order within w =
    let n = length first in
    let q = e - length after in
    let size : e - p ≡ n + length after =
    omega (arith, length-slice_range x p e order within, ap length w, length-append first after) in
    let s = slice_range-append x p q e (omega (arith, size, order)) (omega arith) in
    let front : length (slice_range x p q) ≡ n =
    omega (arith, length-slice_range x p q (omega (arith, size, order)) (omega (arith, within)), size, order) in
    sym (drop_at first after n refl)
    ∙ (ap (drop n) (sym w ∙ s) ∙ drop_at (slice_range x p q) (slice_range x q e) n front)

-- encodings one after another, of which the first stands in front of the octets that are left
pub record BeginWithEncoding (x : List ℕ) (p e : ℕ) (all : Shapes) (after : List ℕ) : Type 0 where
  pub header : PlacedHeader
  pub items : Shapes
  pub rest : Shapes
  pub is : all ≡ more_shapes p header items rest
  pub end_is : header.end ≡ e - length after
  pub more : AreShapes x header.end e rest

-- the encoding of a header that was found stands in front
EncodingAt-header : (x : List ℕ) (p e : ℕ) (h : PlacedHeader) → e ≤ length x → HeaderFound x p e h →
    EncodingAt (slice_range x p e) 0 (slice_range x p h.end)
EncodingAt-header x p e h within f = record {
  rest = slice_range x h.end e;
  at_offset = slice_range-at_header x p e h f within;
  encoding = record {
    class = h.class;
    constructed = h.constructed;
    tag = h.tag;
    contents = slice_range x h.start h.end;
    header = h.start - p;
    encoding = f.encoding;
  };
}

-- where an encoding stands in front, the shapes begin with it
pub BeginWithEncoding-first : (x : List ℕ) (p e : ℕ) (all : Shapes) (first after : List ℕ) → e ≤ length x →
    AreShapes x p e all → IsEncoding first → slice_range x p e ≡ first ++ after → BeginWithEncoding x p e all after
unfolding EncodingAt-header
BeginWithEncoding-first x p e all first after within (no_more end) is w =
    absurd (omega (
      arith,
      IsEncoding-two_le first is,
      ap length w,
      length-append first after,
      length-slice_range x p e (omega (arith, end)) within,
      end,
    ))
BeginWithEncoding-first x p e all first after within (one_more {header = h} {items = items} {rest = rest} f has more)
    is w =
    let here = EncodingAt-header x p e h within f in
    let same : first ≡ slice_range x p h.end =
    EncodingAt-unique (slice_range x p e) 0 first (slice_range x p h.end)
    (record { rest = after; at_offset = w; encoding = is }) here in
    let left : after ≡ slice_range x h.end e =
    append_cancel_left first after (slice_range x h.end e)
    (sym w ∙ (here.at_offset ∙ ap (λ z. z ++ slice_range x h.end e) (sym same))) in
    record {
      header = h;
      items = items;
      rest = rest;
      is = refl;
      end_is = omega (arith, ap length left, length-slice_range x h.end e f.ends_within within, f.ends_within);
      more = more;
    }

-- where no encoding stands in front, there are no shapes
pub AreShapes-no_encoding : (x : List ℕ) (p e : ℕ) (all : Shapes) → e ≤ length x → AreShapes x p e all →
    HasNoEncodingAt (slice_range x p e) 0
    → all ≡ no_shapes
AreShapes-no_encoding x p e all within (no_more end) none = refl
AreShapes-no_encoding x p e all within (one_more {header = h} f has more) none =
    absurd (none (slice_range x p h.end) (EncodingAt-header x p e h within f))
