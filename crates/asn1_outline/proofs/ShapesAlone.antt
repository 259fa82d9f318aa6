-- Octets have one list of shapes, or one first header fault, and not both, for `headers::Headers::from_der` and the
-- functions of `signed`.
use Rattle.std.proofs.Common.{◌≡◌, ◌&&◌, Bool, ℕ, ◌-◌, ◌<◌, ◌≤◌, ◌^◌, ◌++◌, List, drop, inl, inr, length, refl, sym, ap, ap₂, ◌∙◌, subst, arith}
use Rattle.std.specs.List.{slice_range}
use Rattle.asn1_headers.specs.Fault.{DecodeFault}
use Rattle.asn1_headers.specs.declared.header.ASN1Class.{ASN1Class}
use Rattle.asn1_headers.specs.declared.header.ASN1Class.TheVariants.{Universal}
use Rattle.asn1_headers.specs.Indefinite.{is_indefinite}
use Rattle.asn1_headers.proofs.Prefixes.{Encoding-same_parts, Encoding-unique}
use Rattle.asn1_blocks.specs.HeadersBegun.{IsReadInside}
use Rattle.asn1_blocks.specs.Places.{HeaderFound}
use Rattle.asn1_blocks.specs.declared.parsed.PlacedHeader.{PlacedHeader}
use Rattle.asn1_blocks.proofs.PlacedHeaders.{HeaderFound-no_fault}
use Rattle.asn1_blocks.proofs.FaultsAlone.{HeaderFault-unique}
use Rattle.asn1_blocks.proofs.ReadSteps.{length-slice_range}
use Rattle.asn1_outline.specs.Shapes.{AreShapes, FirstHeaderFaultAt, HasItems, HasShapes, HeadersFaultAt, Shapes, as_it_came, in_header, in_item, in_later, more_shapes, no_more, not_read, one_more, read_inside}
use Rattle.std.proofs.lemmas.List.Folds.{drop_split}

-- a header with these fields
abbrev placed : ASN1Class → Bool → ℕ → ℕ → ℕ → Bool → Bool → ℕ → ℕ → PlacedHeader
placed class constructed tag identifier size is_80 is_open start end = record {
  class = class;
  constructed = constructed;
  tag = tag;
  identifier = identifier;
  size = size;
  has_length_80 = is_80;
  is_indefinite = is_open;
  start = start;
  end = end;
}

-- one header alone stands at an offset
pub HeaderFound-unique : (x : List ℕ) (p e : ℕ) (h g : PlacedHeader) → e ≤ length x → HeaderFound x p e h →
    HeaderFound x p e g → h ≡ g
HeaderFound-unique x p e h g within f f' =
    let y = slice_range x p h.end in
    let z = slice_range x p g.end in
    let whole : y ++ drop h.end x ≡ z ++ drop g.end x =
    sym (drop_split x p h.end (omega (arith, f.starts_after, f.order)))
    ∙ drop_split x p g.end (omega (arith, f'.starts_after, f'.order)) in
    let s = Encoding-unique y z h.class g.class h.constructed g.constructed h.tag g.tag _ _ _ _ (drop h.end x)
    (drop g.end x) f.encoding f'.encoding whole in
    let class : h.class ≡ g.class = s.class in
    let constructed : h.constructed ≡ g.constructed = s.constructed in
    let tag : h.tag ≡ g.tag = s.tag in
    let start : h.start ≡ g.start = omega (arith, s.header, f.starts_after, f'.starts_after) in
    let l =
    length-slice_range x p h.end (omega (arith, f.starts_after, f.order)) (omega (arith, f.ends_within, within)) in
    let m =
    length-slice_range x p g.end (omega (arith, f'.starts_after, f'.order)) (omega (arith, f'.ends_within, within)) in
    let end : h.end ≡ g.end =
    omega (arith, l, m, ap length s.octets, f.starts_after, f.order, f'.starts_after, f'.order) in
    let parts = Encoding-same_parts y z h.class g.class h.constructed g.constructed h.tag g.tag _ _ _ _ (drop h.end x)
    (drop g.end x) f.encoding f'.encoding whole in
    let identifier : h.identifier ≡ g.identifier =
    f.identifier_size ∙ (ap length parts.0 ∙ sym f'.identifier_size) in
    let size : h.size ≡ g.size = omega (arith, f.size_is, f'.size_is, start) in
    let length_80 : h.has_length_80 ≡ g.has_length_80 =
    f.length_80 ∙ (ap is_indefinite parts.1 ∙ sym f'.length_80) in
    let indefinite : h.is_indefinite ≡ g.is_indefinite =
    f.indefinite ∙ (ap₂ (λ k l. k && l) constructed length_80 ∙ sym f'.indefinite) in
    let same : h ≡ g =
    ap (λ z. placed z h.constructed h.tag h.identifier h.size h.has_length_80 h.is_indefinite h.start h.end) class
    ∙ ap (λ z. placed g.class z h.tag h.identifier h.size h.has_length_80 h.is_indefinite h.start h.end) constructed
    ∙ ap (λ z. placed g.class g.constructed z h.identifier h.size h.has_length_80 h.is_indefinite h.start h.end) tag
    ∙ ap (λ z. placed g.class g.constructed g.tag z h.size h.has_length_80 h.is_indefinite h.start h.end) identifier
    ∙ ap (λ z. placed g.class g.constructed g.tag g.identifier z h.has_length_80 h.is_indefinite h.start h.end) size
    ∙ ap (λ z. placed g.class g.constructed g.tag g.identifier g.size z h.is_indefinite h.start h.end) length_80
    ∙ ap (λ z. placed g.class g.constructed g.tag g.identifier g.size g.has_length_80 z h.start h.end) indefinite
    ∙ ap (λ z. placed g.class g.constructed g.tag g.identifier g.size g.has_length_80 g.is_indefinite z h.end) start
    ∙ ap (λ z. placed g.class g.constructed g.tag g.identifier g.size g.has_length_80 g.is_indefinite g.start z) end in
    same

module _ (x : List ℕ) (small : length x < 2 ^ 64) where
  mutual
    -- octets whose headers have shapes have no header fault
    pub AreShapes-no_fault : (s p e : ℕ) (a : Shapes) (fault : DecodeFault) (o : ℕ) → e ≤ length x → AreShapes x p e a →
        HeadersFaultAt x s p e fault o → ⊥
    AreShapes-no_fault s p e a fault o within (no_more end) (in_header more w) = omega (arith, end, more)
    AreShapes-no_fault s p e a fault o within (no_more end) (in_item f u i q) =
        omega (arith, end, f.starts_after, f.order, f.ends_within)
    AreShapes-no_fault s p e a fault o within (no_more end) (in_later f i q) =
        omega (arith, end, f.starts_after, f.order, f.ends_within)
    AreShapes-no_fault s p e a fault o within (one_more f i r) (in_header more w) =
        HeaderFound-no_fault x s p e _ fault small within f w
    AreShapes-no_fault s p e a fault o within (one_more {header = h} {items = items} f i r)
        (in_item {header = g} f' u j q) =
        let same : g ≡ h = HeaderFound-unique x p e g h within f' f in
        let q' = subst (λ z. HeadersFaultAt x z.start z.start z.end fault o) same q in
        HasItems-no_fault h items fault o (omega (arith, f.ends_within, within)) i
        (ap (λ (z : PlacedHeader). z.class) (sym same) ∙ u)
        (subst (λ z. IsReadInside z.class z.constructed z.tag) same j) q'
    AreShapes-no_fault s p e a fault o within (one_more {header = h} {rest = rest} f i r)
        (in_later {header = g} f' j q) =
        let same : g ≡ h = HeaderFound-unique x p e g h within f' f in
        AreShapes-no_fault s h.end e rest fault o within r (subst (λ z. HeadersFaultAt x s z.end e fault o) same q)

    -- an encoding with items has no header fault in its contents octets
    HasItems-no_fault : (h : PlacedHeader) (a : Shapes) (fault : DecodeFault) (o : ℕ) → h.end ≤ length x →
        HasItems x h a →
        h.class ≡ Universal
        → IsReadInside h.class h.constructed h.tag → HeadersFaultAt x h.start h.start h.end fault o → ⊥
    HasItems-no_fault h a fault o within (read_inside i are) u j q =
        AreShapes-no_fault h.start h.start h.end a fault o within are q
    HasItems-no_fault h a fault o within (as_it_came other c p) u j q = other u
    HasItems-no_fault h a fault o within (not_read shut) u j q = shut j

  mutual
    -- octets have one list of shapes
    AreShapes-unique : (p e : ℕ) (a b : Shapes) → e ≤ length x → AreShapes x p e a → AreShapes x p e b → a ≡ b
    AreShapes-unique p e a b within (no_more end) (no_more end') = refl
    AreShapes-unique p e a b within (no_more end) (one_more f i r) =
        absurd (omega (arith, end, f.starts_after, f.order, f.ends_within))
    AreShapes-unique p e a b within (one_more f i r) (no_more end) =
        absurd (omega (arith, end, f.starts_after, f.order, f.ends_within))
    AreShapes-unique p e a b within (one_more {header = h} {items = items} {rest = rest} f i r)
        (one_more {header = g} {items = items'} {rest = rest'} f' i' r') =
        let same : g ≡ h = HeaderFound-unique x p e g h within f' f in
        let inside : items ≡ items' =
        HasItems-unique h items items' (omega (arith, f.ends_within, within)) i
        (subst (λ z. HasItems x z items') same i') in
        let after : rest ≡ rest' =
        AreShapes-unique h.end e rest rest' within r (subst (λ z. AreShapes x z.end e rest') same r') in
        ap (λ z. more_shapes p z items rest) (sym same) ∙ ap (λ z. more_shapes p g z rest) inside
        ∙ ap (λ z. more_shapes p g items' z) after

    -- an encoding has one list of items
    HasItems-unique : (h : PlacedHeader) (a b : Shapes) → h.end ≤ length x → HasItems x h a → HasItems x h b → a ≡ b
    HasItems-unique h a b within (read_inside i are) (read_inside i' are') =
        AreShapes-unique h.start h.end a b within are are'
    HasItems-unique h a b within (read_inside i are) (as_it_came {fault = fault} {offset = o} other c p) =
        absurd (AreShapes-no_fault h.start h.start h.end a fault o within are p)
    HasItems-unique h a b within (read_inside i are) (not_read shut) = absurd (shut i)
    HasItems-unique h a b within (as_it_came {fault = fault} {offset = o} other c p) (read_inside i are) =
        absurd (AreShapes-no_fault h.start h.start h.end b fault o within are p)
    HasItems-unique h a b within (as_it_came other c p) (as_it_came other' c' p') = refl
    HasItems-unique h a b within (as_it_came other c p) (not_read shut) = refl
    HasItems-unique h a b within (not_read shut) (read_inside i are) = absurd (shut i)
    HasItems-unique h a b within (not_read shut) (as_it_came other c p) = refl
    HasItems-unique h a b within (not_read shut) (not_read shut') = refl

  -- octets have one first header fault, at one place
  HeadersFaultAt-unique : (s p e : ℕ) (a b : DecodeFault) (o q : ℕ) → e ≤ length x → HeadersFaultAt x s p e a o →
      HeadersFaultAt x s p e b q
      → (a ≡ b) × (o ≡ q)
  HeadersFaultAt-unique s p e a b o q within (in_header more w) (in_header more' w') =
      (HeaderFault-unique (p - s) (slice_range x p e) a b w w', refl)
  HeadersFaultAt-unique s p e a b o q within (in_header more w) (in_item f u i t) =
      absurd (HeaderFound-no_fault x s p e _ a small within f w)
  HeadersFaultAt-unique s p e a b o q within (in_header more w) (in_later f i t) =
      absurd (HeaderFound-no_fault x s p e _ a small within f w)
  HeadersFaultAt-unique s p e a b o q within (in_item f u i t) (in_header more w) =
      absurd (HeaderFound-no_fault x s p e _ b small within f w)
  HeadersFaultAt-unique s p e a b o q within (in_later f i t) (in_header more w) =
      absurd (HeaderFound-no_fault x s p e _ b small within f w)
  HeadersFaultAt-unique s p e a b o q within (in_item {header = h} f u i t) (in_item {header = g} f' u' i' t') =
      let same : g ≡ h = HeaderFound-unique x p e g h within f' f in
      HeadersFaultAt-unique h.start h.start h.end a b o q (omega (arith, f.ends_within, within)) t
      (subst (λ z. HeadersFaultAt x z.start z.start z.end b q) same t')
  HeadersFaultAt-unique s p e a b o q within (in_item {header = h} f u i t)
      (in_later {header = g} {items = items} f' i' t') =
      let same : g ≡ h = HeaderFound-unique x p e g h within f' f in
      absurd (HasItems-no_fault h items a o (omega (arith, f.ends_within, within))
      (subst (λ z. HasItems x z items) same i') u i t)
  HeadersFaultAt-unique s p e a b o q within (in_later {header = h} {items = items} f i t)
      (in_item {header = g} f' u i' t') =
      let same : h ≡ g = HeaderFound-unique x p e h g within f f' in
      absurd (HasItems-no_fault g items b q (omega (arith, f'.ends_within, within))
      (subst (λ z. HasItems x z items) same i) u i' t')
  HeadersFaultAt-unique s p e a b o q within (in_later {header = h} f i t) (in_later {header = g} f' i' t') =
      let same : g ≡ h = HeaderFound-unique x p e g h within f' f in
      HeadersFaultAt-unique s h.end e a b o q within t (subst (λ z. HeadersFaultAt x s z.end e b q) same t')

  -- a document of headers has one list of shapes
  pub HasShapes-unique : (a b : Shapes) → HasShapes x a → HasShapes x b → a ≡ b
  HasShapes-unique a b h g = AreShapes-unique 0 (length x) a b (omega arith) h.shapes g.shapes

  -- a document of headers has no first header fault
  pub HasShapes-no_fault : (a : Shapes) (fault : DecodeFault) (o : ℕ) → HasShapes x a → FirstHeaderFaultAt x fault o →
      ⊥
  HasShapes-no_fault a fault o h (inl (none, is, at)) = omega (arith, h.some, ap length none)
  HasShapes-no_fault a fault o h (inr w) = AreShapes-no_fault 0 0 (length x) a fault o (omega arith) h.shapes w

  -- a header fault has octets behind its place
  HeadersFaultAt-lt_end : (s p e : ℕ) (fault : DecodeFault) (o : ℕ) → HeadersFaultAt x s p e fault o → p < e
  HeadersFaultAt-lt_end s p e fault o (in_header more w) = more
  HeadersFaultAt-lt_end s p e fault o (in_item f u i t) = omega (arith, f.starts_after, f.order, f.ends_within)
  HeadersFaultAt-lt_end s p e fault o (in_later f i t) = omega (arith, f.starts_after, f.order, f.ends_within)

  -- the first header fault is one, at one place
  pub FirstHeaderFaultAt-unique : (a b : DecodeFault) (o q : ℕ) → FirstHeaderFaultAt x a o → FirstHeaderFaultAt x b q →
      (a ≡ b) × (o ≡ q)
  FirstHeaderFaultAt-unique a b o q (inl (none, is, at)) (inl (none', is', at')) = (is ∙ sym is', at ∙ sym at')
  FirstHeaderFaultAt-unique a b o q (inl (none, is, at)) (inr w) =
      absurd (omega (arith, ap length none, HeadersFaultAt-lt_end 0 0 (length x) b q w))
  FirstHeaderFaultAt-unique a b o q (inr w) (inl (none, is, at)) =
      absurd (omega (arith, ap length none, HeadersFaultAt-lt_end 0 0 (length x) a o w))
  FirstHeaderFaultAt-unique a b o q (inr w) (inr w') = HeadersFaultAt-unique 0 0 (length x) a b o q (omega arith) w w'
