-- Encodings of contents octets, read by themselves, are encodings of the document, for `items::are_encodings`.
use Rattle.std.proofs.Common.{◌≡◌, ℕ, ◌+◌, ◌-◌, ◌≤◌, ◌++◌, List, drop, length, take, sym, ap, subst, ◌∙◌, arith}
use Rattle.std.specs.List.{slice_range}
use Rattle.std.proofs.lemmas.List.{drop-drop, drop-take, take-take}
use Rattle.asn1_headers.specs.Fault.{DecodeFault}
use Rattle.asn1_headers.specs.Header.{IsLength}
use Rattle.asn1_headers.specs.HeaderFault.{HeaderFault}
use Rattle.asn1_blocks.specs.Places.{HeaderFound}
use Rattle.asn1_blocks.specs.declared.parsed.PlacedHeader.{PlacedHeader}
use Rattle.asn1_blocks.proofs.ReadSteps.{length-slice_range}
use Rattle.asn1_outline.specs.Shapes.{AreShapes, HasItems, HeadersFaultAt, Shapes, as_it_came, in_header, in_item, in_later, more_shapes, no_more, no_shapes, not_read, one_more, read_inside}

-- a header so many octets later
abbrev pub later_header : ℕ → PlacedHeader → PlacedHeader
later_header s h = record {
  class = h.class;
  constructed = h.constructed;
  tag = h.tag;
  identifier = h.identifier;
  size = h.size;
  has_length_80 = h.has_length_80;
  is_indefinite = h.is_indefinite;
  start = s + h.start;
  end = s + h.end;
}

-- shapes so many octets later
abbrev pub later_shapes : ℕ → Shapes → Shapes
later_shapes s no_shapes = no_shapes
later_shapes s (more_shapes offset header items rest) =
    more_shapes (s + offset) (later_header s header) (later_shapes s items) (later_shapes s rest)

module _ (x : List ℕ) (s end : ℕ) (order : s ≤ end) (small : end ≤ length x) where
  -- the octets of a slice
  abbrev y : List ℕ
  y = slice_range x s end

  -- a slice has as many octets as lie between its bounds
  length-slice : s + length y ≡ end
  length-slice = omega (arith, length-slice_range x s end order small, order)

  -- a slice of a slice is one of all octets
  slice_range-later : (i j : ℕ) → i ≤ j → j ≤ length y → slice_range x (s + i) (s + j) ≡ slice_range y i j
  slice_range-later i j up fits =
      let m = end - s - i in
      let size : end - s ≡ i + m = omega (arith, length-slice, fits, up) in
      let inner = ap (λ n. drop i (take n (drop s x))) size ∙ drop-take i m (drop s x) in
      let cut = take-take (j - i) m (drop i (drop s x)) (omega (arith, length-slice, fits, up)) in
      ap (λ n. take n (drop (s + i) x)) (omega (arith, up))
      ∙ (ap (take (j - i)) (sym (drop-drop i s x)) ∙ (sym cut ∙ ap (take (j - i)) (sym inner)))

  -- a header that was found in a slice is found in the document
  HeaderFound-later : (i e : ℕ) (h : PlacedHeader) → e ≤ length y → HeaderFound y i e h →
      HeaderFound x (s + i) (s + e) (later_header s h)
  HeaderFound-later i e h within f =
      let own = f.encoding in
      let octets : slice_range x (s + i) (s + h.end) ≡ slice_range y i h.end =
      slice_range-later i h.end (omega (arith, f.starts_after, f.order)) (omega (arith, f.ends_within, within)) in
      let contents : slice_range x (s + h.start) (s + h.end) ≡ slice_range y h.start h.end =
      slice_range-later h.start h.end f.order (omega (arith, f.ends_within, within)) in
      record {
        encoding = record {
          identifier = own.identifier;
          len = own.len;
          identifier_octets = own.identifier_octets;
          length_octets = subst (IsLength own.len) (ap length (sym contents)) own.length_octets;
          whole = octets ∙ (own.whole ∙ ap (λ z. own.identifier ++ (own.len ++ z)) (sym contents));
          size = omega (arith, own.size);
        };
        starts_after = omega (arith, f.starts_after);
        order = omega (arith, f.order);
        ends_within = omega (arith, f.ends_within);
        identifier_size = f.identifier_size;
        size_is = omega (arith, f.size_is);
        length_80 = f.length_80;
        indefinite = f.indefinite;
      }

  mutual
    -- encodings of a slice are encodings of the document
    AreShapes-later : (i e : ℕ) (all : Shapes) → e ≤ length y → AreShapes y i e all →
        AreShapes x (s + i) (s + e) (later_shapes s all)
    AreShapes-later i e all within (no_more end) = no_more (ap (λ n. s + n) end)
    AreShapes-later i e all within (one_more {header = h} {items = items} {rest = rest} f has more) =
        one_more (HeaderFound-later i e h within f)
        (HasItems-later h items (omega (arith, f.ends_within, within)) has)
        (AreShapes-later h.end e rest within more)

    -- and so are their items
    HasItems-later : (h : PlacedHeader) (items : Shapes) → h.end ≤ length y → HasItems y h items →
        HasItems x (later_header s h) (later_shapes s items)
    HasItems-later h items within (read_inside i are) =
        read_inside i (AreShapes-later h.start h.end items within are)
    HasItems-later h items within (as_it_came {fault = fault} {offset = o} other c p) =
        as_it_came other c (HeadersFaultAt-later h.start h.start h.end fault o within p)
    HasItems-later h items within (not_read shut) = not_read shut

    -- a fault of a slice is one of the document
    HeadersFaultAt-later : (start i e : ℕ) (fault : DecodeFault) (o : ℕ) → e ≤ length y →
        HeadersFaultAt y start i e fault o → HeadersFaultAt x (s + start) (s + i) (s + e) fault (s + o)
    HeadersFaultAt-later start i e fault o within (in_header more w) =
        let place : i - start ≡ s + i - (s + start) = omega arith in
        in_header (omega (arith, more))
        (subst (λ z. HeaderFault (s + i - (s + start)) z fault)
        (sym (slice_range-later i e (omega (arith, more)) within))
        (subst (λ n. HeaderFault n (slice_range y i e) fault) place w))
    HeadersFaultAt-later start i e fault o within (in_item {header = h} f u j p) =
        in_item (HeaderFound-later i e h within f) u j
        (HeadersFaultAt-later h.start h.start h.end fault o (omega (arith, f.ends_within, within)) p)
    HeadersFaultAt-later start i e fault o within (in_later {header = h} {items = items} f has p) =
        in_later (HeaderFound-later i e h within f)
        (HasItems-later h items (omega (arith, f.ends_within, within)) has)
        (HeadersFaultAt-later start h.end e fault o within p)

  -- encodings of a slice are those of the document up to its end
  pub AreShapes-slice : (all : Shapes) → AreShapes y 0 (length y) all → AreShapes x s end (later_shapes s all)
  AreShapes-slice all are =
      let first : s + 0 ≡ s = omega arith in
      subst (λ n. AreShapes x n end (later_shapes s all)) first
      (subst (λ n. AreShapes x (s + 0) n (later_shapes s all)) length-slice
      (AreShapes-later 0 (length y) all (omega arith) are))

  -- a fault of a slice is one of the document up to its end
  pub HeadersFaultAt-slice : (fault : DecodeFault) (o : ℕ) → HeadersFaultAt y 0 0 (length y) fault o →
      HeadersFaultAt x s s end fault (s + o)
  HeadersFaultAt-slice fault o p =
      let first : s + 0 ≡ s = omega arith in
      subst (λ n. HeadersFaultAt x n n end fault (s + o)) first
      (subst (λ n. HeadersFaultAt x (s + 0) (s + 0) n fault (s + o)) length-slice
      (HeadersFaultAt-later 0 0 (length y) fault o (omega arith) p))
