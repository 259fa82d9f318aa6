-- Each encoding has at least two octets that are in no other, for `simple_asn1_outline`.
use Rattle.std.proofs.Common.{ℕ, suc, ◌+◌, ◌-◌, ◌*◌, ◌≤◌, List, length, arith, length-append}
use Rattle.std.specs.List.{slice_range}
use Rattle.simple_asn1.specs.Shapes.{AreShapes, HasItems, HasShapes, Shapes, as_it_came, entries_of, no_more, not_read, one_more, read_inside}
use Rattle.asn1_blocks.specs.Places.{HeaderFound}
use Rattle.asn1_blocks.specs.declared.parsed.PlacedHeader.{PlacedHeader}
use Rattle.asn1_blocks.proofs.ReadSteps.{length-slice_range}
use Rattle.asn1_outline.proofs.Standing.{length-contents_two_less}

-- a header has at least two octets
start-two_octets : (x : List ℕ) (p e : ℕ) (h : PlacedHeader) → e ≤ length x → HeaderFound x p e h → p + 2 ≤ h.start
start-two_octets x p e h within f =
    let more =
    length-contents_two_less (slice_range x p h.end) h.class h.constructed h.tag (slice_range x h.start h.end)
    (h.start - p) f.encoding in
    let all =
    length-slice_range x p h.end (omega (arith, f.starts_after, f.order)) (omega (arith, f.ends_within, within)) in
    let contents = length-slice_range x h.start h.end f.order (omega (arith, f.ends_within, within)) in
    omega (arith, more, all, contents, f.starts_after, f.order)

mutual
  -- octets are at least two for each entry of their shapes
  length-entries_of_shapes_le : (x : List ℕ) (p e i d : ℕ) (all : Shapes) → e ≤ length x → AreShapes x p e all →
      2 * length (entries_of i d all) + p ≤ e
  length-entries_of_shapes_le x p e i d all within (no_more end) = omega (arith, end)
  length-entries_of_shapes_le x p e i d all within (one_more {header = h} {items = items} {rest = rest} f has are) =
      let next = suc i + length (entries_of (suc i) (suc d) items) in
      let own = start-two_octets x p e h within f in
      let inside =
      length-entries_of_items_le x h (suc i) (suc d) items (omega (arith, f.ends_within, within)) f.order has in
      let after = length-entries_of_shapes_le x h.end e next d rest within are in
      omega (
        arith,
        own,
        inside,
        after,
        f.order,
        length-append (entries_of (suc i) (suc d) items) (entries_of next d rest),
      )

  -- contents octets are at least two for each entry of their items
  length-entries_of_items_le : (x : List ℕ) (h : PlacedHeader) (i d : ℕ) (all : Shapes) → h.end ≤ length x →
      h.start ≤ h.end →
      HasItems x h all
      → 2 * length (entries_of i d all) + h.start ≤ h.end
  length-entries_of_items_le x h i d all within order (read_inside is are) =
      length-entries_of_shapes_le x h.start h.end i d all within are
  length-entries_of_items_le x h i d all within order (as_it_came other bit fault) = omega (arith, order)
  length-entries_of_items_le x h i d all within order (not_read shut) = omega (arith, order)

-- octets have at least two for each entry of their headers
pub length-entries_le : (x : List ℕ) (all : Shapes) → HasShapes x all → 2 * length (entries_of 0 0 all) ≤ length x
length-entries_le x all has = omega (arith, length-entries_of_shapes_le x 0 (length x) 0 0 all (omega arith) has.shapes)
