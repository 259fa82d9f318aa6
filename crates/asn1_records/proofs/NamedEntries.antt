-- The encoding that a path names by shapes is the one that it names by entries, for `paths::value_of`.
use Rattle.std.proofs.Common.{◌≡◌, ℕ, ℤ, zero, suc, ◌+◌, ◌<◌, ◌++◌, List, [], ◌∷◌, Option, None, Some, drop, get_or, length, refl, sym, ap, ◌∙◌, subst, arith, append-nil, append_assoc, length-append}
use Rattle.std.proofs.lemmas.Bool.{cond_above, cond_below}
use Rattle.std.proofs.lemmas.List.{get_or_at}
use Rattle.asn1_blocks.specs.declared.parsed.PlacedHeader.{PlacedHeader}
use Rattle.asn1_outline.specs.Entries.{no_entry}
use Rattle.asn1_outline.specs.Shapes.{Shapes, entries_of, more_shapes, no_shapes, shape_count, shape_entry}
use Rattle.asn1_outline.specs.Triple.{entry_at}
use Rattle.asn1_outline.specs.declared.entry.Entry.{Entry}
use Rattle.asn1_records.specs.Inner.Named.{shapes_at, shapes_from, shapes_inside}
use Rattle.asn1_records.specs.Paths.{if_found, index_at, index_inside, integer_in, item_from, items_end, no_value, value_at, value_with}
use Rattle.asn1_records.specs.declared.record.Value.{Value}

-- the index behind an encoding and all inside it
abbrev index_after : ℕ → ℕ → Shapes → ℕ
index_after j depth items = suc j + length (entries_of (suc j) (suc depth) items)

-- at the index stands the entry of an encoding, and then those of its items
record StandsAt (es : List Entry) (j depth o : ℕ) (h : PlacedHeader) (items : Shapes) : Type 0 where
  front : List Entry
  back : List Entry
  whole : es ≡ front ++ (shape_entry o h (shape_count items) (index_after j depth items) depth
      ∷ (entries_of (suc j) (suc depth) items ++ back))
  place : length front ≡ j

-- the entry at the index
entry_at-stands : (es : List Entry) (j depth o : ℕ) (h : PlacedHeader) (items : Shapes) →
    StandsAt es j depth o h items →
    entry_at es j ≡ shape_entry o h (shape_count items) (index_after j depth items) depth
entry_at-stands es j depth o h items s =
    let e = shape_entry o h (shape_count items) (index_after j depth items) depth in
    ap (λ z. entry_at z j) s.whole
    ∙ get_or_at s.front e (entries_of (suc j) (suc depth) items ++ s.back) no_entry j s.place

-- an index that was found is that of the first of the shapes; none was found where there are none
abbrev IsIndexOf : List Entry → Option ℕ → Shapes → Type 0
IsIndexOf es found no_shapes = found ≡ None
IsIndexOf es found (more_shapes o h items rest) =
    (j : ℕ) × (depth : ℕ) × (found ≡ Some j) × StandsAt es j depth o h items

-- entries of the first shapes, of those behind them, and more
entries-split : (i depth o : ℕ) (h : PlacedHeader) (items rest : Shapes) (back : List Entry) →
    entries_of i depth (more_shapes o h items rest) ++ back
    ≡ shape_entry o h (shape_count items) (index_after i depth items) depth
    ∷ (entries_of (suc i) (suc depth) items ++ (entries_of (index_after i depth items) depth rest ++ back))
entries-split i depth o h items rest back =
    ap (λ z. shape_entry o h (shape_count items) (index_after i depth items) depth ∷ z)
    (append_assoc (entries_of (suc i) (suc depth) items) (entries_of (index_after i depth items) depth rest) back)

-- an item by its number among shapes has the index that it has among entries
IsIndexOf-item_from :
    (es front back : List Entry) (i depth end : ℕ) (all : Shapes) (step : ℕ) →
    es ≡ front ++ (entries_of i depth all ++ back) → length front ≡ i →
    end ≡ i + length (entries_of i depth all)
    → IsIndexOf es (item_from es i end step) (shapes_from step all)
IsIndexOf-item_from es front back i depth end no_shapes zero whole place is =
    sym (cond_above i end (Some i) None None (omega (arith, is)) refl)
IsIndexOf-item_from es front back i depth end no_shapes (suc step) whole place is =
    sym (cond_above i end (item_from es (entry_at es i).next end step) None None (omega (arith, is)) refl)
IsIndexOf-item_from es front back i depth end (more_shapes o h items rest) zero whole place is =
    let own = entries_of (suc i) (suc depth) items in
    let later = entries_of (index_after i depth items) depth rest in
    let below : i < end = omega (arith, is) in
    let stands : StandsAt es i depth o h items = record {
      front = front;
      back = later ++ back;
      whole = whole ∙ ap (λ z. front ++ z) (entries-split i depth o h items rest back);
      place = place;
    } in
    (i, depth, sym (cond_below i end (Some i) None below), stands)
IsIndexOf-item_from es front back i depth end (more_shapes o h items rest) (suc step) whole place is =
    let e = shape_entry o h (shape_count items) (index_after i depth items) depth in
    let own = entries_of (suc i) (suc depth) items in
    let next = index_after i depth items in
    let later = entries_of next depth rest in
    let below : i < end = omega (arith, is) in
    let split = whole ∙ ap (λ z. front ++ z) (entries-split i depth o h items rest back) in
    let stands : StandsAt es i depth o h items = record {
      front = front;
      back = later ++ back;
      whole = split;
      place = place;
    } in
    let same : (entry_at es i).next ≡ next =
    ap (λ (z : Entry). z.next) (entry_at-stands es i depth o h items stands) in
    let on : item_from es i end (suc step) ≡ item_from es next end step =
    sym (cond_below i end (item_from es (entry_at es i).next end step) None below)
    ∙ ap (λ z. item_from es z end step) same in
    let behind : es ≡ (front ++ (e ∷ own)) ++ (later ++ back) =
    split ∙ sym (append_assoc front (e ∷ own) (later ++ back)) in
    let there : length (front ++ (e ∷ own)) ≡ next = omega (arith, length-append front (e ∷ own), place) in
    let to : end ≡ next + length later = omega (arith, is, length-append own later) in
    subst (λ z. IsIndexOf es z (shapes_from step rest)) (sym on)
    (IsIndexOf-item_from es (front ++ (e ∷ own)) back next depth end rest step behind there to)

-- inside an encoding, an item by its number among shapes has the index that it has among entries
IsIndexOf-inside : (es : List Entry) (j depth o : ℕ) (h : PlacedHeader) (items : Shapes) (step : ℕ) →
    StandsAt es j depth o h items
    → IsIndexOf es (item_from es (suc j) (items_end es j) step) (shapes_from step items)
IsIndexOf-inside es j depth o h items step s =
    let e = shape_entry o h (shape_count items) (index_after j depth items) depth in
    let own = entries_of (suc j) (suc depth) items in
    let next : (entry_at es j).next ≡ index_after j depth items =
    ap (λ (z : Entry). z.next) (entry_at-stands es j depth o h items s) in
    let size : length es ≡ length s.front + suc (length own + length s.back) =
    ap length s.whole ∙ length-append s.front (e ∷ (own ++ s.back))
    ∙ ap (λ z. length s.front + suc z) (length-append own s.back) in
    let to : items_end es j ≡ suc j + length own = omega (arith, next, size, s.place) in
    let whole : es ≡ (s.front ++ (e ∷ [])) ++ (own ++ s.back) =
    s.whole ∙ sym (append_assoc s.front (e ∷ []) (own ++ s.back)) in
    let place : length (s.front ++ (e ∷ [])) ≡ suc j = omega (arith, length-append s.front (e ∷ []), s.place) in
    IsIndexOf-item_from es (s.front ++ (e ∷ [])) s.back (suc j) (suc depth) (items_end es j) items step whole place to

-- inside no shapes there are none
pub shapes_inside-none : (steps : List ℕ) → shapes_inside no_shapes steps ≡ no_shapes
shapes_inside-none [] = refl
shapes_inside-none (step ∷ steps) = refl

-- the next step from an encoding leads to one of its items
shapes_inside-next : (o : ℕ) (h : PlacedHeader) (items later : Shapes) (steps : List ℕ) (k : ℕ) → k < length steps
    → shapes_inside (more_shapes o h items later) (drop k steps)
    ≡ shapes_inside (shapes_from (get_or steps k 0) items) (drop (suc k) steps)
shapes_inside-next o h items later [] k below = absurd (omega (arith, below))
shapes_inside-next o h items later (step ∷ steps) zero below = refl
shapes_inside-next o h items later (step ∷ steps) (suc k) below =
    shapes_inside-next o h items later steps k (omega (arith, below))

pub shapes_inside-step : (o : ℕ) (h : PlacedHeader) (items later : Shapes) (steps : List ℕ) (k : ℕ) → k < length steps
    → shapes_inside (more_shapes o h items later) (drop k steps)
    ≡ shapes_inside (shapes_from (get_or steps k 0) items) (drop (k + 1) steps)
shapes_inside-step o h items later steps k below =
    let next : suc k ≡ k + 1 = omega arith in
    shapes_inside-next o h items later steps k below
    ∙ ap (λ n. shapes_inside (shapes_from (get_or steps k 0) items) (drop n steps)) next

-- steps from an encoding lead to the same by shapes and by entries
IsIndexOf-steps : (es : List Entry) (found : Option ℕ) (all : Shapes) (steps : List ℕ) → IsIndexOf es found all →
    IsIndexOf es (if_found found (λ inside. index_inside es steps inside)) (shapes_inside all steps)
IsIndexOf-steps es found no_shapes steps is =
    let none : if_found found (λ inside. index_inside es steps inside) ≡ None =
    ap (λ z. if_found z (λ inside. index_inside es steps inside)) is in
    subst (λ z. IsIndexOf es (if_found found (λ inside. index_inside es steps inside)) z)
    (sym (shapes_inside-none steps)) none
IsIndexOf-steps es found (more_shapes o h items rest) [] (j, depth, is, s) =
    (j, depth, ap (λ z. if_found z (λ inside. index_inside es [] inside)) is, s)
IsIndexOf-steps es found (more_shapes o h items rest) (step ∷ steps) (j, depth, is, s) =
    let first = IsIndexOf-inside es j depth o h items step s in
    let on = IsIndexOf-steps es (item_from es (suc j) (items_end es j) step) (shapes_from step items) steps first in
    subst (λ z. IsIndexOf es (if_found z (λ inside. index_inside es (step ∷ steps) inside))
    (shapes_inside (shapes_from step items) steps)) (sym is) on

-- a path leads to the same by shapes and by entries
IsIndexOf-path : (all : Shapes) (path : List ℕ) → IsIndexOf (entries_of 0 0 all) (index_at (entries_of 0 0 all) path)
    (shapes_at all path)
IsIndexOf-path all [] = refl
IsIndexOf-path all (step ∷ steps) =
    let es = entries_of 0 0 all in
    let whole : es ≡ [] ++ (es ++ []) = sym (append-nil es) in
    let first = IsIndexOf-item_from es [] [] 0 0 (length es) all step whole refl (omega arith) in
    IsIndexOf-steps es (item_from es 0 (length es) step) (shapes_from step all) steps first

-- the value of an encoding does not depend on its items and its place among entries
value_with-shape_entry : (o : ℕ) (h : PlacedHeader) (items next depth : ℕ) (number : Option ℤ) →
    value_with (shape_entry o h items next depth) number ≡ value_with (shape_entry o h 0 1 0) number
value_with-shape_entry o h items next depth None = refl
value_with-shape_entry o h items next depth (Some n) = refl

-- what is answered of the first of the shapes
abbrev pub value_first : List ℕ → Shapes → Value
value_first octets no_shapes = no_value
value_first octets (more_shapes o h items rest) =
    value_with (shape_entry o h 0 1 0) (integer_in octets (shape_entry o h 0 1 0))

-- the value at an index that was found is that of the first of the shapes
value_at-found : (octets : List ℕ) (es : List Entry) (found : Option ℕ) (all : Shapes) → IsIndexOf es found all →
    value_at octets es found ≡ value_first octets all
value_at-found octets es found no_shapes is = ap (value_at octets es) is
value_at-found octets es found (more_shapes o h items rest) (j, depth, is, s) =
    let e = shape_entry o h (shape_count items) (index_after j depth items) depth in
    ap (value_at octets es) is
    ∙ ap (λ z. value_with z (integer_in octets z)) (entry_at-stands es j depth o h items s)
    ∙ value_with-shape_entry o h (shape_count items) (index_after j depth items) depth (integer_in octets e)

-- what is answered of a path, by shapes
pub value_at-path : (octets : List ℕ) (all : Shapes) (path : List ℕ) →
    value_at octets (entries_of 0 0 all) (index_at (entries_of 0 0 all) path) ≡ value_first octets (shapes_at all path)
value_at-path octets all path =
    value_at-found octets (entries_of 0 0 all) (index_at (entries_of 0 0 all) path) (shapes_at all path)
    (IsIndexOf-path all path)
