-- The steps of a walk over headers, for the functions of `header_walk`.
use Rattle.std.proofs.Common.{◌≡◌, ◌≢◌, ℕ, suc, ◌+◌, ◌≤◌, ◌++◌, true, List, [], ◌∷◌, Err, Global, Ok, OnOk, Result, Vec, inl, inr, length, reverse, take, refl, sym, ap, ◌∙◌, subst, arith, append_assoc, append-nil, length-append}
use Rattle.std.proofs.lemmas.Bool.{false≢true}
use Rattle.std.specs.declared.alloc.AllocError.{AllocError}
use Rattle.std.proofs.lemmas.List.{length-reverse}
use Rattle.asn1_headers.specs.Fault.{DecodeFault}
use Rattle.asn1_headers.specs.declared.header.ASN1Class.TheVariants.{Universal}
use Rattle.asn1_blocks.specs.HeadersBegun.{IsReadInside}
use Rattle.asn1_blocks.specs.Inner.OpenFrames.{IsKindOf, is_attempt}
use Rattle.asn1_blocks.specs.Inner.ReaderSteps.{IsEntered, in_frame, work_left, opened_at}
use Rattle.asn1_blocks.specs.Places.{HeaderFound}
use Rattle.asn1_blocks.specs.declared.parsed.PlacedHeader.{PlacedHeader}
use Rattle.asn1_blocks.specs.declared.read_loop.FrameKind.{FrameKind}
use Rattle.asn1_blocks.specs.declared.read_loop.FrameKind.TheVariants.{Whole, Group, Attempt}
use Rattle.asn1_blocks.specs.declared.read_loop.OpenFrame.{OpenFrame}
use Rattle.asn1_blocks.specs.declared.read_loop.Reader.{Reader}
use Rattle.asn1_blocks.specs.declared.read_loop.Turn.{Turn}
use Rattle.asn1_blocks.proofs.Frames.Advances.{FramePlaces}
use Rattle.asn1_blocks.proofs.Reader.Popping.{reverse-append_last}
use Rattle.asn1_outline.specs.Listing.{KeepsOf, with_items_at, with_items}
use Rattle.asn1_outline.specs.Shapes.{AreShapes, HasItems, HeadersFaultAt, Shapes, as_it_came, entries_of, in_item, in_later, more_shapes, no_more, no_shapes, one_more, read_inside, shape_count, shape_entry}
use Rattle.asn1_outline.specs.Walking.{AllOpen, HasWalkedOn, HasWalked, IsAtFault, WalksTo, Leads}
use Rattle.asn1_outline.specs.declared.entry.Entry.{Entry}
use Rattle.asn1_outline.specs.declared.entry_builder.EntryBuilder.{EntryBuilder}
use Rattle.asn1_outline.specs.declared.listing.EntryItems.{EntryItems}
use Rattle.asn1_outline.proofs.Listed.{with_items_at-behind_front, take-behind_front, with_one_more}

abbrev pub EntryFrame : Type 0
EntryFrame = OpenFrame EntryItems

abbrev pub Walk : Type 0
Walk = Reader EntryBuilder EntryItems

-- a frame that is an attempt is of another class than Universal
class-attempt : (kind : FrameKind) (h : PlacedHeader) → IsKindOf kind h → is_attempt kind ≡ true → h.class ≢ Universal
class-attempt Whole h is tries = absurd is
class-attempt (Group g) h is tries = absurd (false≢true tries)
class-attempt Attempt h is tries = is.0

-- a frame that is no attempt has the class Universal
class-group : (kind : FrameKind) (h : PlacedHeader) → IsKindOf kind h → (is_attempt kind ≡ true → ⊥) →
    h.class ≡ Universal
class-group Whole h is other = absurd is
class-group (Group g) h is other = is.0
class-group Attempt h is other = absurd (other refl)

-- the entry of an encoding, and those of what is inside it
abbrev pub entries_from : ℕ → PlacedHeader → Shapes → ℕ → ℕ → List Entry
entries_from offset h items at depth =
    shape_entry offset h (shape_count items) (suc at + length (entries_of (suc at) (suc depth) items))
    depth ∷ entries_of (suc at) (suc depth) items

-- contents octets are read up to their start, with no entries, before any step
pub WalksTo-start : (x : List ℕ) (s e i d : ℕ) → s ≤ e → e ≤ length x → WalksTo x s e s i d 0 []
WalksTo-start x s e i d order within = record {
  from = omega arith;
  to = order;
  within = within;
  and_then = λ rest. rest;
  shapes = λ rest are. are;
  fault = λ fault o p. p;
  entries = λ rest. ap (λ z. entries_of z d rest) (omega arith);
  counted = λ rest. omega arith;
}

-- reading one encoding more adds its entry and the entries inside it
WalksTo-one_more : (x : List ℕ) (s e p i d n at : ℕ) (own : List Entry) (h : PlacedHeader) (items : Shapes) →
    at ≡ i + length own → WalksTo x s e p i d n own
    → HeaderFound x p e h → HasItems x h items → WalksTo x s e h.end i d (n + 1) (own ++ entries_from p h items at d)
WalksTo-one_more x s e p i d n at own h items here w f inside =
    let new = entries_from p h items at d in
    let next : suc at + length (entries_of (suc at) (suc d) items) ≡ i + length (own ++ new) =
    omega (arith, here, length-append own new) in
    record {
      from = omega (arith, w.from, f.starts_after, f.order);
      to = f.ends_within;
      within = w.within;
      and_then = λ rest. w.and_then (more_shapes p h items rest);
      shapes = λ rest are. w.shapes (more_shapes p h items rest) (one_more f inside are);
      fault = λ fault o q. w.fault fault o (in_later f inside q);
      entries = λ rest.
          w.entries (more_shapes p h items rest)
          ∙ ap (λ z. own ++ entries_of z d (more_shapes p h items rest)) (sym here)
          ∙ sym (append_assoc own new (entries_of (suc at + length (entries_of (suc at) (suc d) items)) d rest))
          ∙ ap (λ z. (own ++ new) ++ entries_of z d rest) next;
      counted = λ rest. omega (arith, w.counted (more_shapes p h items rest));
    }

-- the frame with one item more
abbrev pub with_one_counted : EntryFrame → EntryFrame
with_one_counted f = record f { items = record f.items { count = f.items.count + 1 } }

-- the innermost of open frames has been read to a place between its start and its end
pub AllOpen-places : (x : List ℕ) (f : EntryFrame) (gs : List EntryFrame) (p : ℕ) (rs : List Entry) →
    AllOpen x f gs p rs → FramePlaces x f.extent p
AllOpen-places x f [] p rs w = record { from = w.read.from; to = w.read.to; within = w.read.within }
AllOpen-places x f (g ∷ gs) p rs w = record { from = w.read.from; to = w.read.to; within = w.read.within }

-- reading one encoding more in the innermost frame counts one item, and adds the entries of the encoding
pub AllOpen-one_more : (x : List ℕ) (f : EntryFrame) (gs : List EntryFrame) (p : ℕ) (rs : List Entry) (h : PlacedHeader)
    (items : Shapes) →
    AllOpen x f gs p rs
    → HeaderFound x p f.extent.end h → HasItems x h items →
    AllOpen x (with_one_counted f) gs h.end (rs ++ entries_from p h items (length rs) (length gs))
AllOpen-one_more x f [] p rs h items w found inside = record {
  start = w.start;
  end = w.end;
  read =
      WalksTo-one_more x f.extent.start f.extent.end p 0 0 f.items.count (length rs) rs h items
      (omega arith) w.read found
      inside;
}
AllOpen-one_more x f (g ∷ gs) p rs h items w found inside =
    let new = entries_from p h items (length rs) (length (g ∷ gs)) in
    let at : length rs ≡ suc f.items.entry + length w.own =
    omega (
      arith,
      ap length w.whole,
      w.entry,
      length-append w.front (shape_entry w.offset w.header 0 (suc f.items.entry) (length gs) ∷ w.own),
    ) in
    record {
      offset = w.offset;
      header = w.header;
      front = w.front;
      own = w.own ++ new;
      whole = ap (λ z. z ++ new) w.whole ∙ append_assoc w.front _ new;
      entry = w.entry;
      found = w.found;
      inside = w.inside;
      start = w.start;
      end = w.end;
      kind = w.kind;
      read =
          WalksTo-one_more x f.extent.start f.extent.end p (suc f.items.entry) (suc (length gs)) f.items.count
          (length rs)
          w.own h items at w.read found inside;
      around = w.around;
    }

-- a frame begins in the innermost one
pub AllOpen-enter : (x : List ℕ) (f g : EntryFrame) (gs : List EntryFrame) (p : ℕ) (rs : List Entry)
    (h : PlacedHeader) →
    AllOpen x g gs p rs → HeaderFound x p g.extent.end h
    → IsReadInside h.class h.constructed h.tag → f.extent.start ≡ h.start → f.extent.end ≡ h.end →
    f.items.entry ≡ length rs → f.items.count ≡ 0
    → IsKindOf f.extent.kind h
    → AllOpen x f (g ∷ gs) h.start (rs ++ shape_entry p h 0 (suc (length rs)) (length gs) ∷ [])
AllOpen-enter x f g gs p rs h w found inside start end entry none kind =
    let v = AllOpen-places x g gs p rs w in
    let read = WalksTo-start x h.start h.end (suc f.items.entry) (suc (length gs)) found.order
    (omega (arith, found.ends_within, v.within)) in
    record {
      offset = p;
      header = h;
      front = rs;
      own = [];
      whole = ap (λ z. rs ++ shape_entry p h 0 (suc z) (length gs) ∷ []) (sym entry);
      entry = entry;
      found = found;
      inside = inside;
      start = start;
      end = end;
      kind = kind;
      read = subst (λ z. WalksTo x f.extent.start f.extent.end h.start (suc f.items.entry) (suc (length gs)) z [])
          (sym none)
          (subst (λ z. WalksTo x z f.extent.end h.start (suc f.items.entry) (suc (length gs)) 0 []) (sym start)
          (subst (λ z. WalksTo x h.start z h.start (suc f.items.entry) (suc (length gs)) 0 []) (sym end) read));
      around = w;
    }

-- a frame that has ended is one item more of the frame around it
pub AllOpen-close : (x : List ℕ) (f g : EntryFrame) (gs : List EntryFrame) (p : ℕ) (rs : List Entry) →
    p ≡ f.extent.end →
    AllOpen x f (g ∷ gs) p rs
    → AllOpen x (with_one_counted g) gs p (with_items_at rs f.items.entry f.items.count)
AllOpen-close x f g gs p rs ended w =
    let h = w.header in
    let n = f.items.count in
    let d = length gs in
    let all = w.read.and_then no_shapes in
    let are : AreShapes x f.extent.start f.extent.end all = w.read.shapes no_shapes (no_more ended) in
    let inside : HasItems x h all = read_inside w.inside
    (subst (λ z. AreShapes x z h.end all) w.start (subst (λ z. AreShapes x f.extent.start z all) w.end are)) in
    let made = AllOpen-one_more x g gs w.offset w.front h all w.around w.found inside in
    let at : AllOpen x (with_one_counted g) gs p (w.front ++ entries_from w.offset h all (length w.front) d) =
    subst (λ z. AllOpen x (with_one_counted g) gs z (w.front ++ entries_from w.offset h all (length w.front) d))
    (sym w.end ∙ sym ended) made in
    let size : length rs ≡ length w.front + suc (length w.own) =
    ap length w.whole ∙ length-append w.front (shape_entry w.offset h 0 (suc f.items.entry) d ∷ w.own) in
    let own : entries_of (suc (length w.front)) (suc d) all ≡ w.own =
    ap (λ z. entries_of (suc z) (suc d) all) (sym w.entry) ∙ w.read.entries no_shapes ∙ append-nil w.own in
    let count : shape_count all ≡ n = omega (arith, w.read.counted no_shapes) in
    let next : suc (length w.front) + length (entries_of (suc (length w.front)) (suc d) all) ≡ length rs =
    omega (arith, ap length own, size) in
    let same : w.front ++ entries_from w.offset h all (length w.front) d ≡ w.front
    ++ shape_entry w.offset h n (length rs) d ∷ w.own =
    ap (λ z. w.front ++ shape_entry w.offset h z
    (suc (length w.front) + length (entries_of (suc (length w.front)) (suc d) all)) d
    ∷ entries_of (suc (length w.front)) (suc d) all) count
    ∙ ap (λ z. w.front ++ shape_entry w.offset h n z d ∷ entries_of (suc (length w.front)) (suc d) all) next
    ∙ ap (λ z. w.front ++ shape_entry w.offset h n (length rs) d ∷ z) own in
    let head = shape_entry w.offset h 0 (suc f.items.entry) d in
    let set : with_items_at rs f.items.entry n ≡ w.front ++ shape_entry w.offset h n (length rs) d ∷ w.own =
    ap (λ z. with_items_at z f.items.entry n) w.whole
    ∙ ap (λ z. with_items_at (w.front ++ head ∷ w.own) z n) w.entry
    ∙ with_items_at-behind_front w.front head w.own n
    ∙ ap (λ z. w.front ++ with_items n (length z) head ∷ w.own) (sym w.whole) in
    subst (AllOpen x (with_one_counted g) gs p) (same ∙ sym set) at

-- an attempt with a fault stays as it came, and is one item more of the frame around it
pub AllOpen-failed_attempt : (x : List ℕ) (f g : EntryFrame) (gs : List EntryFrame) (p : ℕ) (rs front more : List Entry)
    (fault : DecodeFault)
    (o : ℕ) → rs ≡ front ++ more
    → AllOpen x f (g ∷ gs) p front → HeadersFaultAt x f.extent.start p f.extent.end fault o →
    is_attempt f.extent.kind ≡ true
    → AllOpen x (with_one_counted g) gs f.extent.end (take (suc f.items.entry) rs)
AllOpen-failed_attempt x f g gs p rs front more fault o whole w q tries =
    let h = w.header in
    let d = length gs in
    let q' : HeadersFaultAt x h.start h.start h.end fault o =
    subst (λ z. HeadersFaultAt x z z h.end fault o) w.start
    (subst (λ z. HeadersFaultAt x f.extent.start f.extent.start z fault o) w.end (w.read.fault fault o q)) in
    let other : h.class ≢ Universal = class-attempt f.extent.kind h w.kind tries in
    let bit : h.constructed ≡ true = elim w.inside [ inl u ↦ absurd (other u.0) | inr u ↦ u.1 ] in
    let made = AllOpen-one_more x g gs w.offset w.front h no_shapes w.around w.found (as_it_came other bit q') in
    let head = shape_entry w.offset h 0 (suc f.items.entry) d in
    let own : w.front ++ entries_from w.offset h no_shapes (length w.front) d ≡ w.front ++ head ∷ [] =
    ap (λ z. w.front ++ shape_entry w.offset h 0 z d ∷ []) (omega (arith, w.entry)) in
    let all : rs ≡ w.front ++ head ∷ (w.own ++ more) =
    whole ∙ ap (λ z. z ++ more) w.whole ∙ append_assoc w.front (head ∷ w.own) more in
    let cut : take (suc f.items.entry) rs ≡ w.front ++ head ∷ [] =
    ap (take (suc f.items.entry)) all
    ∙ ap (λ z. take (suc z) (w.front ++ head ∷ (w.own ++ more))) w.entry
    ∙ take-behind_front w.front head (w.own ++ more) in
    subst (λ z. AllOpen x (with_one_counted g) gs z (take (suc f.items.entry) rs)) (sym w.end)
    (subst (AllOpen x (with_one_counted g) gs h.end) (own ∙ sym cut) made)

-- the fault of a group that was left is one of the frame around the group
pub record FaultGoesOut (x : List ℕ) (g : EntryFrame) (gs : List EntryFrame) (rs : List Entry) (fault : DecodeFault)
    (o : ℕ) : Type 0
  where
    pub reached : ℕ
    pub front : List Entry
    pub more : List Entry
    pub whole : rs ≡ front ++ more
    pub opened : AllOpen x g gs reached front
    pub stops : HeadersFaultAt x g.extent.start reached g.extent.end fault o

-- a fault in a group is one of the frame around it
pub FaultGoesOut-group : (x : List ℕ) (f g : EntryFrame) (gs : List EntryFrame) (p : ℕ) (rs front more : List Entry)
    (fault : DecodeFault)
    (o : ℕ) → rs ≡ front ++ more
    → AllOpen x f (g ∷ gs) p front → HeadersFaultAt x f.extent.start p f.extent.end fault o →
    (is_attempt f.extent.kind ≡ true → ⊥) → FaultGoesOut x g gs rs fault o
FaultGoesOut-group x f g gs p rs front more fault o whole w q group =
    let h = w.header in
    let head = shape_entry w.offset h 0 (suc f.items.entry) (length gs) in
    let q' : HeadersFaultAt x h.start h.start h.end fault o =
    subst (λ z. HeadersFaultAt x z z h.end fault o) w.start
    (subst (λ z. HeadersFaultAt x f.extent.start f.extent.start z fault o) w.end (w.read.fault fault o q)) in
    record {
      reached = w.offset;
      front = w.front;
      more = head ∷ (w.own ++ more);
      whole = whole ∙ ap (λ z. z ++ more) w.whole ∙ append_assoc w.front (head ∷ w.own) more;
      opened = w.around;
      stops = in_item w.found (class-group f.extent.kind h w.kind group) w.inside q';
    }

-- a frame ends within the frame around it
pub end-enclosing_le : (x : List ℕ) (f g : EntryFrame) (gs : List EntryFrame) (p : ℕ) (rs : List Entry) →
    AllOpen x f (g ∷ gs) p rs →
    f.extent.end ≤ g.extent.end
end-enclosing_le x f g gs p rs w = omega (arith, w.end, w.found.ends_within)

-- the document was read where no frame is open but its own, and that has ended
pub AreShapes-document : (x : List ℕ) (f : EntryFrame) (p : ℕ) (rs : List Entry) → p ≡ f.extent.end →
    AllOpen x f [] p rs
    → (all : Shapes) × AreShapes x 0 (length x) all × (rs ≡ entries_of 0 0 all)
AreShapes-document x f p rs ended w =
    let all = w.read.and_then no_shapes in
    let are = w.read.shapes no_shapes (no_more ended) in
    let own : entries_of 0 0 all ≡ rs = w.read.entries no_shapes ∙ append-nil rs in (
      all,
      subst (λ z. AreShapes x z (length x) all) w.start (subst (λ z. AreShapes x f.extent.start z all) w.end are),
      sym own,
    )

-- a fault in the frame of the document is one of the document
pub HeadersFaultAt-document : (x : List ℕ) (f : EntryFrame) (p : ℕ) (rs : List Entry) (fault : DecodeFault) (o : ℕ) →
    AllOpen x f [] p rs
    → HeadersFaultAt x f.extent.start p f.extent.end fault o → HeadersFaultAt x 0 0 (length x) fault o
HeadersFaultAt-document x f p rs fault o w q =
    subst (λ z. HeadersFaultAt x z z (length x) fault o) w.start
    (subst (λ z. HeadersFaultAt x f.extent.start f.extent.start z fault o) w.end (w.read.fault fault o q))

-- frames that are open stay so when equal frames, place and entries stand for them
pub AllOpen-equal : (x : List ℕ) (f f' : EntryFrame) (gs gs' : List EntryFrame) (p p' : ℕ) (rs rs' : List Entry) →
    f' ≡ f →
    gs' ≡ gs → p' ≡ p → rs' ≡ rs
    → AllOpen x f gs p rs → AllOpen x f' gs' p' rs'
AllOpen-equal x f f' gs gs' p p' rs rs' a b c d w =
    subst (AllOpen x f' gs' p') (sym d)
    (subst (λ z. AllOpen x f' gs' z rs) (sym c)
    (subst (λ z. AllOpen x f' z p rs) (sym b) (subst (λ z. AllOpen x z gs p rs) (sym a) w)))

module _ (x : List ℕ) (w : Walk) where
  -- the walk goes on behind a leaf
  pub HasWalkedOn-leaf :
      (h : PlacedHeader) (b : EntryBuilder) (i : EntryItems) (all : List Entry) →
      AllOpen x w.inner (reverse w.outer.items) w.index all → HeaderFound x w.index w.inner.extent.end h →
      HasItems x h no_shapes →
      KeepsOf b (all ++ shape_entry w.index h 0 (suc (length all)) (length w.outer.items) ∷ []) →
      i ≡ with_one_more w.inner.items →
      HasWalkedOn x (record {
        inner = record w.inner { items = i };
        outer = w.outer;
        index = h.end;
        builder = b;
        fault =
            w.fault;
      }) (work_left (length x) w.index w.outer.items)
  HasWalkedOn-leaf h b i all walking found inside added more =
      let gs = reverse w.outer.items in
      let v = AllOpen-places x w.inner gs w.index all walking in
      let new = all ++ shape_entry w.index h 0 (suc (length all)) (length w.outer.items) ∷ [] in
      let now = AllOpen-one_more x w.inner gs w.index all h no_shapes walking found inside in
      let same : new ≡ all ++ entries_from w.index h no_shapes (length all) (length gs) =
      ap (λ z. all ++ shape_entry w.index h 0 z (length w.outer.items) ∷ []) (omega arith)
      ∙ ap (λ z. all ++ shape_entry w.index h 0 (suc (length all) + 0) z ∷ []) (sym (length-reverse w.outer.items)) in
      record {
        reading = (
          new,
          added,
          AllOpen-equal x (with_one_counted w.inner)
              (record w.inner { items = i }) gs gs h.end h.end _ new
              (ap (λ (z : EntryItems). record w.inner { items = z }) more) refl refl same now,
        );
        nearer = omega (arith, found.starts_after, found.order, found.ends_within, v.within);
      }

  -- the walk goes on inside a frame that was entered
  pub HasWalkedOn-enter :
      (h : PlacedHeader) (b : EntryBuilder) (n : ℕ) (kind : FrameKind) (r : Walk) (all : List Entry) →
      AllOpen x w.inner (reverse w.outer.items) w.index all → HeaderFound x w.index w.inner.extent.end h →
      IsReadInside h.class h.constructed h.tag → IsKindOf kind h →
      n ≡ length all →
      KeepsOf b (all ++ shape_entry w.index h 0 (suc (length all)) (length w.outer.items) ∷ []) →
      IsEntered (record w { builder = b }) (in_frame (opened_at w.index kind h) (record { entry = n; count = 0 })) r →
      HasWalkedOn x r (work_left (length x) w.index w.outer.items)
  HasWalkedOn-enter h b n kind r all walking found inside is_kind at added e =
      let gs = reverse w.outer.items in
      let f : EntryFrame = in_frame (opened_at w.index kind h) (record { entry = n; count = 0 }) in
      let v = AllOpen-places x w.inner gs w.index all walking in
      let new = all ++ shape_entry w.index h 0 (suc (length all)) (length w.outer.items) ∷ [] in
      let now = AllOpen-enter x f w.inner gs w.index all h walking found inside refl refl at refl is_kind in
      let same : new ≡ all ++ shape_entry w.index h 0 (suc (length all)) (length gs) ∷ [] =
      ap (λ z. all ++ shape_entry w.index h 0 (suc (length all)) z ∷ []) (sym (length-reverse w.outer.items)) in
      record {
        reading = (
          new,
          subst (λ (z : EntryBuilder). KeepsOf z new) (sym e.builder) added,
          AllOpen-equal x f r.inner (w.inner ∷ gs) (reverse r.outer.items) h.start r.index _ new
              e.inner (reverse-append_last r.outer.items w.outer.items w.inner e.outer) e.index same now,
        );
        nearer = omega (
          arith,
          e.index,
          ap length e.outer,
          length-append w.outer.items (w.inner ∷ []),
          found.starts_after,
          found.order,
          found.ends_within,
          v.within,
        );
      }

  module _ (g : EntryFrame) (outer : Vec EntryFrame Global) (fault : DecodeFault) (o most : ℕ)
      (faulty : IsAtFault x w fault o most) (popped : w.outer.items ≡ outer.items ++ g ∷ []) where
    -- what is open where a fault is, with the frame around that was taken out of the list
    AllOpen-popped : AllOpen x w.inner (g ∷ reverse outer.items) faulty.reached faulty.front
    AllOpen-popped = subst (λ z. AllOpen x w.inner z faulty.reached faulty.front)
        (reverse-append_last w.outer.items outer.items g popped) faulty.opened

    -- the walk goes on behind an attempt with a fault, which stays as it came
    pub HasWalkedOn-failed_attempt :
        (b : EntryBuilder) (i : EntryItems) → is_attempt w.inner.extent.kind ≡ true →
        ((all : List Entry) → KeepsOf w.builder all → KeepsOf b (take (suc w.inner.items.entry) all)) →
        i ≡ with_one_more g.items →
        HasWalkedOn x (record {
          inner = record g { items = i };
          outer = outer;
          index = w.inner.extent.end;
          builder =
              b;
          fault = w.fault;
        }) most
    HasWalkedOn-failed_attempt b i tries cut more =
        let gs = reverse outer.items in
        let rs = faulty.front ++ faulty.more in
        let left = take (suc w.inner.items.entry) rs in
        let now =
        AllOpen-failed_attempt x w.inner g gs faulty.reached rs faulty.front faulty.more fault o refl
        AllOpen-popped faulty.stops tries in
        record {
          reading = (
            left,
            cut rs faulty.whole,
            AllOpen-equal x (with_one_counted g)
                (record g { items = i }) gs gs w.inner.extent.end w.inner.extent.end _ left
                (ap (λ (z : EntryItems). record g { items = z }) more) refl refl refl now,
          );
          nearer = omega (arith, faulty.nearer, ap length popped, length-append outer.items (g ∷ []));
        }

    -- a fault in a group goes on to the frame around it
    pub IsAtFault-enclosing : (is_attempt w.inner.extent.kind ≡ true → ⊥)
        → IsAtFault x (record { inner = g; outer = outer; index = w.index; builder = w.builder; fault = w.fault }) fault
        o most
    IsAtFault-enclosing group =
        let gs = reverse outer.items in
        let on =
        FaultGoesOut-group x w.inner g gs faulty.reached (faulty.front ++ faulty.more) faulty.front faulty.more fault o
        refl AllOpen-popped faulty.stops group in
        let after = end-enclosing_le x w.inner g gs faulty.reached faulty.front AllOpen-popped in
        record {
          reached = on.reached;
          front = on.front;
          more = on.more;
          whole = subst (KeepsOf w.builder) on.whole faulty.whole;
          opened = on.opened;
          stops = on.stops;
          nearer = omega (arith, after, faulty.nearer, ap length popped, length-append outer.items (g ∷ []));
        }

  -- a fault with no frame around it is that of the document
  pub HeadersFaultAt-faulty : (fault : DecodeFault) (o most : ℕ) → IsAtFault x w fault o most → w.outer.items ≡ []
      → HeadersFaultAt x 0 0 (length x) fault o
  HeadersFaultAt-faulty fault o most faulty none =
      HeadersFaultAt-document x w.inner faulty.reached faulty.front fault o
      (subst (λ z. AllOpen x w.inner (reverse z) faulty.reached faulty.front) none faulty.opened) faulty.stops

  -- a step leads on, or stops where memory ran out
  pub HasWalked-stepped : (most : ℕ) (step : Result (Unit {0}) AllocError) (t : Turn) (r : Walk) → Leads step w t r →
      OnOk step (HasWalkedOn x w most)
      → HasWalked x t r most
  HasWalked-stepped most (Ok u) t r is on =
      subst (λ z. HasWalked x z r most) (sym is.0) (subst (λ z. HasWalkedOn x z most) (sym is.1) on)
  HasWalked-stepped most (Err a) t r is on = subst (λ z. HasWalked x z r most) (sym is.0) (inl is.1)
