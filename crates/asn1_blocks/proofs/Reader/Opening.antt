-- The reader at a header: where it is, and what a frame inside, a leaf or a fault there leads to, for
-- `read_loop::read_next`, `read_loop::take_step` and `read_loop::read_into`.
use Rattle.std.proofs.Common.{◌≡◌, ◌≢◌, ℕ, ◌+◌, ◌-◌, ◌<◌, ◌≤◌, ◌^◌, List, [], ◌∷◌, length, reverse, refl, sym, ap, ◌∙◌, subst, arith, length-append}
use Rattle.std.specs.List.{slice_range}
use Rattle.std.proofs.lemmas.List.{length-reverse, reverse-append}
use Rattle.asn1_headers.specs.Fault.{DecodeFault}
use Rattle.asn1_headers.specs.HeaderFault.{HeaderFault}
use Rattle.asn1_blocks.specs.declared.read_loop.FrameKind.{FrameKind}
use Rattle.asn1_blocks.specs.declared.read_loop.OpenFrame.{OpenFrame}
use Rattle.asn1_blocks.specs.declared.read_loop.Reader.{Reader}
use Rattle.asn1_blocks.specs.declared.parsed.PlacedHeader.{PlacedHeader}
use Rattle.asn1_blocks.specs.HeadersBegun.{IsReadInside}
use Rattle.asn1_blocks.specs.Inner.OpenFrames.{AreOpen, IsKindOf, IsStopping}
use Rattle.asn1_blocks.specs.Places.{HeaderFound}
use Rattle.asn1_blocks.specs.Inner.ReaderSteps.{GoesOn, HasLeaf, HasOpened, Holding, IsEntered, IsFaulty, IsLeafFault, IsReading, frame, frames, work_left, opened_at}
use Rattle.asn1_blocks.proofs.Frames.Advances.{AreOpen-headers_le, AreOpen-places}
use Rattle.asn1_blocks.proofs.Frames.Opening.{IsStopping-header, IsHeaded-by_header, Follows-leaf, IsStopping-leaf, AreOpen-open}
use Rattle.asn1_blocks.proofs.Reader.Closing.{GoesOn-follows}

-- where the reader is
pub record ReaderPlaces {B I : Type 0} (octets : List ℕ) (r : Reader B I) (n : ℕ) : Type 0 where
  pub from : r.inner.extent.start ≤ r.index
  pub to : r.index ≤ r.inner.extent.end
  pub within : r.inner.extent.end ≤ length octets
  pub bound : n ≤ r.index

module _ {B I : Type 0} (Holds : Holding B I) (octets : List ℕ) where
  -- the index of a reader lies in its innermost frame, and its frame in the octets
  pub IsReading-places : (r : Reader B I) (n : ℕ) → IsReading Holds octets r n → ReaderPlaces octets r n
  IsReading-places r n w =
      let f = frame r.inner w.trees in
      let gs = frames (reverse r.outer.items) w.outer in
      let v = AreOpen-places octets f gs r.index n w.opened in
      record { from = v.from; to = v.to; within = v.within; bound = AreOpen-headers_le octets f gs r.index n w.opened }

  -- where a frame was opened at the header, reading goes on inside it
  pub GoesOn-open :
      (a r : Reader B I) (h : PlacedHeader) (n depth : ℕ) (kind : FrameKind) (items : I) (b : B) →
      depth ≡ length a.outer.items → IsKindOf kind h →
      HasOpened Holds octets h a.index depth a.builder items b →
      IsEntered (record { inner = a.inner; outer = a.outer; index = a.index; builder = b; fault = a.fault })
      (record { extent = opened_at a.index kind h; items = items }) r →
      HeaderFound octets a.index a.inner.extent.end h → IsReading Holds octets a n →
      GoesOn Holds octets r (n + 1) (work_left (length octets) a.index a.outer.items)
  GoesOn-open a r h n depth kind items b d is new u found w =
      let outer = a.outer.items in
      let f : OpenFrame I = record { extent = opened_at a.index kind h; items = items } in
      let headed = IsHeaded-by_header octets kind a.index a.inner.extent.end h is found in
      let o = AreOpen-open octets (frame a.inner w.trees) (frame f []) (frames (reverse outer) w.outer) a.index n refl
      headed refl found.starts_after found.order found.ends_within
      w.opened in
      let k =
      new.holds kind a.inner (reverse outer) (w.trees ∷ w.outer) (omega (arith, d, length-reverse outer)) is w.holds in
      let around : reverse r.outer.items ≡ a.inner ∷ reverse outer =
      ap reverse u.outer ∙ reverse-append outer (a.inner ∷ []) in
      let all = w.trees ∷ w.outer in
      let l : length r.outer.items ≡ length outer + 1 =
      omega (arith, ap length u.outer, length-append outer (a.inner ∷ [])) in
      let v = IsReading-places a n w in
      record {
        reading = record {
          trees = [];
          outer = all;
          matched = omega (arith, ap length around, w.matched);
          holds = subst (λ x. Holds octets r.builder (r.inner ∷ x) ([] ∷ all)) (sym around)
              (subst (λ x. Holds octets x (r.inner ∷ a.inner ∷ reverse outer) ([] ∷ all)) (sym u.builder)
              (subst (λ x. Holds octets b (x ∷ a.inner ∷ reverse outer) ([] ∷ all)) (sym u.inner) k));
          opened = subst (λ x. AreOpen octets (frame r.inner []) (frames x all) r.index (n + 1)) (sym around)
              (subst (λ x. AreOpen octets (frame x []) (frames (a.inner ∷ reverse outer) all) r.index (n + 1))
              (sym u.inner)
              (subst (λ x. AreOpen octets (frame f []) (frames (a.inner ∷ reverse outer) all) x (n + 1)) (sym u.index)
              o));
        };
        nearer = omega (arith, u.index, l, found.starts_after, found.order, found.ends_within, v.within);
      }

  -- where a leaf stands at the header, reading goes on behind it
  pub GoesOn-leaf :
      (a : Reader B I) (h : PlacedHeader) (n depth : ℕ) (b : B) (j : I) → depth ≡ length a.outer.items →
      HeaderFound octets a.index a.inner.extent.end h →
      (IsReadInside h.class h.constructed h.tag → ⊥) →
      HasLeaf Holds octets a.index h.end depth a.builder a.inner.items b j →
      IsReading Holds octets a n →
      GoesOn Holds octets
      (record {
        inner = record { extent = a.inner.extent; items = j };
        outer = a.outer;
        index = h.end;
        builder =
            b;
        fault = a.fault;
      }) (n + 1) (work_left (length octets) a.index a.outer.items)
  GoesOn-leaf a h n depth b j d found shut leaf w =
      let gs = reverse a.outer.items in
      let v = IsReading-places a n w in
      let held =
      leaf.more.holds a.inner.extent gs w.trees w.outer (omega (arith, d, length-reverse a.outer.items)) w.holds in
      GoesOn-follows Holds octets a.inner.extent j a.outer h.end b a.fault w.trees w.outer leaf.tree (n + 1)
      (work_left (length octets) a.index a.outer.items)
      (omega (arith, found.starts_after, found.order, found.ends_within, v.within)) w.matched held
      (record {
        reached = a.index;
        before = n;
        own = 1;
        opened = w.opened;
        follows = Follows-leaf octets (frame a.inner w.trees) a.index h leaf.tree found shut leaf.encoded;
        total = refl;
      })

  -- a reader whose frames stop at its index is at fault there
  IsFaulty-still : (a : Reader B I) (e : DecodeFault) (n m : ℕ) (w : IsReading Holds octets a n)
      → IsStopping octets (frame a.inner w.trees) (frames (reverse a.outer.items) w.outer) e a.index m
      → IsFaulty Holds octets a e m (work_left (length octets) a.index a.outer.items)
  IsFaulty-still a e n m w s =
      let v = IsReading-places a n w in
      record {
        refused = record {
          trees = w.trees;
          outer = w.outer;
          inside = [];
          lost = [];
          matched = w.matched;
          dropped = refl;
          holds = w.holds;
          stopping = s;
        };
        nearer = omega (arith, v.to);
      }

  -- where the next header is at fault, the reader is at fault
  pub IsFaulty-header : (a : Reader B I) (e : DecodeFault) (n : ℕ) → length octets < 2 ^ 64
      → a.index ≢ a.inner.extent.end → IsReading Holds octets a n
      → HeaderFault (a.index - a.inner.extent.start) (slice_range octets a.index a.inner.extent.end) e
      → IsFaulty Holds octets a e (n + 1) (work_left (length octets) a.index a.outer.items)
  IsFaulty-header a e n small ne w u =
      let v = IsReading-places a n w in
      let here : a.index < a.inner.extent.end = omega (arith, v.to, ne) in
      IsFaulty-still a e n (n + 1) w
      (IsStopping-header octets (frame a.inner w.trees) (frames (reverse a.outer.items) w.outer) a.index n e small here
      w.opened u)

  -- where the contents octets of a leaf are at fault, the reader is at fault
  pub IsFaulty-leaf : (a : Reader B I) (h : PlacedHeader) (e : DecodeFault) (n : ℕ) (b : B) (j : I) →
      length octets < 2 ^ 64
      → HeaderFound octets a.index a.inner.extent.end h → (IsReadInside h.class h.constructed h.tag → ⊥)
      → IsLeafFault octets h a.builder a.inner.items b j e → IsReading Holds octets a n
      → IsFaulty Holds octets
      (record {
        inner = record { extent = a.inner.extent; items = j };
        outer = a.outer;
        index = a.index;
        builder =
            b;
        fault = a.fault;
      }) e (n + 1) (work_left (length octets) a.index a.outer.items)
  IsFaulty-leaf a h e n b j small found shut is w =
      let stops = IsStopping-leaf octets (frame a.inner w.trees) (frames (reverse a.outer.items) w.outer) a.index n h e
      small found w.opened shut is.class is.fault in
      let Faulty = λ (c : B) (k : I). IsFaulty Holds octets
      (record {
        inner = record { extent = a.inner.extent; items = k };
        outer = a.outer;
        index = a.index;
        builder =
            c;
        fault = a.fault;
      }) e (n + 1) (work_left (length octets) a.index a.outer.items) in
      subst (λ z. Faulty z j) (sym is.builder)
      (subst (λ z. Faulty a.builder z) (sym is.items) (IsFaulty-still a e n (n + 1) w stops))
