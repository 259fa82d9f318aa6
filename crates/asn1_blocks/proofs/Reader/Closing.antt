-- Frames that end: what the reader goes on with, and the whole document, for `read_loop::close` and
-- `read_loop::take_step`.
use Rattle.std.proofs.Common.{◌≡◌, ℕ, suc, ◌<◌, ◌++◌, List, [], ◌∷◌, Global, Vec, length, reverse, refl, sym, subst, arith}
use Rattle.std.proofs.lemmas.List.{length-reverse}
use Rattle.asn1_headers.specs.declared.error.ASN1DecodeErr.{ASN1DecodeErr}
use Rattle.asn1_blocks.specs.declared.read_loop.Extent.{Extent}
use Rattle.asn1_blocks.specs.declared.read_loop.OpenFrame.{OpenFrame}
use Rattle.asn1_blocks.specs.declared.read_loop.Reader.{Reader}
use Rattle.asn1_blocks.specs.Inner.OpenFrames.{AreOpen}
use Rattle.asn1_blocks.specs.Inner.ReaderSteps.{CanEnd, EndsAs, GoesOn, HasEnded, HasEndedIn, Holding, Reads, frame, frames, work_left}
use Rattle.asn1_blocks.specs.Tree.{Tree}
use Rattle.asn1_blocks.proofs.Frames.Advances.{AreOpen-follows, AreOpen-places}
use Rattle.asn1_blocks.proofs.Frames.Closing.{IsClosed-frame, IsDocumentRead-end, IsEnded-exists, AreOpen-not_whole}
use Rattle.asn1_blocks.proofs.Frames.Stopping.{IsClosed}

-- a list with more than n items
pub record HasNext {X : Type 0} (xs : List X) (n : ℕ) : Type 0 where
  pub next : X
  pub others : List X
  pub are : xs ≡ next ∷ others
  pub count : n ≡ length others

-- a list that has more than n items has a first
pub HasNext-longer : {X : Type 0} (xs : List X) (n : ℕ) → suc n ≡ length xs → HasNext xs n
HasNext-longer [] n e = absurd (omega (arith, e))
HasNext-longer (x ∷ xs) n e = record { next = x; others = xs; are = refl; count = omega (arith, e) }

module _ {B I : Type 0} (Holds : Holding B I) (octets : List ℕ) where
  -- the innermost frame has one tree more, and reading goes on behind it
  pub GoesOn-follows :
      (e : Extent) (j : I) (outer : Vec (OpenFrame I) Global) (end : ℕ) (b : B) (fault : ASN1DecodeErr)
      (ts : List (Tree ℕ)) (rest : List (List (Tree ℕ)))
      (t : Tree ℕ) (n most : ℕ) → work_left (length octets) end outer.items < most →
      length (reverse outer.items) ≡ length rest →
      Holds octets b (record { extent = e; items = j } ∷ reverse outer.items) ((ts ++ t ∷ []) ∷ rest) →
      IsClosed octets (record { extent = e; trees = ts }) (frames (reverse outer.items) rest) end t n →
      GoesOn Holds octets (record
      { inner = record { extent = e; items = j }; outer = outer; index = end; builder = b; fault = fault }) n most
  GoesOn-follows e j outer end b fault ts rest t n most near m h c =
      let gs = frames (reverse outer.items) rest in
      let more =
      AreOpen-follows octets (record { extent = e; trees = ts }) gs c.reached end c.before c.own t c.opened c.follows in
      record {
        reading = record {
          trees = ts ++ t ∷ [];
          outer = rest;
          matched = m;
          holds = h;
          opened = subst (λ z. AreOpen octets (record { extent = e; trees = ts ++ t ∷ [] }) gs end z) (sym c.total)
              more;
        };
        nearer = near;
      }

  -- the frame k ended inside the frame h
  module _ (b : B) (k h : OpenFrame I) (outer : Vec (OpenFrame I) Global) (n : ℕ)
      (w : Reads Holds octets b k (h ∷ reverse outer.items) k.extent.end n) where
    -- the trees of the frame around, and those of the frames around that
    enclosing : HasNext w.outer (length (reverse outer.items))
    enclosing = HasNext-longer w.outer (length (reverse outer.items)) w.matched

    -- the frame that has ended is open inside the frame around
    AreOpen-enclosing : AreOpen octets (frame k w.trees)
        (frames (h ∷ reverse outer.items) (enclosing.next ∷ enclosing.others)) k.extent.end n
    AreOpen-enclosing =
        subst (λ z. AreOpen octets (frame k w.trees) (frames (h ∷ reverse outer.items) z) k.extent.end n) enclosing.are
        w.opened

    -- the frame that has ended can be closed
    pub CanEnd-inside : (depth : ℕ) → depth ≡ length outer.items → CanEnd Holds octets k depth b h.items
    CanEnd-inside depth d =
        let v =
        AreOpen-places octets (frame k w.trees) (frames (h ∷ reverse outer.items) (enclosing.next ∷ enclosing.others))
        k.extent.end n AreOpen-enclosing in
        record {
          kind =
              AreOpen-not_whole octets (frame k w.trees) (frame h enclosing.next)
              (frames (reverse outer.items) enclosing.others)
              k.extent.end n AreOpen-enclosing;
          after = AreOpen-enclosing.after;
          order = omega (arith, v.from, v.to);
          within = v.within;
          extent = h.extent;
          outer = reverse outer.items;
          deep = omega (arith, d, length-reverse outer.items);
          trees = w.trees ∷ w.outer;
          holds = w.holds;
        }

    -- reading goes on behind a frame that was closed
    pub GoesOn-ended : (depth : ℕ) (c : B) (j : I) (fault : ASN1DecodeErr) (most : ℕ) → depth ≡ length outer.items →
        HasEndedIn Holds octets k depth b h.items c j → work_left (length octets) k.extent.end outer.items < most →
        GoesOn Holds octets
        (record {
          inner = record { extent = h.extent; items = j };
          outer = outer;
          index = k.extent.end;
          builder =
              c;
          fault = fault;
        }) n most
    GoesOn-ended depth c j fault most d is near =
        let gs = reverse outer.items in
        let (t, tree) =
        IsEnded-exists octets k.extent.kind k.extent.offset k.extent.start k.extent.end w.trees
        AreOpen-enclosing.headed in
        let before = subst (λ z. Holds octets b (k ∷ h ∷ gs) (w.trees ∷ z)) enclosing.are w.holds in
        let whole : EndsAs octets k.extent w.trees t = record {
          tree = tree;
          headed = AreOpen-enclosing.headed;
          after = AreOpen-enclosing.after;
          order = omega (arith, AreOpen-enclosing.read.from, AreOpen-enclosing.read.to);
          encoded = AreOpen-enclosing.read.encoded;
        } in
        let after =
        is.holds h.extent gs w.trees enclosing.next enclosing.others t
        (omega (arith, d, length-reverse outer.items)) whole before in
        let closed =
        IsClosed-frame octets (frame k w.trees) (frame h enclosing.next)
        (frames gs enclosing.others) n t tree AreOpen-enclosing in
        GoesOn-follows h.extent j outer k.extent.end c fault enclosing.next enclosing.others t n most near
        enclosing.count after closed

  -- where the outermost frame was read to its end, the document has ended
  pub HasEnded-document : (r : Reader B I) (n : ℕ) → Reads Holds octets r.builder r.inner [] r.inner.extent.end n →
      HasEnded Holds octets r n
  HasEnded-document r n w = go w.outer w.matched w.holds w.opened
    where
      -- where no trees of other frames are held, the outermost frame that was read to its end is the document
      go : (outer : List (List (Tree ℕ))) → 0 ≡ length outer → Holds octets r.builder (r.inner ∷ []) (w.trees ∷ outer)
          → AreOpen octets (frame r.inner w.trees) (frames {I = I} [] outer) r.inner.extent.end n →
          HasEnded Holds octets r n
      go [] m h o =
          let d = IsDocumentRead-end octets (frame r.inner w.trees) n o in
          record { trees = w.trees; holds = h; encoded = d.encoded; begun = d.begun }
      go (us ∷ rest) m h o = absurd (omega (arith, m))
