-- A fault goes outward through frames: out of groups, to the innermost attempt or to the document, for
-- `read_loop::refuse` and `read_loop::close`.
use Rattle.std.proofs.Common.{◌≡◌, ℕ, ◌+◌, ◌-◌, ◌<◌, ◌≤◌, ◌^◌, true, List, [], ◌∷◌, ◌++◌, inl, inr, length, refl, sym, ap, ◌∙◌, subst, arith}
use Rattle.std.specs.List.{slice_range}
use Rattle.asn1_blocks.specs.declared.block.GroupKind.{GroupKind}
use Rattle.asn1_blocks.specs.declared.read_loop.Attempt as declared
use Rattle.asn1_blocks.specs.declared.read_loop.FrameKind.{FrameKind}
use Rattle.asn1_blocks.specs.declared.read_loop.FrameKind.TheVariants.{Whole, Group, Attempt}
use Rattle.asn1_headers.specs.Fault.{DecodeFault}
use Rattle.asn1_blocks.specs.Grammar.{AreBlocks, BlocksFaultAt, IsBlock, of_not_universal}
use Rattle.asn1_blocks.specs.Inner.BlockFault.{BlockFaultAt, at_item}
use Rattle.asn1_blocks.specs.HeadersBegun.{HeadersBegun, begun_some, inside_first, nothing_after}
use Rattle.asn1_blocks.specs.Inner.OpenFrames.{AreOpen, Frame, IsAttemptAt, IsGroupAt, IsHeaded, IsReadTo, IsStopping, StopsAt, as_it_came}
use Rattle.asn1_blocks.specs.Inner.ReaderSteps.{IsFaultyDocument}
use Rattle.asn1_blocks.specs.Tree.{Tree, trees_of}
use Rattle.asn1_blocks.proofs.Faults.{AreBlocks-single, BlockFaultAt-not_block, BlocksFaultAt-not_blocks}
use Rattle.asn1_blocks.proofs.FaultyBlocks.{BlocksFaultAt-behind_blocks}
use Rattle.asn1_blocks.proofs.Frames.Advances.{Follows, AreOpen-places, AreOpen-headers_le}
use Rattle.asn1_blocks.proofs.Frames.Slices.{slice_range-all}
use Rattle.asn1_blocks.proofs.HeaderCounts.{HeadersBegun-le_length, HeadersBegun-append, HeadersBegun-read_inside}
use Rattle.asn1_blocks.proofs.Leaves.{is_group_tag-group_tag}
use Rattle.asn1_blocks.proofs.OneReading.{AreBlocks-encodes}
use Rattle.asn1_blocks.proofs.ReadSteps.{length-slice_range, slice_range-append}

-- contents octets that have a fault
pub record HasFaultyContents (octets contents : List ℕ) (start : ℕ) (e : DecodeFault) (offset n : ℕ) : Type 0 where
  pub after : ℕ
  pub fault : BlocksFaultAt contents e after
  pub innermost : offset ≡ start + after
  pub begun : HeadersBegun contents n

-- the contents octets of a frame where a block is at fault are at fault themselves
HasFaultyContents-read : (octets : List ℕ) (f : Frame) (p : ℕ) (e : DecodeFault) (offset a b : ℕ) →
    IsReadTo octets f p a →
    StopsAt octets f p e offset b
    → HasFaultyContents octets (slice_range octets f.extent.start f.extent.end) f.extent.start e offset (a + b)
HasFaultyContents-read octets f p e offset a b r s =
    let from = f.extent.start in
    let to = f.extent.end in
    let front = slice_range octets from p in
    let rest = slice_range octets p to in
    let whole : slice_range octets from to ≡ front ++ rest = slice_range-append octets from p to r.from r.to in
    let k = AreBlocks-encodes from front (trees_of f.trees) r.encoded in
    let l : length front ≡ p - from = length-slice_range octets from p r.from (omega (arith, r.to, r.within)) in
    let some : 0 < length rest = omega (arith, length-slice_range octets p to r.to r.within, s.here) in
    record {
      after = length front + s.inside;
      fault = BlocksFaultAt-behind_blocks (slice_range octets from to) front rest e s.inside whole k some
          (subst (λ z. BlockFaultAt z rest e s.inside) (sym l) s.stops);
      innermost = omega (arith, s.innermost, r.from, l);
      begun = subst (λ z. HeadersBegun z (a + b)) (sym whole) (HeadersBegun-append front rest a b k r.begun s.begun);
    }

-- where the contents octets of a group are at fault, reading stops in the frame around it, at the group
pub StopsAt-group : (octets : List ℕ) (g : Frame) (o s e : ℕ) (y : GroupKind) (fault : DecodeFault) (offset a : ℕ)
    → length octets < 2 ^ 64 → g.extent.start ≤ o
    → o < s → s ≤ e → e ≤ g.extent.end → g.extent.end ≤ length octets → IsGroupAt octets y o s e
    → HasFaultyContents octets (slice_range octets s e) s fault offset a → StopsAt octets g o fault offset (1 + a)
StopsAt-group octets g o s e y fault offset a small low lt le fits within G r =
    let end = g.extent.end in
    let i = o - g.extent.start in
    let first = slice_range octets o e in
    let behind = slice_range octets e end in
    let rest = slice_range octets o end in
    let d = slice_range-append octets o e end (omega arith) fits in
    let len = length-slice_range octets o end (omega arith) within in
    let stops : BlockFaultAt i rest fault ((s - o) + r.after) = at_item first behind d y G.encoding r.fault in
    let no_block = nothing_after
    (λ x z c b. BlockFaultAt-not_block i rest x z fault ((s - o) + r.after) stops (omega (arith, len, small)) c b) in
    let inside = inside_first first behind d G.encoding (inl (refl, is_group_tag-group_tag y)) r.begun in
    record {
      here = omega arith;
      inside = (s - o) + r.after;
      stops = stops;
      innermost = omega (arith, r.innermost, lt);
      begun = begun_some (omega (arith, len)) a 0 inside no_block (omega arith);
    }

-- a fault goes out of a group to the frame around it
IsStopping-leave_group : (octets : List ℕ) (f g : Frame) (gs : List Frame) (e : DecodeFault) (offset n : ℕ)
    (y : GroupKind) →
    length octets < 2 ^ 64
    → f.extent.kind ≡ Group y → IsStopping octets f (g ∷ gs) e offset n → IsStopping octets g gs e offset n
IsStopping-leave_group octets f g gs e offset n y small k w =
    let o = w.opened in
    let x = f.extent.offset in
    let s = f.extent.start in
    let H = subst (λ z. IsHeaded octets z x s f.extent.end) k o.headed in
    let r = HasFaultyContents-read octets f w.reached e offset o.own w.own o.read w.stops in
    let v = AreOpen-places octets g gs x o.before o.around in
    record {
      reached = x;
      before = o.before;
      own = 1 + (o.own + w.own);
      opened = o.around;
      stops = StopsAt-group octets g x s f.extent.end y e offset (o.own + w.own) small v.from o.after
          (omega (arith, o.read.from, o.read.to)) o.ends_within
          v.within H r;
      total = omega (arith, w.total, o.total);
    }

-- a fault goes out of a frame that is no attempt to the frame around it
pub IsStopping-leave_frame : (octets : List ℕ) (f g : Frame) (gs : List Frame) (e : DecodeFault) (offset n : ℕ) →
    length octets < 2 ^ 64
    → (f.extent.kind ≡ Attempt → ⊥) → IsStopping octets f (g ∷ gs) e offset n → IsStopping octets g gs e offset n
IsStopping-leave_frame octets f g gs e offset n small other w = go f.extent.kind refl
  where
    -- a fault goes out of a frame that is no attempt, whatever its kind, to the frame around it
    go : (k : FrameKind) → f.extent.kind ≡ k → IsStopping octets g gs e offset n
    go Whole d = absurd (subst (λ z. IsHeaded octets z f.extent.offset f.extent.start f.extent.end) d w.opened.headed)
    go (Group y) d = IsStopping-leave_group octets f g gs e offset n y small d w
    go Attempt d = absurd (other d)

-- what a closed frame is in the frame around it
pub record IsClosed (octets : List ℕ) (g : Frame) (gs : List Frame) (end : ℕ) (t : Tree ℕ) (n : ℕ) : Type 0 where
  pub reached : ℕ
  pub before : ℕ
  pub own : ℕ
  pub opened : AreOpen octets g gs reached before
  pub follows : Follows octets g reached end t own
  pub total : n ≡ before + own

-- contents octets with a fault are no blocks
pub IsStopping-not_blocks : (octets : List ℕ) (f g : Frame) (gs : List Frame) (e : DecodeFault) (offset n : ℕ) →
    length octets < 2 ^ 64
    → IsStopping octets f (g ∷ gs) e offset n → AreBlocks (slice_range octets f.extent.start f.extent.end) → ⊥
IsStopping-not_blocks octets f g gs e offset n small w =
    let o = w.opened in
    let contents = slice_range octets f.extent.start f.extent.end in
    let r = HasFaultyContents-read octets f w.reached e offset o.own w.own o.read w.stops in
    let l =
    length-slice_range octets f.extent.start f.extent.end (omega (arith, o.read.from, o.read.to)) o.read.within in
    let short : length contents < 2 ^ 64 = omega (arith, l, small, o.read.within) in
    BlocksFaultAt-not_blocks contents e r.after r.fault short

-- a fault closes an attempt
pub IsClosed-failed_attempt : (octets : List ℕ) (f g : Frame) (gs : List Frame) (e : DecodeFault) (offset n : ℕ)
    (a : declared.Attempt) → length octets < 2 ^ 64
    → a.offset ≡ f.extent.offset → IsAttemptAt octets a f.extent.start f.extent.end →
    IsStopping octets f (g ∷ gs) e offset n
    → IsClosed octets g gs f.extent.end (as_it_came octets a f.extent.start f.extent.end) n
IsClosed-failed_attempt octets f g gs e offset n a small here H w =
    let o = w.opened in
    let s = f.extent.start in
    let z = f.extent.end in
    let contents = slice_range octets s z in
    let F = H.encoding in
    let r = HasFaultyContents-read octets f w.reached e offset o.own w.own o.read w.stops in
    let no_block = λ (i : (true ≡ true) × IsBlock contents). IsStopping-not_blocks octets f g gs e offset n small w
    (AreBlocks-single contents i.1) in
    let m = o.own + w.own in
    record {
      reached = a.offset;
      before = o.before;
      own = 1 + m;
      opened = subst (λ i. AreOpen octets g gs i o.before) (sym here) o.around;
      follows = record {
        from = omega (arith, here, o.after, o.read.from, o.read.to);
        to = o.ends_within;
        encoded = (refl, s - a.offset, F, inr (H.other, no_block));
        begun = HeadersBegun-read_inside (slice_range octets a.offset z) a.class true a.tag contents (s - a.offset) m F
            (inr (H.other, refl)) (of_not_universal F H.other)
            r.begun;
      };
      total = omega (arith, w.total, o.total);
    }

-- the contents octets of the outermost frame are the document
pub slice_range-document : (octets : List ℕ) (f : Frame) → f.extent.start ≡ 0 → f.extent.end ≡ length octets
    → slice_range octets f.extent.start f.extent.end ≡ octets
slice_range-document octets f s e =
    ap (λ z. slice_range octets z f.extent.end) s ∙ (ap (slice_range octets 0) e ∙ slice_range-all octets)

-- a fault in the outermost frame is that of the document
pub IsFaultyDocument-stopping : (octets : List ℕ) (f : Frame) (e : DecodeFault) (offset n : ℕ) →
    IsStopping octets f [] e offset n
    → IsFaultyDocument octets e offset n
IsFaultyDocument-stopping octets f e offset n w =
    let r = HasFaultyContents-read octets f w.reached e offset w.before w.own w.opened.read w.stops in
    let d = slice_range-document octets f w.opened.whole.start w.opened.whole.end in
    let begun = subst (λ z. HeadersBegun z (w.before + w.own)) d r.begun in
    let whole : BlocksFaultAt octets e r.after = subst (λ z. BlocksFaultAt z e r.after) d r.fault in
    let o : r.after ≡ offset = omega (arith, r.innermost, w.opened.whole.start) in
    record {
      fault = subst (λ z. BlocksFaultAt octets e z) o whole;
      begun =
          subst (λ z. HeadersBegun octets z) (sym w.total) begun;
    }

-- where a frame lies in which reading stops, and how many headers were begun at most
pub record StoppingPlaces (octets : List ℕ) (f : Frame) (n : ℕ) : Type 0 where
  pub order : f.extent.start ≤ f.extent.end
  pub within : f.extent.end ≤ length octets
  pub bound : n ≤ length octets

-- a frame in which reading stops lies in the octets, which have a header an octet at most
pub IsStopping-places : (octets : List ℕ) (f : Frame) (gs : List Frame) (e : DecodeFault) (offset n : ℕ) →
    IsStopping octets f gs e offset n
    → StoppingPlaces octets f n
IsStopping-places octets f gs e offset n w =
    let p = w.reached in
    let v = AreOpen-places octets f gs p w.before w.opened in
    let most = HeadersBegun-le_length (slice_range octets p f.extent.end) w.own w.stops.begun in
    let l = length-slice_range octets p f.extent.end v.to v.within in
    record {
      order = omega (arith, v.from, v.to);
      within = v.within;
      bound = omega (arith, w.total, AreOpen-headers_le octets f gs p w.before w.opened, most, l, v.within, v.to);
    }
