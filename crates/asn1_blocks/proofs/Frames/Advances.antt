-- Frames that are read further, and where they are, for `read_loop`.
use Rattle.std.proofs.Common.{◌≡◌, ℕ, ◌+◌, ◌-◌, ◌<◌, ◌≤◌, List, [], ◌∷◌, ◌++◌, length, refl, sym, ap, subst, arith}
use Rattle.std.specs.List.{slice_range}
use Rattle.asn1_blocks.specs.declared.read_loop.Extent.{Extent}
use Rattle.asn1_blocks.specs.Tree.{Tree, trees_of, more_trees}
use Rattle.asn1_blocks.specs.Grammar.{Encodes, EncodesAll}
use Rattle.asn1_blocks.specs.HeadersBegun.{HeadersBegun}
use Rattle.asn1_blocks.specs.Inner.OpenFrames.{Frame, IsReadTo, AreOpen}
use Rattle.asn1_blocks.proofs.OneReading.{AreBlocks-encodes}
use Rattle.asn1_blocks.proofs.ReadSteps.{EncodesAll-with_last, with_last, length-slice_range, slice_range-append}
use Rattle.asn1_blocks.proofs.HeaderCounts.{HeadersBegun-le_length, HeadersBegun-append}

-- the block of a tree stands from p to q, with n headers
pub record Follows (octets : List ℕ) (f : Frame) (p q : ℕ) (t : Tree ℕ) (n : ℕ) : Type 0 where
  pub from : p < q
  pub to : q ≤ f.extent.end
  pub encoded : Encodes p (slice_range octets p q) t
  pub begun : HeadersBegun (slice_range octets p q) n

-- the frame with one tree more
abbrev pub with_tree : Frame → Tree ℕ → Frame
with_tree f t = record { extent = f.extent; trees = f.trees ++ t ∷ [] }

-- a list with one more item at its end has one more tree at the end of its trees
trees_of-append_last : (ts : List (Tree ℕ)) (t : Tree ℕ) → trees_of (ts ++ t ∷ []) ≡ with_last (trees_of ts) t
trees_of-append_last [] t = refl
trees_of-append_last (x ∷ ts) t = ap (more_trees x) (trees_of-append_last ts t)

-- contents octets are read further by the tree that follows
IsReadTo-follows : (octets : List ℕ) (f : Frame) (p q n m : ℕ) (t : Tree ℕ) → IsReadTo octets f p n →
    Follows octets f p q t m
    → IsReadTo octets (with_tree f t) q (n + m)
IsReadTo-follows octets f p q n m t r w =
    let s = f.extent.start in
    let front = slice_range octets s p in
    let last = slice_range octets p q in
    let len : length front ≡ p - s = length-slice_range octets s p r.from (omega (arith, r.to, r.within)) in
    let whole : slice_range octets s q ≡ front ++ last =
    slice_range-append octets s p q r.from (omega (arith, w.from)) in
    let here : Encodes (s + length front) last t =
    subst (λ z. Encodes z last t) (omega (arith, len, r.from)) w.encoded in
    let more = EncodesAll-with_last s front last (trees_of f.trees) t r.encoded here in
    let all = subst (λ z. EncodesAll s (front ++ last) z) (sym (trees_of-append_last f.trees t)) more in
    let j =
    HeadersBegun-append front last n m (AreBlocks-encodes s front (trees_of f.trees) r.encoded) r.begun w.begun in
    record {
      from = omega (arith, r.from, w.from);
      to = w.to;
      within = r.within;
      encoded = subst (λ z. EncodesAll s z (trees_of (f.trees ++ t ∷ []))) (sym whole) all;
      begun = subst (λ z. HeadersBegun z (n + m)) (sym whole) j;
    }

-- open frames are read further by the tree that follows in the innermost one
pub AreOpen-follows : (octets : List ℕ) (f : Frame) (gs : List Frame) (p q n m : ℕ) (t : Tree ℕ) →
    AreOpen octets f gs p n →
    Follows octets f p q t m
    → AreOpen octets (with_tree f t) gs q (n + m)
AreOpen-follows octets f [] p q n m t o w =
    record {
      whole = record { kind = o.whole.kind; start = o.whole.start; end = o.whole.end };
      read =
          IsReadTo-follows octets f p q n m t o.read w;
    }
AreOpen-follows octets f (g ∷ gs) p q n m t o w =
    record {
      before = o.before;
      own = o.own + m;
      headed = o.headed;
      after = o.after;
      ends_within = o.ends_within;
      read = IsReadTo-follows octets f p q o.own m t o.read w;
      around = o.around;
      total = omega (arith, o.total);
    }

-- the offsets where a frame begins, is read up to and ends, in this order and within the octets
pub record FramePlaces (octets : List ℕ) (e : Extent) (p : ℕ) : Type 0 where
  pub from : e.start ≤ p
  pub to : p ≤ e.end
  pub within : e.end ≤ length octets

-- the innermost of open frames has been read to a place between its start and its end
pub AreOpen-places : (octets : List ℕ) (f : Frame) (gs : List Frame) (p n : ℕ) → AreOpen octets f gs p n →
    FramePlaces octets f.extent p
AreOpen-places octets f [] p n o = record { from = o.read.from; to = o.read.to; within = o.read.within }
AreOpen-places octets f (g ∷ gs) p n o = record { from = o.read.from; to = o.read.to; within = o.read.within }

-- a frame has begun at most one header an octet
IsReadTo-headers_le : (octets : List ℕ) (f : Frame) (p n : ℕ) → IsReadTo octets f p n → n + f.extent.start ≤ p
IsReadTo-headers_le octets f p n r =
    let l = length-slice_range octets f.extent.start p r.from (omega (arith, r.to, r.within)) in
    omega (arith, HeadersBegun-le_length (slice_range octets f.extent.start p) n r.begun, l, r.from)

-- open frames have begun at most one header an octet
pub AreOpen-headers_le : (octets : List ℕ) (f : Frame) (gs : List Frame) (p n : ℕ) → AreOpen octets f gs p n → n ≤ p
AreOpen-headers_le octets f [] p n o = omega (arith, IsReadTo-headers_le octets f p n o.read)
AreOpen-headers_le octets f (g ∷ gs) p n o =
    omega (
      arith,
      IsReadTo-headers_le octets f p o.own o.read,
      AreOpen-headers_le octets g gs f.extent.offset o.before o.around,
      o.after,
      o.total,
    )
