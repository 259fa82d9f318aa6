-- A frame has ended: it is a block of the frame around it, or the document, for `read_loop::close` and
-- `read_loop::take_step`.
use Rattle.std.proofs.Common.{◌≡◌, ◌≢◌, ℕ, suc, ◌+◌, ◌-◌, true, List, [], ◌∷◌, inl, inr, length, refl, sym, ap, ◌∙◌, subst, arith}
use Rattle.std.specs.List.{slice_range}
use Rattle.asn1_blocks.specs.declared.block.GroupKind.{GroupKind}
use Rattle.asn1_headers.specs.declared.header.ASN1Class.TheVariants.{Universal}
use Rattle.asn1_blocks.specs.declared.read_loop.Attempt as declared
use Rattle.asn1_blocks.specs.declared.read_loop.FrameKind.{FrameKind}
use Rattle.asn1_blocks.specs.declared.read_loop.FrameKind.TheVariants.{Attempt, Group, Whole}
use Rattle.asn1_blocks.specs.Contents.{group_tag}
use Rattle.asn1_blocks.specs.Grammar.{Encodes, EncodesAll, IsBlock, of_group, of_not_universal}
use Rattle.asn1_headers.specs.Header.{Encoding}
use Rattle.asn1_blocks.specs.HeadersBegun.{HeadersBegun}
use Rattle.asn1_blocks.specs.Inner.OpenFrames.{AreOpen, Frame, IsAttemptAt, IsEnded, IsHeaded, around, as_it_came, attempt_tree}
use Rattle.asn1_blocks.specs.Tree.{Tree, group, trees_of}
use Rattle.asn1_blocks.proofs.Faults.{tree_count-block}
use Rattle.asn1_blocks.proofs.Frames.Stopping.{IsClosed, slice_range-document}
use Rattle.asn1_blocks.proofs.HeaderCounts.{HeadersBegun-read_inside}
use Rattle.asn1_blocks.proofs.Leaves.{is_group_tag-group_tag}
use Rattle.asn1_blocks.proofs.OneReading.{AreBlocks-encodes, Encodes-single}
use Rattle.asn1_blocks.proofs.BlockLists.{tree_count}

-- the octets were read as a document, with n headers
pub record IsDocumentRead (octets : List ℕ) (f : Frame) (n : ℕ) : Type 0 where
  pub encoded : EncodesAll 0 octets (trees_of f.trees)
  pub begun : HeadersBegun octets n

-- the outermost frame that was read to its end is the document
pub IsDocumentRead-end : (octets : List ℕ) (f : Frame) (n : ℕ) → AreOpen octets f [] f.extent.end n →
    IsDocumentRead octets f n
IsDocumentRead-end octets f n o =
    let d = slice_range-document octets f o.whole.start o.whole.end in
    let all = subst (λ z. EncodesAll f.extent.start z (trees_of f.trees)) d o.read.encoded in
    record {
      encoded = subst (λ z. EncodesAll z octets (trees_of f.trees)) o.whole.start all;
      begun = subst (λ z. HeadersBegun z n) d o.read.begun;
    }

-- a frame of a group that was read to its end is closed
pub IsClosed-group : (octets : List ℕ) (f g : Frame) (gs : List Frame) (n : ℕ) (y : GroupKind) → f.extent.kind ≡ Group y
    → AreOpen octets f (g ∷ gs) f.extent.end n →
    IsClosed octets g gs f.extent.end (group f.extent.offset y (trees_of f.trees)) n
IsClosed-group octets f g gs n y k o =
    let x = f.extent.offset in
    let s = f.extent.start in
    let z = f.extent.end in
    let contents = slice_range octets s z in
    let trees = trees_of f.trees in
    let H = subst (λ i. IsHeaded octets i x s z) k o.headed in
    let bit = H.constructed in
    let F = H.encoding in
    let at : s ≡ x + (s - x) = omega (arith, o.after) in
    let is_block = of_group F y refl (AreBlocks-encodes s contents trees o.read.encoded) in
    record {
      reached = x;
      before = o.before;
      own = 1 + o.own;
      opened = o.around;
      follows = record {
        from = omega (arith, o.after, o.read.from, o.read.to);
        to = o.ends_within;
        encoded = (refl, bit, contents, s - x, F, subst (λ i. EncodesAll i contents trees) at o.read.encoded);
        begun = HeadersBegun-read_inside (slice_range octets x z) Universal bit (group_tag y) contents (s - x) o.own F
            (inl (refl, is_group_tag-group_tag y)) is_block o.read.begun;
      };
      total = o.total;
    }

-- around contents octets that are these trees, the encoding of an attempt encodes the tree
abbrev pub Means : declared.Attempt → List ℕ → List (Tree ℕ) → Tree ℕ → Type 0
Means a contents ts t =
    (all : List ℕ) (h : ℕ) → a.class ≢ Universal → Encoding all a.class true a.tag contents h →
    EncodesAll (a.offset + h) contents (trees_of ts)
    → Encodes a.offset all t

-- a frame of an attempt that was read to its end is closed
pub IsClosed-attempt : (octets : List ℕ) (f g : Frame) (gs : List Frame) (n : ℕ) (a : declared.Attempt) (t : Tree ℕ) →
    a.offset ≡ f.extent.offset
    → IsAttemptAt octets a f.extent.start f.extent.end →
    Means a (slice_range octets f.extent.start f.extent.end) f.trees t → AreOpen octets f (g ∷ gs) f.extent.end n
    → IsClosed octets g gs f.extent.end t n
IsClosed-attempt octets f g gs n a t here H means o =
    let s = f.extent.start in
    let z = f.extent.end in
    let contents = slice_range octets s z in
    let all = slice_range octets a.offset z in
    let F = H.encoding in
    let at : s ≡ a.offset + (s - a.offset) = omega (arith, here, o.after) in
    record {
      reached = a.offset;
      before = o.before;
      own = 1 + o.own;
      opened = subst (λ i. AreOpen octets g gs i o.before) (sym here) o.around;
      follows = record {
        from = omega (arith, here, o.after, o.read.from, o.read.to);
        to = o.ends_within;
        encoded = means all (s - a.offset) H.other F
            (subst (λ i. EncodesAll i contents (trees_of f.trees)) at o.read.encoded);
        begun = HeadersBegun-read_inside all a.class true a.tag contents (s - a.offset) o.own F (inr (H.other, refl))
            (of_not_universal F H.other) o.read.begun;
      };
      total = o.total;
    }

-- the encoding of an attempt around one tree encodes the explicit tree around it
Means-one : (a : declared.Attempt) (contents : List ℕ) (t : Tree ℕ) → Means a contents (t ∷ []) (around a t)
Means-one a contents t all h ne F s =
    (refl, ne, contents, h, F, Encodes-single (a.offset + h) contents t s)

-- the trees of a list are as many as the list is long
tree_count-trees_of : (ts : List (Tree ℕ)) → tree_count (trees_of ts) ≡ length ts
tree_count-trees_of [] = refl
tree_count-trees_of (t ∷ ts) = ap suc (tree_count-trees_of ts)

-- an attempt with any number of trees but one stays as it came
Means-not_one : (octets : List ℕ) (a : declared.Attempt) (s e : ℕ) (ts : List (Tree ℕ)) → (length ts ≡ 1 → ⊥)
    → Means a (slice_range octets s e) ts (as_it_came octets a s e)
Means-not_one octets a s e ts many all h ne F r =
    let no_block : IsBlock (slice_range octets s e) → ⊥ =
    λ z. many
    (sym (tree_count-trees_of ts) ∙ tree_count-block (a.offset + h) (slice_range octets s e) (trees_of ts) r z) in
    (refl, h, F, inr (ne, λ z. no_block z.1))

-- the tree of an attempt is what its contents octets make it mean
Means-attempt_tree : (octets : List ℕ) (a : declared.Attempt) (s e : ℕ) (ts : List (Tree ℕ)) →
    Means a (slice_range octets s e) ts (attempt_tree octets a s e ts)
Means-attempt_tree octets a s e [] = Means-not_one octets a s e [] (λ z. absurd (omega (arith, z)))
Means-attempt_tree octets a s e (t ∷ []) = Means-one a (slice_range octets s e) t
Means-attempt_tree octets a s e (t ∷ u ∷ ts) = Means-not_one octets a s e (t ∷ u ∷ ts) (λ z. absurd (omega (arith, z)))

-- a frame that is not the document ends as some tree
pub IsEnded-exists : (octets : List ℕ) (kind : FrameKind) (o s e : ℕ) (ts : List (Tree ℕ)) →
    IsHeaded octets kind o s e →
    (t : Tree ℕ) × IsEnded octets kind o s e ts t
IsEnded-exists octets Whole o s e ts H = absurd H
IsEnded-exists octets (Group g) o s e ts H = (group o g (trees_of ts), refl)
IsEnded-exists octets Attempt o s e ts (a, here, at) = (attempt_tree octets a s e ts, (a, here, at, refl))

-- a frame with another around it is not the document
pub AreOpen-not_whole : (octets : List ℕ) (f g : Frame) (gs : List Frame) (p n : ℕ) → AreOpen octets f (g ∷ gs) p n →
    f.extent.kind ≢ Whole
AreOpen-not_whole octets f g gs p n o is =
    absurd (subst (λ z. IsHeaded octets z f.extent.offset f.extent.start f.extent.end) is o.headed)

-- the tree of a frame that has ended follows in the frame around it
pub IsClosed-frame : (octets : List ℕ) (f g : Frame) (gs : List Frame) (n : ℕ) (t : Tree ℕ) →
    IsEnded octets f.extent.kind f.extent.offset f.extent.start f.extent.end f.trees t
    → AreOpen octets f (g ∷ gs) f.extent.end n → IsClosed octets g gs f.extent.end t n
IsClosed-frame octets f g gs n t is o = go f.extent.kind refl
  where
    -- whatever the kind of a frame that has ended, its tree follows in the frame around it
    go : (kind : FrameKind) → f.extent.kind ≡ kind → IsClosed octets g gs f.extent.end t n
    go Whole d = absurd (AreOpen-not_whole octets f g gs f.extent.end n o d)
    go (Group y) d =
        let this = subst (λ z. IsEnded octets z f.extent.offset f.extent.start f.extent.end f.trees t) d is in
        subst (λ z. IsClosed octets g gs f.extent.end z n) (sym this) (IsClosed-group octets f g gs n y d o)
    go Attempt d =
        let (a, here, at, this) =
        subst (λ z. IsEnded octets z f.extent.offset f.extent.start f.extent.end f.trees t) d is in
        let means = Means-attempt_tree octets a f.extent.start f.extent.end f.trees in
        subst (λ z. IsClosed octets g gs f.extent.end z n) (sym this)
        (IsClosed-attempt octets f g gs n a (attempt_tree octets a f.extent.start f.extent.end f.trees) here at means o)
