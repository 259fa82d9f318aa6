-- What the builder of trees holds, and what its steps do.
use Rattle.std.specs.Prelude.{◌≡◌, ℕ, ◌+◌, ◌<◌, ◌≤◌, ◌⊎◌, ◌++◌, List, [], ◌∷◌, length, map, take, drop}
use Rattle.asn1_blocks.specs.declared.block.ASN1Block.{ASN1Block}
use Rattle.asn1_blocks.specs.declared.read_loop.Attempt.{Attempt}
use Rattle.asn1_blocks.specs.declared.read_loop.OpenFrame.{OpenFrame}
use Rattle.asn1_blocks.specs.declared.postponed.Postponed.{Postponed}
use Rattle.asn1_blocks.specs.declared.postponed.Postponed.TheVariants.{Ready, AsItCame}
use Rattle.asn1_blocks.specs.declared.read.FrameBlocks.{FrameBlocks}
use Rattle.asn1_blocks.specs.declared.read.TreeBuilder.{TreeBuilder}
use Rattle.asn1_blocks.specs.Inner.OpenFrames.{IsAttemptAlone, as_it_came}
use Rattle.asn1_blocks.specs.Inner.Postponed.{Builds}
use Rattle.asn1_blocks.specs.Tree.{Tree}
use Rattle.asn1_blocks.specs.View.{view}

-- the attempt with the class and the tag that were kept of the frame's header
abbrev pub attempt_of : OpenFrame FrameBlocks → Attempt
attempt_of f = record { class = f.items.class; offset = f.extent.offset; tag = f.items.tag }

-- where a header stands before the contents octets, its class and tag were kept: whichever attempt begins at the
-- frame's offset and ends where the frame does, it has these
abbrev pub KeepsHeader : List ℕ → OpenFrame FrameBlocks → Type 0
KeepsHeader octets f =
    f.extent.offset < f.extent.start → IsAttemptAlone octets f.extent.offset f.extent.end (attempt_of f)

-- the frame has read these trees: its blocks, and those that its postponed blocks build, which are the last of these
pub record HasReadTrees (octets : List ℕ) (es : List Postponed) (f : OpenFrame FrameBlocks)
    (ts : List (Tree ℕ)) : Type 0 where
  pub before : f.items.postponed_before ≤ length es
  pub postponed : List (Tree ℕ)
  pub leads : Builds octets (drop f.items.postponed_before es) postponed
  pub count : f.items.postponed_count ≡ length postponed
  pub trees : ts ≡ map view f.items.first ++ postponed
  pub header : KeepsHeader octets f

-- the innermost frame has read its trees, and so has each frame around it, whose postponed blocks stand before
abbrev pub AllHold : List ℕ → List Postponed → OpenFrame FrameBlocks → List (OpenFrame FrameBlocks)
    → List (Tree ℕ) → List (List (Tree ℕ)) → Type 0
AllHold octets es f [] ts [] = HasReadTrees octets es f ts × (f.items.postponed_before ≡ 0)
AllHold octets es f [] ts (us ∷ rest) = ⊥
AllHold octets es f (g ∷ gs) ts [] = ⊥
AllHold octets es f (g ∷ gs) ts (us ∷ rest) =
    HasReadTrees octets es f ts × AllHold octets (take f.items.postponed_before es) g gs us rest

abbrev pub all_hold : List ℕ → List Postponed → List (OpenFrame FrameBlocks) → List (List (Tree ℕ)) → Type 0
all_hold octets es [] trees = ⊥
all_hold octets es (f ∷ gs) [] = ⊥
all_hold octets es (f ∷ gs) (ts ∷ rest) = AllHold octets es f gs ts rest

abbrev pub trees_hold : List ℕ → TreeBuilder → List (OpenFrame FrameBlocks) → List (List (Tree ℕ))
    → Type 0
trees_hold octets b fs trees = all_hold octets b.postponed.items fs trees

-- the frame has one block more
pub record IsPushed (a : TreeBuilder) (i : FrameBlocks) (b : ASN1Block) (r : TreeBuilder) (j : FrameBlocks)
    : Type 0 where
  pub before : j.postponed_before ≡ i.postponed_before
  pub count : j.postponed_count ≡ i.postponed_count
  pub none : i.postponed_count ≡ 0
  pub first : j.first ≡ i.first ++ b ∷ []
  pub class : j.class ≡ i.class
  pub tag : j.tag ≡ i.tag
  pub postponed : r.postponed.items ≡ a.postponed.items

-- the frame has one tree more, which is postponed
pub record IsPostponed (a : TreeBuilder) (i : FrameBlocks) (e : Postponed) (r : TreeBuilder)
    (j : FrameBlocks) : Type 0 where
  pub before : j.postponed_before ≡ i.postponed_before
  pub count : j.postponed_count ≡ i.postponed_count + 1
  pub first : j.first ≡ i.first
  pub class : j.class ≡ i.class
  pub tag : j.tag ≡ i.tag
  pub postponed : r.postponed.items ≡ a.postponed.items ++ e ∷ []

-- a block was added, as one that is ready or as a postponed one
abbrev pub IsAdded : TreeBuilder → FrameBlocks → ASN1Block → TreeBuilder → FrameBlocks → Type 0
IsAdded a i b r j = IsPushed a i b r j ⊎ IsPostponed a i (Ready b) r j

-- an encoding that stays as it came was added, as a block or a postponed one
abbrev pub IsAddedAsItCame : List ℕ → TreeBuilder → FrameBlocks → Attempt → ℕ → ℕ → TreeBuilder
    → FrameBlocks → Type 0
IsAddedAsItCame octets a i k start end r j =
    ((b : ASN1Block) × (view b ≡ as_it_came octets k start end) × IsAdded a i b r j)
    ⊎ IsPostponed a i (AsItCame k start end) r j
