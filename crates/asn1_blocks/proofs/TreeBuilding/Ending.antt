-- A frame of trees ends: its blocks are one of the frame around it, for `read::TreeBuilderBuilder` and
-- `read::read_blocks`.
use Rattle.std.proofs.Common.{◌≡◌, ℕ, ◌+◌, ◌<◌, List, [], ◌∷◌, ◌++◌, Global, Vec, length, map, take, drop, refl, sym, ap, ◌∙◌, subst, arith, append-nil, length-append}
use Rattle.std.proofs.lemmas.List.{length-map, take-append-drop, take-append-le, nil_from_length}
use Rattle.asn1_blocks.specs.declared.block.ASN1Block.{ASN1Block}
use Rattle.asn1_blocks.specs.declared.block.GroupKind.{GroupKind}
use Rattle.asn1_blocks.specs.declared.postponed.Postponed.{Postponed}
use Rattle.asn1_blocks.specs.declared.postponed.Postponed.TheVariants as PostponedAs
use Rattle.asn1_blocks.specs.declared.parsed.PlacedHeader.{PlacedHeader}
use Rattle.asn1_blocks.specs.declared.read.FrameBlocks.{FrameBlocks}
use Rattle.asn1_blocks.specs.declared.read.TreeBuilder.{TreeBuilder}
use Rattle.asn1_blocks.specs.declared.read_loop.Attempt as declared
use Rattle.asn1_blocks.specs.declared.read_loop.Extent.{Extent}
use Rattle.asn1_blocks.specs.declared.read_loop.FrameKind.{FrameKind}
use Rattle.asn1_blocks.specs.declared.read_loop.FrameKind.TheVariants.{Attempt, Group}
use Rattle.asn1_blocks.specs.declared.read_loop.OpenFrame.{OpenFrame}
use Rattle.asn1_blocks.specs.Inner.OpenFrames.{IsAttemptAlone, IsEnded, around, as_it_came, attempt_tree}
use Rattle.asn1_blocks.specs.Inner.Postponed.{Builds, trees_after_all}
use Rattle.asn1_blocks.specs.Inner.ReaderSteps.{HasEndedIn, HasKept, HasOpened, in_frame, opened_at}
use Rattle.asn1_blocks.specs.Inner.TreeBuilding.{AllHold, KeepsHeader, HasReadTrees, IsAddedAsItCame, IsPostponed, IsAdded, all_hold, attempt_of, trees_hold}
use Rattle.asn1_blocks.specs.Tree.{Tree, group, trees_of}
use Rattle.asn1_blocks.specs.View.{view, views}
use Rattle.asn1_blocks.specs.Places.{HeaderFound}
use Rattle.asn1_blocks.proofs.Frames.Opening.{HeaderFound-same_attempt, attempt_with}
use Rattle.asn1_blocks.proofs.HeldFronts.{HoldAround, HoldFront-inside}
use Rattle.asn1_blocks.proofs.TreeBuilding.Adding.{AddsTree-explicit, AddsTree-group, AllHold-add_as_it_came, AllHold-add_postponed, AllHold-add_tree}
use Rattle.asn1_blocks.proofs.TreeBuilding.Holding.{AddsTree, AllHold-open, HasNothingPostponed-ended}

-- a list whose length is 1 is a list of one tree
length-one : (ts : List (Tree ℕ)) → 1 ≡ length ts → (t : Tree ℕ) × (ts ≡ t ∷ [])
length-one [] e = absurd (omega (arith, e))
length-one (t ∷ []) e = (t, refl)
length-one (t ∷ u ∷ ts) e = absurd (omega (arith, e))

-- the tree of an attempt with any number of trees but one stays as it came
attempt_tree-not_one : (octets : List ℕ) (a : declared.Attempt) (s e : ℕ) (ts : List (Tree ℕ)) → (length ts ≡ 1 → ⊥)
    → attempt_tree octets a s e ts ≡ as_it_came octets a s e
attempt_tree-not_one octets a s e [] many = refl
attempt_tree-not_one octets a s e (t ∷ []) many = absurd (many refl)
attempt_tree-not_one octets a s e (t ∷ u ∷ ts) many = refl

-- what a frame ended as, where its kind is known
pub IsEnded-same_kind : (octets : List ℕ) (kind other : FrameKind) (o s e : ℕ) (ts : List (Tree ℕ)) (t : Tree ℕ) →
    kind ≡ other →
    IsEnded octets kind o s e ts t
    → IsEnded octets other o s e ts t
IsEnded-same_kind octets kind other o s e ts t is w = subst (λ z. IsEnded octets z o s e ts t) is w

-- the tree of an attempt that ended, where it is known which attempt it is
IsEnded-attempt : (octets : List ℕ) (f : Extent) (k : declared.Attempt) (ts : List (Tree ℕ)) (t : Tree ℕ) →
    f.kind ≡ Attempt
    → IsAttemptAlone octets f.offset f.end k → IsEnded octets f.kind f.offset f.start f.end ts t →
    t ≡ attempt_tree octets k f.start f.end ts
IsEnded-attempt octets f k ts t is alone w =
    let (b, here, at, tree) = IsEnded-same_kind octets f.kind Attempt f.offset f.start f.end ts t is w in
    tree ∙ ap (λ z. attempt_tree octets z f.start f.end ts) (sym (alone b f.start here at))

module _ (octets : List ℕ) (es : List Postponed) (f : OpenFrame FrameBlocks) (ts : List (Tree ℕ))
    (h : HasReadTrees octets es f ts)
  where
    -- the one postponed block of a frame without others builds its tree
    pub Builds-one_tree : f.items.postponed_count ≡ 1 → length f.items.first ≡ 0 →
        (t : Tree ℕ) × Builds octets (drop f.items.postponed_before es) (t ∷ []) × (ts ≡ t ∷ [])
    Builds-one_tree one none =
        let s = length-one h.postponed (sym one ∙ h.count) in
        let seen = ap (λ bs. map view bs ++ h.postponed) (nil_from_length f.items.first none) in
        (s.0, subst (λ v. Builds octets (drop f.items.postponed_before es) v) s.1 h.leads, h.trees ∙ (seen ∙ s.1))

    -- the trees of a frame are its blocks and its postponed ones
    pub length-trees : length ts ≡ length f.items.first + f.items.postponed_count
    length-trees = omega (
      arith,
      ap length h.trees,
      length-append (map view f.items.first) h.postponed,
      length-map f.items.first view,
      h.count,
    )

-- an attempt with any number of trees but one stays as it came
pub as_it_came-not_one : (octets : List ℕ) (a : declared.Attempt) (s e : ℕ) (ts : List (Tree ℕ)) (t : Tree ℕ) (m : ℕ) →
    length ts ≡ m → (m ≡ 1 → ⊥)
    → t ≡ attempt_tree octets a s e ts → as_it_came octets a s e ≡ t
as_it_came-not_one octets a s e ts t m count many is =
    sym (is ∙ attempt_tree-not_one octets a s e ts (λ z. many (sym count ∙ z)))

-- the frames around a frame hold the postponed blocks before its own
all_hold-around : (octets : List ℕ) → HoldAround (all_hold octets)
all_hold-around octets es k f gs l ts rest held =
    let before = k.items.postponed_before in
    record {
      front = take before es;
      more = drop before es;
      whole = sym (take-append-drop before es);
      holds = held.1;
    }

-- the header of an attempt was kept, whatever frames are open inside it, and the frames around it hold what they did,
-- without the postponed blocks of the attempt
AllHold-around_attempt :
    (octets : List ℕ) (es : List Postponed) (inside : List (OpenFrame FrameBlocks)) (f g : OpenFrame FrameBlocks)
    (gs : List (OpenFrame FrameBlocks)) (lost : List (List (Tree ℕ))) (ts us : List (Tree ℕ))
    (rest : List (List (Tree ℕ))) →
    length inside ≡ length lost → all_hold octets es (inside ++ f ∷ g ∷ gs) (lost ++ ts ∷ us ∷ rest) →
    KeepsHeader octets f × AllHold octets (take f.items.postponed_before es) g gs us rest
AllHold-around_attempt octets es inside f g gs lost ts us rest m a =
    let w = HoldFront-inside (all_hold octets) (all_hold-around octets) es inside f (g ∷ gs) lost ts (us ∷ rest) m a in
    let n = f.items.postponed_before in
    let front : take n es ≡ take n w.front = ap (take n) w.whole ∙ take-append-le n w.front w.more w.holds.0.before in
    (w.holds.0.header, subst (λ z. AllHold octets z g gs us rest) (sym front) w.holds.1)

-- at first a builder holds no trees in the frame of the document
pub AllHold-empty : (octets : List ℕ) (e : Extent) (b : TreeBuilder) (i : FrameBlocks) → b.postponed.items ≡ [] →
    i.postponed_before ≡ 0 → i.postponed_count ≡ 0 → i.first ≡ [] → e.start ≡ 0
    → AllHold octets b.postponed.items (record { extent = e; items = i }) [] [] []
AllHold-empty octets e b i none before count first start_is =
    let f : OpenFrame FrameBlocks = record { extent = e; items = i } in
    let start : HasReadTrees octets [] f [] = record {
      before = omega (arith, before);
      postponed = [];
      leads = λ s. ap (λ n. trees_after_all octets (drop n []) s) before ∙ sym (append-nil s);
      count = count;
      trees = sym (ap (λ v. map view v ++ []) first);
      header = λ after. absurd (omega (arith, after, start_is));
    } in
    subst (λ z. AllHold octets z f [] [] []) (sym none) (start, before)

-- a new frame holds nothing
all_hold-open : (octets : List ℕ) (es : List Postponed) (f g : OpenFrame FrameBlocks)
    (gs : List (OpenFrame FrameBlocks))
    (trees : List (List (Tree ℕ)))
    → f.items.postponed_before ≡ length es → f.items.postponed_count ≡ 0 → f.items.first ≡ [] → KeepsHeader octets f →
    all_hold octets es (g ∷ gs) trees
    → all_hold octets es (f ∷ g ∷ gs) ([] ∷ trees)
all_hold-open octets es f g gs [] before count first header h = absurd h
all_hold-open octets es f g gs (ts ∷ rest) before count first header h =
    AllHold-open octets es f g gs ts rest before count first header h

-- the builder of trees holds a new frame, which is empty
pub HasOpened-tree_builder :
    (octets : List ℕ) (h : PlacedHeader) (offset depth : ℕ) (a b : TreeBuilder) (i : FrameBlocks) →
    b.postponed ≡ a.postponed →
    i.postponed_before ≡ length b.postponed.items →
    i.postponed_count ≡ 0 → i.first ≡ [] → i.class ≡ h.class → i.tag ≡ h.tag →
    (limit : ℕ) → HeaderFound octets offset limit h → HasOpened trees_hold octets h offset depth a i b
HasOpened-tree_builder octets h offset depth a b i same before count first class tag limit found = record {
  holds = λ kind f fs trees d is w.
      let alone : IsAttemptAlone octets offset h.end (attempt_with i.class offset i.tag) =
      λ c start here at. (λ k. attempt_with (class k) offset (tag k))
      ∙ HeaderFound-same_attempt octets offset h.end h (record {
        encoding = found.encoding;
        starts_after = found.starts_after;
        order = found.order;
        ends_within = omega arith;
        identifier_size = found.identifier_size;
        size_is = found.size_is;
        length_80 = found.length_80;
        indefinite = found.indefinite;
      }) c start here at in
      all_hold-open octets b.postponed.items (in_frame (opened_at offset kind h) i) f fs trees before count first
      (λ after. alone)
      (subst (λ (z : Vec Postponed Global). all_hold octets z.items (f ∷ fs) trees) (sym same) w);
}

-- the frame f ended: the builder a became c and then r, and the items of the frame around it were i and are j
module _ (octets : List ℕ) (a r : TreeBuilder) (i j : FrameBlocks) (f : OpenFrame FrameBlocks) (depth : ℕ)
    (c : TreeBuilder) where
  module _ (same : c.postponed ≡ a.postponed) where
    -- what holds of the postponed blocks of one builder holds of those of the other
    same_postponed : (P : List Postponed → Type 0) → P a.postponed.items → P c.postponed.items
    same_postponed P p = subst (λ (z : Vec Postponed Global). P z.items) (sym same) p

    -- a group some of whose items were postponed ends as a postponed one
    pub HasEndedIn-group_postponed : (g : GroupKind) → f.extent.kind ≡ Group g →
        IsPostponed c i (PostponedAs.Group g f.extent.offset f.items.first f.items.postponed_count) r j
        → HasEndedIn trees_hold octets f depth a i r j
    HasEndedIn-group_postponed g kind u = record {
      holds = λ e fs ts us rest t d is w.
          let o = f.extent.offset in
          let n = f.items.postponed_before in
          let one = PostponedAs.Group g o f.items.first f.items.postponed_count in
          let this =
          IsEnded-same_kind octets f.extent.kind
          (Group g) f.extent.offset f.extent.start f.extent.end ts t kind is.tree in
          let tree : group o g (trees_of (map view f.items.first ++ w.0.postponed)) ≡ t =
          sym (this ∙ ap (λ z. group o g (trees_of z)) w.0.trees) in
          let grown = subst (λ z. AddsTree octets (take n a.postponed.items) (a.postponed.items ++ one ∷ []) z) tree
          (AddsTree-group octets a.postponed.items n w.0.postponed g o f.items.postponed_count f.items.first w.0.count
          w.0.leads) in
          AllHold-add_postponed octets c r i j e fs us rest (take n a.postponed.items) one t u
          (same_postponed (λ z. AddsTree octets (take n a.postponed.items) (z ++ one ∷ []) t) grown) w.1;
    }

    -- a group none of whose items was postponed ends as a block
    pub HasEndedIn-group_pushed : (g : GroupKind) (b : ASN1Block) → f.extent.kind ≡ Group g →
        f.items.postponed_count ≡ 0
        → view b ≡ group f.extent.offset g (views f.items.first) → IsAdded c i b r j →
        HasEndedIn trees_hold octets f depth a i r j
    HasEndedIn-group_pushed g b kind none means u = record {
      holds = λ e fs ts us rest t d is w.
          let clean = HasNothingPostponed-ended octets a.postponed.items f (in_frame e i) fs ts us rest none w.0 w.1 in
          let this =
          IsEnded-same_kind octets f.extent.kind
          (Group g) f.extent.offset f.extent.start f.extent.end ts t kind is.tree in
          let tree : view b ≡ t = means ∙ sym (this ∙ ap (λ z. group f.extent.offset g (trees_of z)) clean.trees) in
          AllHold-add_tree octets c r i j e fs us rest b t tree u
          (same_postponed (λ z. AllHold octets z (in_frame e i) fs us rest) clean.outer);
    }

    -- an attempt around one postponed block ends as a postponed explicit one
    pub HasEndedIn-explicit_postponed : f.extent.kind ≡ Attempt →
        f.items.postponed_count ≡ 1 → length f.items.first ≡ 0
        → IsPostponed c i (PostponedAs.Explicit (attempt_of f)) r j → HasEndedIn trees_hold octets f depth a i r j
    HasEndedIn-explicit_postponed kind one none u = record {
      holds = λ e fs ts us rest t d is w.
          let k = attempt_of f in
          let alone = w.0.header is.after in
          let n = f.items.postponed_before in
          let (x, leads, are) = Builds-one_tree octets a.postponed.items f ts w.0 one none in
          let this = IsEnded-attempt octets f.extent k ts t kind alone is.tree in
          let tree : around k x ≡ t = sym (this ∙ ap (attempt_tree octets k f.extent.start f.extent.end) are) in
          let grown =
          subst (λ z. AddsTree octets (take n a.postponed.items) (a.postponed.items ++ PostponedAs.Explicit k ∷ []) z)
          tree (AddsTree-explicit octets a.postponed.items n x k leads) in
          AllHold-add_postponed octets c r i j e fs us rest (take n a.postponed.items) (PostponedAs.Explicit k) t u
          (same_postponed (λ z. AddsTree octets (take n a.postponed.items) (z ++ PostponedAs.Explicit k ∷ []) t) grown)
          w.1;
    }

    -- an attempt around one block ends as an explicit block
    pub HasEndedIn-explicit_pushed : (b item : ASN1Block) → f.extent.kind ≡ Attempt →
        f.items.postponed_count ≡ 0 → f.items.first ≡ item ∷ []
        → view b ≡ around (attempt_of f) (view item) → IsAdded c i b r j →
        HasEndedIn trees_hold octets f depth a i r j
    HasEndedIn-explicit_pushed b item kind none one means u = record {
      holds = λ e fs ts us rest t d is w.
          let k = attempt_of f in
          let alone = w.0.header is.after in
          let clean = HasNothingPostponed-ended octets a.postponed.items f (in_frame e i) fs ts us rest none w.0 w.1 in
          let are : ts ≡ view item ∷ [] = clean.trees ∙ ap (map view) one in
          let this = IsEnded-attempt octets f.extent k ts t kind alone is.tree in
          let tree : view b ≡ t = means ∙ sym (this ∙ ap (attempt_tree octets k f.extent.start f.extent.end) are) in
          AllHold-add_tree octets c r i j e fs us rest b t tree u
          (same_postponed (λ z. AllHold octets z (in_frame e i) fs us rest) clean.outer);
    }

  -- the postponed blocks of a failed attempt go, and its encoding stays as it came
  module _ (cut : c.postponed.items ≡ take f.items.postponed_before a.postponed.items) where
    -- an attempt with any number of blocks but one stays as it came
    pub HasEndedIn-as_it_came : f.extent.kind ≡ Attempt → (length f.items.first + f.items.postponed_count ≡ 1 → ⊥) →
        IsAddedAsItCame octets c i (attempt_of f) f.extent.start f.extent.end r j
        → HasEndedIn trees_hold octets f depth a i r j
    HasEndedIn-as_it_came kind many u = record {
      holds = λ e fs ts us rest t d is w.
          let k = attempt_of f in
          let alone = w.0.header is.after in
          let this = IsEnded-attempt octets f.extent k ts t kind alone is.tree in
          let tree = as_it_came-not_one octets k f.extent.start f.extent.end ts t _
          (length-trees octets a.postponed.items f ts w.0) many this in
          let more = AllHold-add_as_it_came octets c r i j e fs us rest k f.extent.start f.extent.end u
          (subst (λ z. AllHold octets z (in_frame e i) fs us rest) (sym cut) w.1) in
          subst (λ z. AllHold octets r.postponed.items (in_frame e j) fs (us ++ z ∷ []) rest) tree more;
    }

    -- an attempt that a fault ended stays as it came
    pub HasKept-as_it_came : f.extent.offset < f.extent.start →
        IsAddedAsItCame octets c i (attempt_of f) f.extent.start f.extent.end r j →
        HasKept trees_hold octets f depth a i r j
    HasKept-as_it_came after u = record {
      holds = λ inside lost e fs ts us rest l d m here at none w.
          let k = attempt_of f in
          let (header, before) =
          AllHold-around_attempt octets a.postponed.items inside f (in_frame e i) fs lost ts us rest m w in
          let same : k ≡ l = header after l f.extent.start here at in
          let more = AllHold-add_as_it_came octets c r i j e fs us rest k f.extent.start f.extent.end u
          (subst (λ z. AllHold octets z (in_frame e i) fs us rest) (sym cut) before) in
          subst (λ z. AllHold octets r.postponed.items (in_frame e j) fs
          (us ++ as_it_came octets z f.extent.start f.extent.end ∷ []) rest) same more;
    }
