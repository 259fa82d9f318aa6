-- How frames of trees hold what they read, as blocks and as postponed blocks, for `read::TreeBuilderBuilder`.
use Rattle.std.proofs.Common.{◌≡◌, ℕ, ◌+◌, ◌≤◌, List, [], ◌∷◌, ◌++◌, length, map, take, drop, sym, ap, ◌∙◌, subst, arith, length-append, append_assoc, append-nil}
use Rattle.std.proofs.Math.Seq.{take-length, drop-length}
use Rattle.std.proofs.lemmas.List.{map-append, take-append-drop, take-append-le, drop-append-le, nil_from_length}
use Rattle.asn1_blocks.specs.declared.block.ASN1Block.{ASN1Block}
use Rattle.asn1_blocks.specs.declared.postponed.Postponed.{Postponed}
use Rattle.asn1_blocks.specs.declared.read_loop.OpenFrame.{OpenFrame}
use Rattle.asn1_blocks.specs.declared.read.FrameBlocks.{FrameBlocks}
use Rattle.asn1_blocks.specs.Tree.{Tree}
use Rattle.asn1_blocks.specs.View.{view}
use Rattle.asn1_blocks.specs.Inner.Postponed.{trees_after_all, Builds}
use Rattle.asn1_blocks.specs.Inner.TreeBuilding.{AllHold, KeepsHeader, HasReadTrees}
use Rattle.asn1_blocks.proofs.PostponedBlocks.{Builds-append_nothing}

-- more blocks are postponed, which build one tree more
pub record AddsTree (octets : List ℕ) (es fs : List Postponed) (t : Tree ℕ) : Type 0 where
  pub more : List Postponed
  pub whole : fs ≡ es ++ more
  pub leads : (ds : List Postponed) (us : List (Tree ℕ)) → Builds octets ds us →
      Builds octets (ds ++ more) (us ++ t ∷ [])

-- a frame has one tree more, which is postponed
pub record PostponesTree (octets : List ℕ) (es fs : List Postponed) (f g : OpenFrame FrameBlocks)
    (t : Tree ℕ) : Type 0 where
  pub before : g.items.postponed_before ≡ f.items.postponed_before
  pub first : g.items.first ≡ f.items.first
  pub count : g.items.postponed_count ≡ f.items.postponed_count + 1
  pub header : KeepsHeader octets f → KeepsHeader octets g
  pub grown : AddsTree octets es fs t

-- a frame has one block more, and nothing is postponed
pub record PushesBlock (octets : List ℕ) (f g : OpenFrame FrameBlocks) (b : ASN1Block) : Type 0 where
  pub before : g.items.postponed_before ≡ f.items.postponed_before
  pub first : g.items.first ≡ f.items.first ++ b ∷ []
  pub count : g.items.postponed_count ≡ f.items.postponed_count
  pub header : KeepsHeader octets f → KeepsHeader octets g
  pub none : f.items.postponed_count ≡ 0

-- a frame holds one tree more by a postponed block
HasReadTrees-postpone : (octets : List ℕ) (es fs : List Postponed) (f g : OpenFrame FrameBlocks) (ts : List (Tree ℕ))
    (t : Tree ℕ)
    → PostponesTree octets es fs f g t → HasReadTrees octets es f ts
    → HasReadTrees octets fs g (ts ++ t ∷ [])
HasReadTrees-postpone octets es fs f g ts t w h =
    let more = w.grown.more in
    let own : drop g.items.postponed_before fs ≡ drop f.items.postponed_before es ++ more =
    ap (λ z. drop z fs) w.before ∙
    (ap (drop f.items.postponed_before) w.grown.whole ∙ drop-append-le f.items.postponed_before es more h.before) in
    let longer : length fs ≡ length es + length more = ap length w.grown.whole ∙ length-append es more in
    let seen = append_assoc (map view f.items.first) h.postponed (t ∷ []) in
    record {
      before = omega (arith, w.before, h.before, longer);
      postponed = h.postponed ++ t ∷ [];
      leads = subst (λ z. Builds octets z (h.postponed ++ t ∷ [])) (sym own)
          (w.grown.leads (drop f.items.postponed_before es) h.postponed h.leads);
      count = omega (arith, w.count, h.count, length-append h.postponed (t ∷ []));
      trees = ap (λ z. z ++ t ∷ []) h.trees ∙ (seen ∙ ap (λ z. map view z ++ (h.postponed ++ t ∷ [])) (sym w.first));
      header = w.header h.header;
    }

-- a frame holds one tree more by a block
HasReadTrees-push : (octets : List ℕ) (es : List Postponed) (f g : OpenFrame FrameBlocks) (ts : List (Tree ℕ))
    (b : ASN1Block) →
    PushesBlock octets f g b → HasReadTrees octets es f ts
    → HasReadTrees octets es g (ts ++ view b ∷ [])
HasReadTrees-push octets es f g ts b w h =
    let none : h.postponed ≡ [] = nil_from_length h.postponed (sym (sym w.none ∙ h.count)) in
    let before : ts ≡ map view f.items.first =
    h.trees ∙ (ap (λ z. map view f.items.first ++ z) none ∙ append-nil (map view f.items.first)) in
    let seen : map view g.items.first ≡ map view f.items.first ++ view b ∷ [] =
    ap (map view) w.first ∙ map-append view f.items.first (b ∷ []) in
    let own : map view g.items.first ++ h.postponed ≡ map view g.items.first =
    ap (λ z. map view g.items.first ++ z) none ∙ append-nil (map view g.items.first) in
    record {
      before = omega (arith, w.before, h.before);
      postponed = h.postponed;
      leads = subst (λ n. Builds octets (drop n es) h.postponed) (sym w.before) h.leads;
      count = w.count ∙ h.count;
      trees = ap (λ z. z ++ view b ∷ []) before ∙ (sym seen ∙ sym own);
      header = w.header h.header;
    }

-- the frames around hold what they did, whatever is postponed behind their own
AllHold-take_append : (octets : List ℕ) (es more : List Postponed) (n : ℕ) (g : OpenFrame FrameBlocks)
    (gs : List (OpenFrame FrameBlocks)) (us : List (Tree ℕ)) (rest : List (List (Tree ℕ)))
    → n ≤ length es → AllHold octets (take n es) g gs us rest → AllHold octets (take n (es ++ more)) g gs us rest
AllHold-take_append octets es more n g gs us rest h a =
    subst (λ z. AllHold octets z g gs us rest) (sym (take-append-le n es more h)) a

-- the frames hold one tree more when a block is postponed
pub AllHold-postpone : (octets : List ℕ) (es fs : List Postponed) (f g : OpenFrame FrameBlocks)
    (hs : List (OpenFrame FrameBlocks))
    (ts : List (Tree ℕ))
    (rest : List (List (Tree ℕ))) (t : Tree ℕ)
    → PostponesTree octets es fs f g t → AllHold octets es f hs ts rest → AllHold octets fs g hs (ts ++ t ∷ []) rest
AllHold-postpone octets es fs f g [] ts [] t w a = (HasReadTrees-postpone octets es fs f g ts t w a.0, w.before ∙ a.1)
AllHold-postpone octets es fs f g [] ts (us ∷ rest) t w a = absurd a
AllHold-postpone octets es fs f g (h ∷ hs) ts [] t w a = absurd a
AllHold-postpone octets es fs f g (h ∷ hs) ts (us ∷ rest) t w a =
    let u = AllHold-take_append octets es w.grown.more f.items.postponed_before h hs us rest a.0.before a.1 in
    let v = subst (λ z. AllHold octets (take f.items.postponed_before z) h hs us rest) (sym w.grown.whole) u in (
      HasReadTrees-postpone octets es fs f g ts t w a.0,
      subst (λ z. AllHold octets (take z fs) h hs us rest) (sym w.before) v,
    )

-- the frames hold one tree more when a block is pushed
pub AllHold-push : (octets : List ℕ) (es : List Postponed) (f g : OpenFrame FrameBlocks)
    (hs : List (OpenFrame FrameBlocks))
    (ts : List (Tree ℕ))
    (rest : List (List (Tree ℕ))) (b : ASN1Block)
    → PushesBlock octets f g b → AllHold octets es f hs ts rest → AllHold octets es g hs (ts ++ view b ∷ []) rest
AllHold-push octets es f g [] ts [] b w a = (HasReadTrees-push octets es f g ts b w a.0, w.before ∙ a.1)
AllHold-push octets es f g [] ts (us ∷ rest) b w a = absurd a
AllHold-push octets es f g (h ∷ hs) ts [] b w a = absurd a
AllHold-push octets es f g (h ∷ hs) ts (us ∷ rest) b w a = (
  HasReadTrees-push octets es f g ts b w a.0,
  subst (λ n. AllHold octets (take n es) h hs us rest) (sym w.before) a.1,
)

-- a frame holds what it did where more is postponed that builds nothing
HasReadTrees-append_nothing : (octets : List ℕ) (es fs : List Postponed) (f : OpenFrame FrameBlocks)
    (ts : List (Tree ℕ)) →
    Builds octets fs [] → HasReadTrees octets es f ts
    → HasReadTrees octets (es ++ fs) f ts
HasReadTrees-append_nothing octets es fs f ts k h =
    let own = drop-append-le f.items.postponed_before es fs h.before in
    record {
      before = omega (arith, h.before, length-append es fs);
      postponed = h.postponed;
      leads = subst (λ z. Builds octets z h.postponed) (sym own)
          (Builds-append_nothing octets (drop f.items.postponed_before es) fs h.postponed h.leads k);
      count = h.count;
      trees = h.trees;
      header = h.header;
    }

-- frames hold what they did where more is postponed that builds nothing
AllHold-append_nothing : (octets : List ℕ) (es fs : List Postponed) (f : OpenFrame FrameBlocks)
    (hs : List (OpenFrame FrameBlocks))
    (ts : List (Tree ℕ)) (rest : List (List (Tree ℕ)))
    → Builds octets fs []
    → AllHold octets es f hs ts rest → AllHold octets (es ++ fs) f hs ts rest
AllHold-append_nothing octets es fs f [] ts [] k a = (HasReadTrees-append_nothing octets es fs f ts k a.0, a.1)
AllHold-append_nothing octets es fs f [] ts (us ∷ rest) k a = absurd a
AllHold-append_nothing octets es fs f (h ∷ hs) ts [] k a = absurd a
AllHold-append_nothing octets es fs f (h ∷ hs) ts (us ∷ rest) k a = (
  HasReadTrees-append_nothing octets es fs f ts k a.0,
  AllHold-take_append octets es fs f.items.postponed_before h hs us
      rest a.0.before a.1,
)

-- nothing of a frame is postponed: its trees are its blocks, and the frames around it hold what they did
pub record HasNothingPostponed (octets : List ℕ) (es : List Postponed) (f g : OpenFrame FrameBlocks)
    (hs : List (OpenFrame FrameBlocks))
    (ts us : List (Tree ℕ))
    (rest : List (List (Tree ℕ))) : Type 0
  where
    pub outer : AllHold octets es g hs us rest
    pub trees : ts ≡ map view f.items.first

-- where nothing of the innermost frame is postponed, its trees are its blocks
pub HasNothingPostponed-ended : (octets : List ℕ) (es : List Postponed) (f g : OpenFrame FrameBlocks)
    (hs : List (OpenFrame FrameBlocks))
    (ts us : List (Tree ℕ)) (rest : List (List (Tree ℕ)))
    → f.items.postponed_count ≡ 0
    → HasReadTrees octets es f ts → AllHold octets (take f.items.postponed_before es) g hs us rest →
    HasNothingPostponed octets es f g hs ts us rest
HasNothingPostponed-ended octets es f g hs ts us rest z own around =
    let none : own.postponed ≡ [] = nil_from_length own.postponed (sym (sym z ∙ own.count)) in
    let l : Builds octets (drop f.items.postponed_before es) [] =
    subst (λ w. Builds octets (drop f.items.postponed_before es) w) none own.leads in
    let all =
    AllHold-append_nothing octets (take f.items.postponed_before es)
    (drop f.items.postponed_before es) g hs us rest l around in
    record {
      outer = subst (λ w. AllHold octets w g hs us rest) (take-append-drop f.items.postponed_before es) all;
      trees = own.trees ∙ (ap (λ w. map view f.items.first ++ w) none ∙ append-nil (map view f.items.first));
    }

-- a new frame inside holds nothing, and those around it hold what they did
pub AllHold-open : (octets : List ℕ) (es : List Postponed) (f g : OpenFrame FrameBlocks)
    (hs : List (OpenFrame FrameBlocks))
    (us : List (Tree ℕ)) (rest : List (List (Tree ℕ)))
    → f.items.postponed_before ≡ length es → f.items.postponed_count ≡ 0 → f.items.first ≡ [] → KeepsHeader octets f →
    AllHold octets es g hs us rest →
    AllHold octets es f (g ∷ hs) [] (us ∷ rest)
AllHold-open octets es f g hs us rest b z i header a =
    let all : take f.items.postponed_before es ≡ es = ap (λ n. take n es) b ∙ take-length es in
    let none : drop f.items.postponed_before es ≡ [] = ap (λ n. drop n es) b ∙ drop-length es in (
      record {
        before = omega (arith, b);
        postponed = [];
        leads = λ s. ap (λ v. trees_after_all octets v s) none ∙ sym (append-nil s);
        count = z;
        trees = sym (ap (λ v. map view v ++ []) i);
        header = header;
      },
      subst (λ v. AllHold octets v g hs us rest) (sym all) a,
    )
