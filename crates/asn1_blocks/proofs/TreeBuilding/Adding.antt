-- One tree more in the innermost frame, as a block or a postponed one, for `read::TreeBuilderBuilder`.
use Rattle.std.proofs.Common.{◌≡◌, ℕ, List, [], ◌∷◌, ◌++◌, inl, inr, length, map, take, drop, refl, sym, ap, ◌∙◌, subst, append_assoc}
use Rattle.std.proofs.lemmas.List.{take-append-drop}
use Rattle.asn1_blocks.specs.declared.block.ASN1Block.{ASN1Block}
use Rattle.asn1_blocks.specs.declared.block.GroupKind.{GroupKind}
use Rattle.asn1_blocks.specs.declared.read_loop.Attempt.{Attempt}
use Rattle.asn1_blocks.specs.declared.read_loop.Extent.{Extent}
use Rattle.asn1_blocks.specs.declared.read_loop.OpenFrame.{OpenFrame}
use Rattle.asn1_blocks.specs.declared.postponed.Postponed.{Postponed}
use Rattle.asn1_blocks.specs.declared.postponed.Postponed.TheVariants as PostponedAs
use Rattle.asn1_blocks.specs.declared.read.FrameBlocks.{FrameBlocks}
use Rattle.asn1_blocks.specs.declared.read.TreeBuilder.{TreeBuilder}
use Rattle.asn1_blocks.specs.Inner.OpenFrames.{around, as_it_came}
use Rattle.asn1_blocks.specs.Inner.Postponed.{Builds}
use Rattle.asn1_blocks.specs.Inner.TreeBuilding.{AllHold, KeepsHeader, IsAddedAsItCame, IsPostponed, IsAdded}
use Rattle.asn1_blocks.specs.Inner.ReaderSteps.{in_frame}
use Rattle.asn1_blocks.specs.Tree.{Tree, group, trees_of}
use Rattle.asn1_blocks.specs.View.{view}
use Rattle.asn1_blocks.proofs.PostponedBlocks.{Builds-explicit, Builds-group, Builds-as_it_came, Builds-ready}
use Rattle.asn1_blocks.proofs.TreeBuilding.Holding.{AddsTree, PostponesTree, PushesBlock, AllHold-postpone, AllHold-push}

-- a postponed block that is ready is one tree more
AddsTree-ready : (octets : List ℕ) (es : List Postponed) (b : ASN1Block) →
    AddsTree octets es (es ++ PostponedAs.Ready b ∷ []) (view b)
AddsTree-ready octets es b =
    record { more = PostponedAs.Ready b ∷ []; whole = refl; leads = λ ds us h. Builds-ready octets ds us b h }

-- a postponed encoding that stays as it came is one tree more
AddsTree-as_it_came : (octets : List ℕ) (es : List Postponed) (a : Attempt) (from to : ℕ)
    → AddsTree octets es (es ++ PostponedAs.AsItCame a from to ∷ []) (as_it_came octets a from to)
AddsTree-as_it_came octets es a from to =
    record {
      more = PostponedAs.AsItCame a from to ∷ [];
      whole = refl;
      leads = λ ds us h. Builds-as_it_came octets ds us a
          from to h;
    }

-- postponed blocks and one more are those before a place, those behind it, and the one more
append-take_drop : (es : List Postponed) (n : ℕ) (e : Postponed) → es ++ e ∷ [] ≡ take n es ++ (drop n es ++ e ∷ [])
append-take_drop es n e =
    ap (λ z. z ++ e ∷ []) (sym (take-append-drop n es)) ∙ append_assoc (take n es) (drop n es) (e ∷ [])

-- a postponed group takes in the postponed blocks from a place on
pub AddsTree-group : (octets : List ℕ) (es : List Postponed) (n : ℕ) (ts : List (Tree ℕ)) (g : GroupKind) (o behind : ℕ)
    (first : List ASN1Block)
    → behind ≡ length ts
    → Builds octets (drop n es) ts →
    AddsTree octets (take n es) (es ++ PostponedAs.Group g o first behind ∷ [])
    (group o g (trees_of (map view first ++ ts)))
AddsTree-group octets es n ts g o behind first l k =
    let e = PostponedAs.Group g o first behind in
    record {
      more = drop n es ++ e ∷ [];
      whole = append-take_drop es n e;
      leads =
          λ ds us h. Builds-group octets ds (drop n es) us ts g o behind first l h k;
    }

-- a postponed explicit block takes in the one postponed block from a place on
pub AddsTree-explicit : (octets : List ℕ) (es : List Postponed) (n : ℕ) (x : Tree ℕ) (a : Attempt) →
    Builds octets (drop n es) (x ∷ [])
    → AddsTree octets (take n es) (es ++ PostponedAs.Explicit a ∷ []) (around a x)
AddsTree-explicit octets es n x a k =
    let e = PostponedAs.Explicit a in
    record {
      more = drop n es ++ e ∷ [];
      whole = append-take_drop es n e;
      leads =
          λ ds us h. Builds-explicit octets ds (drop n es) us x a h k;
    }

-- a frame whose items keep the class and the tag number keeps its header
KeepsHeader-same_fields : (octets : List ℕ) (e : Extent) (i j : FrameBlocks) → j.class ≡ i.class → j.tag ≡ i.tag →
    KeepsHeader octets (in_frame e i) → KeepsHeader octets (in_frame e j)
KeepsHeader-same_fields octets e i j class tag header after b start here at =
    (λ k. record { class = class k; offset = e.offset; tag = tag k }) ∙ header after b start here at

-- the builder a became r, and the items of the frame were i and are j
module _ (octets : List ℕ) (a r : TreeBuilder) (i j : FrameBlocks) (e : Extent) (gs : List (OpenFrame FrameBlocks))
    (ts : List (Tree ℕ))
    (rest : List (List (Tree ℕ))) where
  -- one block more is postponed, which takes in the postponed blocks of a frame that ended
  pub AllHold-add_postponed : (es : List Postponed) (o : Postponed) (t : Tree ℕ) → IsPostponed a i o r j →
      AddsTree octets es (a.postponed.items ++ o ∷ []) t
      → AllHold octets es (in_frame e i) gs ts rest →
      AllHold octets r.postponed.items (in_frame e j) gs (ts ++ t ∷ []) rest
  AllHold-add_postponed es o t u grown h =
      let all = a.postponed.items ++ o ∷ [] in
      let owing : PostponesTree octets es all (in_frame e i) (in_frame e j) t =
      record {
        before = u.before;
        first = u.first;
        count = u.count;
        header = KeepsHeader-same_fields octets e i j u.class u.tag;
        grown = grown;
      } in
      subst (λ z. AllHold octets z (in_frame e j) gs (ts ++ t ∷ []) rest) (sym u.postponed)
      (AllHold-postpone octets es all (in_frame e i) (in_frame e j) gs ts rest t owing h)

  -- a block was added, and its tree is held
  pub AllHold-add_block : (b : ASN1Block) → IsAdded a i b r j
      → AllHold octets a.postponed.items (in_frame e i) gs ts rest →
      AllHold octets r.postponed.items (in_frame e j) gs (ts ++ view b ∷ []) rest
  AllHold-add_block b (inl u) h =
      let pushing : PushesBlock octets (in_frame e i) (in_frame e j) b = record {
        before = u.before;
        first = u.first;
        count = u.count;
        header = KeepsHeader-same_fields octets e i j u.class u.tag;
        none = u.none;
      } in
      subst (λ z. AllHold octets z (in_frame e j) gs (ts ++ view b ∷ []) rest) (sym u.postponed)
      (AllHold-push octets a.postponed.items (in_frame e i) (in_frame e j) gs ts rest b pushing h)
  AllHold-add_block b (inr u) h =
      AllHold-add_postponed a.postponed.items (PostponedAs.Ready b) (view b) u
      (AddsTree-ready octets a.postponed.items b) h

  -- a block, whose tree is t, was added
  pub AllHold-add_tree : (b : ASN1Block) (t : Tree ℕ) → view b ≡ t → IsAdded a i b r j
      → AllHold octets a.postponed.items (in_frame e i) gs ts rest →
      AllHold octets r.postponed.items (in_frame e j) gs (ts ++ t ∷ []) rest
  AllHold-add_tree b t is u h =
      subst (λ z. AllHold octets r.postponed.items (in_frame e j) gs (ts ++ z ∷ []) rest) is (AllHold-add_block b u h)

  -- an encoding that stays as it came was added, and its tree is held
  pub AllHold-add_as_it_came : (k : Attempt) (start end : ℕ) → IsAddedAsItCame octets a i k start end r j →
      AllHold octets a.postponed.items (in_frame e i) gs ts rest
      → AllHold octets r.postponed.items (in_frame e j) gs (ts ++ as_it_came octets k start end ∷ []) rest
  AllHold-add_as_it_came k start end (inl (b, is, added)) h =
      AllHold-add_tree b (as_it_came octets k start end) is added h
  AllHold-add_as_it_came k start end (inr u) h =
      AllHold-add_postponed a.postponed.items (PostponedAs.AsItCame k start end) (as_it_came octets k start end) u
      (AddsTree-as_it_came octets a.postponed.items k start end) h
