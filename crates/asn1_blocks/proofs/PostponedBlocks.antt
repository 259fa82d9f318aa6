-- Postponed blocks, built one after another, for `postponed` and `read::TreeBuilderBuilder`.
use Rattle.std.proofs.Common.{◌≡◌, ℕ, ◌-◌, List, [], ◌∷◌, ◌++◌, length, map, take, drop, refl, sym, ap, ◌∙◌, arith, length-append, append_assoc, append-nil}
use Rattle.std.proofs.Math.Seq.{take-append_seam, drop-append_seam}
use Rattle.std.proofs.lemmas.List.{take-map, drop-map, map-append, length-map}
use Rattle.asn1_blocks.specs.declared.block.GroupKind.{GroupKind}
use Rattle.asn1_blocks.specs.declared.block.ASN1Block.{ASN1Block}
use Rattle.asn1_blocks.specs.declared.read_loop.Attempt.{Attempt}
use Rattle.asn1_blocks.specs.declared.postponed.Postponed.{Postponed}
use Rattle.asn1_blocks.specs.declared.postponed.Postponed.TheVariants.{Ready, Group, Explicit, AsItCame}
use Rattle.asn1_blocks.specs.Tree.{Tree, group, trees_of}
use Rattle.asn1_blocks.specs.View.{view, views}
use Rattle.asn1_blocks.specs.Inner.OpenFrames.{around, as_it_came}
use Rattle.asn1_blocks.specs.Inner.Postponed.{around_last, trees_after, trees_after_all, Builds}

-- to build two lists of postponed blocks in one is to build the first, and then the second
pub trees_after_all-append : (octets : List ℕ) (es fs : List Postponed) (s : List (Tree ℕ)) →
    trees_after_all octets (es ++ fs) s ≡ trees_after_all octets fs (trees_after_all octets es s)
trees_after_all-append octets [] fs s = refl
trees_after_all-append octets (e ∷ es) fs s = trees_after_all-append octets es fs (trees_after octets e s)

-- to build postponed blocks and one more is to build them, and then that one
pub trees_after_all-append_last : (octets : List ℕ) (es : List Postponed) (e : Postponed) (s : List (Tree ℕ))
    → trees_after_all octets (es ++ e ∷ []) s ≡ trees_after octets e (trees_after_all octets es s)
trees_after_all-append_last octets es e s = trees_after_all-append octets es (e ∷ []) s

-- an attempt goes around the last tree of a list and leaves the trees before it
around_last-append_last : (a : Attempt) (s : List (Tree ℕ)) (x : Tree ℕ) →
    around_last a (s ++ x ∷ []) ≡ s ++ around a x ∷ []
around_last-append_last a [] x = refl
around_last-append_last a (y ∷ []) x = refl
around_last-append_last a (y ∷ z ∷ s) x = ap (λ r. y ∷ r) (around_last-append_last a (z ∷ s) x)

-- postponed blocks that build nothing change nothing
pub Builds-append_nothing : (octets : List ℕ) (es fs : List Postponed) (ts : List (Tree ℕ)) → Builds octets es ts →
    Builds octets fs [] → Builds octets (es ++ fs) ts
Builds-append_nothing octets es fs ts h k s =
    trees_after_all-append octets es fs s
    ∙ (ap (trees_after_all octets fs) (h s) ∙ (k (s ++ ts) ∙ append-nil (s ++ ts)))

-- postponed blocks with a ready one behind them build its tree too
pub Builds-ready : (octets : List ℕ) (es : List Postponed) (ts : List (Tree ℕ)) (b : ASN1Block) → Builds octets es ts
    → Builds octets (es ++ Ready b ∷ []) (ts ++ view b ∷ [])
Builds-ready octets es ts b h s =
    trees_after_all-append_last octets es (Ready b) s
    ∙ (ap (λ z. z ++ view b ∷ []) (h s) ∙ append_assoc s ts (view b ∷ []))

-- postponed blocks with an encoding behind them that stays as it came build its tree too
pub Builds-as_it_came : (octets : List ℕ) (es : List Postponed) (ts : List (Tree ℕ)) (a : Attempt) (from to : ℕ) →
    Builds octets es ts
    → Builds octets (es ++ AsItCame a from to ∷ []) (ts ++ as_it_came octets a from to ∷ [])
Builds-as_it_came octets es ts a from to h s =
    let x = as_it_came octets a from to in
    trees_after_all-append_last octets es (AsItCame a from to) s
    ∙ (ap (λ z. z ++ x ∷ []) (h s) ∙ append_assoc s ts (x ∷ []))

-- pushing a block pushes its tree
pub map-view_append_last : (old new : List ASN1Block) (b : ASN1Block) → new ≡ old ++ b ∷ [] →
    map view new ≡ map view old ++ view b ∷ []
map-view_append_last old new b e = ap (map view) e ∙ map-append view old (b ∷ [])

-- what a group takes from the end of the blocks
pub trees_after-group : (octets : List ℕ) (old kept others all : List ASN1Block) (g : GroupKind) (o behind n : ℕ)
    (first : List ASN1Block) (b : ASN1Block)
    → n ≡ length old - behind → kept ≡ take n old → others ≡ drop n old → all ≡ first ++ others →
    view b ≡ group o g (views all)
    → map view kept ++ view b ∷ [] ≡ trees_after octets (Group g o first behind) (map view old)
trees_after-group octets old kept others all g o behind n first b en ek eo ea eb =
    let seen = map view old in
    let i = length seen - behind in
    let m : i ≡ n = ap (λ z. z - behind) (length-map old view) ∙ sym en in
    let k : map view kept ≡ take i seen =
    ap (map view) ek ∙ (sym (take-map view n old) ∙ ap (λ z. take z seen) (sym m)) in
    let d : map view others ≡ drop i seen =
    ap (map view) eo ∙ (sym (drop-map view n old) ∙ ap (λ z. drop z seen) (sym m)) in
    let a : map view all ≡ map view first ++ drop i seen =
    ap (map view) ea ∙ (map-append view first others ∙ ap (λ z. map view first ++ z) d) in
    ap (λ z. z ++ view b ∷ []) k ∙ ap (λ z. take i seen ++ z ∷ []) (eb ∙ ap (λ z. group o g (trees_of z)) a)

-- what an explicit block takes from the end of the blocks
pub around_last-built : (old kept : List ASN1Block) (a : Attempt) (item b : ASN1Block) → old ≡ kept ++ item ∷ [] →
    view b ≡ around a (view item)
    → map view kept ++ view b ∷ [] ≡ around_last a (map view old)
around_last-built old kept a item b e eb =
    ap (λ z. map view kept ++ z ∷ []) eb
    ∙ (sym (around_last-append_last a (map view kept) (view item))
    ∙ ap (around_last a) (sym (map-view_append_last kept old item e)))

-- postponed blocks with a group behind them, whose other items were postponed, build the group too
pub Builds-group : (octets : List ℕ) (es fs : List Postponed) (us ts : List (Tree ℕ)) (g : GroupKind) (o behind : ℕ)
    (first : List ASN1Block)
    → behind ≡ length ts
    → Builds octets es us → Builds octets fs ts
    → Builds octets (es ++ (fs ++ Group g o first behind ∷ [])) (us ++ group o g (trees_of (map view first ++ ts)) ∷ [])
Builds-group octets es fs us ts g o behind first n h k s =
    let last = Group g o first behind in
    let all = (s ++ us) ++ ts in
    let own = λ (z : List (Tree ℕ)). group o g (trees_of (map view first ++ z)) in
    let before : trees_after_all octets (es ++ (fs ++ last ∷ [])) s
    ≡ trees_after_all octets (fs ++ last ∷ []) (trees_after_all octets es s) = trees_after_all-append octets es
    (fs ++ last ∷ []) s in
    let reached : trees_after_all octets fs (trees_after_all octets es s) ≡ all =
    ap (trees_after_all octets fs) (h s) ∙ k (s ++ us) in
    let e =
    before
    ∙ (trees_after_all-append_last octets fs last (trees_after_all octets es s)
    ∙ ap (trees_after octets last) reached) in
    let m : length all - behind ≡ length (s ++ us) = omega (arith, length-append (s ++ us) ts, n) in
    e
    ∙ (ap (λ z. take z all ++ own (drop z all) ∷ []) m
    ∙ (ap (λ z. z ++ own (drop (length (s ++ us)) all) ∷ []) (take-append_seam (s ++ us) ts)
    ∙ (ap (λ z. (s ++ us) ++ own z ∷ []) (drop-append_seam (s ++ us) ts) ∙ append_assoc s us _)))

-- postponed blocks with an explicit one behind them, around a tree that was postponed, build its tree too
pub Builds-explicit : (octets : List ℕ) (es fs : List Postponed) (us : List (Tree ℕ)) (x : Tree ℕ) (a : Attempt) →
    Builds octets es us
    → Builds octets fs (x ∷ [])
    → Builds octets (es ++ (fs ++ Explicit a ∷ [])) (us ++ around a x ∷ [])
Builds-explicit octets es fs us x a h k s =
    trees_after_all-append octets es (fs ++ Explicit a ∷ []) s
    ∙ (trees_after_all-append_last octets fs (Explicit a) (trees_after_all octets es s)
    ∙ (ap (around_last a) (ap (trees_after_all octets fs) (h s) ∙ k (s ++ us))
    ∙ (around_last-append_last a (s ++ us) x ∙ append_assoc s us (around a x ∷ []))))
