-- Steps of the walk that finds the blocks of trees in tree order, for `tree_walk` and for all that goes over blocks.
use Rattle.std.proofs.Common.{◌≡◌, ℕ, zero, suc, ◌+◌, ◌≤◌, List, [], ◌∷◌, ◌++◌, length, map, drop, get_or, refl, sym, ap, subst, ◌∙◌, arith, append_assoc, append-nil, Bor}
use Rattle.std.proofs.lemmas.List.{drop_more, map_push}
use Rattle.asn1_blocks.specs.declared.block.ASN1Block.{ASN1Block}
use Rattle.asn1_blocks.specs.Tree.{Tree, Trees, leaf, group, explicit, unknown}
use Rattle.asn1_blocks.specs.BlockParts.{in_order, all_in_order}
use Rattle.asn1_blocks.specs.HeadersBegun.{blocks_in, all_blocks_in}
use Rattle.asn1_blocks.specs.Inner.TreeOrder.{IsInTreeOrder, IsNextTree, inside, stacked}
use Rattle.asn1_blocks.specs.View.{view, views}

-- the blocks of lists inside one another are those of the innermost list, and then those of the others
pub stacked-append_last : (outer : List (List ASN1Block)) (blocks : List ASN1Block) →
    stacked (outer ++ blocks ∷ []) ≡ blocks ++ stacked outer
stacked-append_last [] blocks = sym (append-nil blocks)
stacked-append_last (a ∷ outer) blocks =
    ap (λ z. z ++ a) (stacked-append_last outer blocks) ∙ append_assoc blocks (stacked outer) a

-- the blocks of lists inside one another, of which one more is the innermost
pub stacked-map_append_last : (more outer : List (Bor (List ASN1Block))) (x : Bor (List ASN1Block)) →
    more ≡ outer ++ x ∷ []
    → stacked (map (λ b. b.now) more) ≡ x.now ++ stacked (map (λ b. b.now) outer)
stacked-map_append_last more outer x e =
    ap (λ z. stacked (map (λ b. b.now) z)) e
    ∙ (ap stacked (map_push (λ (b : Bor (List ASN1Block)). b.now) outer x)
    ∙ stacked-append_last (map (λ b. b.now) outer) x.now)

-- a tree has one block more than all trees inside it
pub blocks_in-inside : (b : Tree ℕ) → blocks_in b ≡ 1 + all_blocks_in (inside b)
blocks_in-inside (leaf o l) = refl
blocks_in-inside (group o g bs) = refl
blocks_in-inside (explicit c o n b) = omega arith
blocks_in-inside (unknown c k o n v) = refl

-- a list in two parts has as many blocks, at all depths, as both parts together
all_blocks_in-append : (xs ys : List ASN1Block) →
    all_blocks_in (views (xs ++ ys)) ≡ all_blocks_in (views xs) + all_blocks_in (views ys)
all_blocks_in-append [] ys = omega arith
all_blocks_in-append (x ∷ xs) ys = omega (arith, all_blocks_in-append xs ys)

-- after a block one block fewer is ahead
pub all_blocks_in-next : (b : ASN1Block) (before after : List ASN1Block) → IsNextTree b before after →
    all_blocks_in (views after) + 1 ≡ all_blocks_in (views before)
all_blocks_in-next b before after n =
    omega (
      arith,
      ap (λ z. all_blocks_in (views z)) n.then,
      all_blocks_in-append n.held n.rest,
      ap (λ z. all_blocks_in z) n.holds,
      blocks_in-inside (view b),
      ap (λ z. all_blocks_in (views z)) n.first,
    )

-- the blocks that were found, and any tree order of those ahead, are a tree order of all
abbrev pub IsFoundBefore : List ASN1Block → List ASN1Block → List ASN1Block → Type 0
IsFoundBefore found ahead whole =
    (order : List ASN1Block) → IsInTreeOrder order ahead → IsInTreeOrder (found ++ order) whole

-- the next block is found behind those that were found
pub IsFoundBefore-next : (found before after whole : List ASN1Block) (b : ASN1Block) →
    IsFoundBefore found before whole →
    IsNextTree b before after
    → IsFoundBefore (found ++ b ∷ []) after whole
IsFoundBefore-next found before after whole b f n order h =
    subst (λ z. IsInTreeOrder z whole) (sym (append_assoc found (b ∷ []) order)) (f (b ∷ order) (after, n, h))

-- with no block ahead, those that were found are all in tree order
pub IsInTreeOrder-found : (found ahead whole : List ASN1Block) → IsFoundBefore found ahead whole → ahead ≡ [] →
    IsInTreeOrder found whole
IsInTreeOrder-found found ahead whole f e = subst (λ z. IsInTreeOrder z whole) (append-nil found) (f [] e)

-- what is left of a tree order is a tree order of some blocks
pub IsInTreeOrder-drop : (order blocks : List ASN1Block) (i : ℕ) → IsInTreeOrder order blocks → i ≤ length order
    → (left : List ASN1Block) × IsInTreeOrder (drop i order) left
IsInTreeOrder-drop order blocks zero h l = (blocks, h)
IsInTreeOrder-drop [] blocks (suc i) h l = absurd (omega (arith, l))
IsInTreeOrder-drop (b ∷ order) blocks (suc i) (after, n, h) l = IsInTreeOrder-drop order after i h (omega (arith, l))

-- an order of some blocks from j on begins with the block at j
pub record BeginsAtPlace (b : ASN1Block) (order left : List ASN1Block) (i : ℕ) : Type 0 where
  pub after : List ASN1Block
  pub next : IsNextTree b left after
  pub ordered : IsInTreeOrder (drop i order) after

-- what is left of an order from a place on begins with the block there
pub BeginsAtPlace-drop : (order left : List ASN1Block) (i j : ℕ) (b : ASN1Block) → j + 1 ≡ i → i ≤ length order →
    b ≡ get_or order j b
    → IsInTreeOrder (drop j order) left → BeginsAtPlace b order left i
BeginsAtPlace-drop order left i j b e l g h =
    let d : drop j order ≡ b ∷ drop i order = drop_more order j b (omega (arith, e, l))
    ∙ (ap (λ z. z ∷ drop (j + 1) order) (sym g) ∙ ap (λ z. b ∷ drop z order) e) in
    let (after, next, ordered) = subst (λ z. IsInTreeOrder z left) d h in
    record { after = after; next = next; ordered = ordered }

-- trees in order of a list in two parts are the trees of the first part, and then of the second
all_in_order-append : (xs ys : List ASN1Block) →
    all_in_order (views (xs ++ ys)) ≡ all_in_order (views xs) ++ all_in_order (views ys)
all_in_order-append [] ys = refl
all_in_order-append (x ∷ xs) ys =
    ap (λ z. in_order (view x) ++ z) (all_in_order-append xs ys)
    ∙ sym (append_assoc (in_order (view x)) (all_in_order (views xs)) (all_in_order (views ys)))

-- blocks of given trees, with other blocks behind them, have in order these trees and then the others
all_in_order-held : (held rest : List ASN1Block) (bs : Trees ℕ) → views held ≡ bs
    → all_in_order (views (held ++ rest)) ≡ all_in_order bs ++ all_in_order (views rest)
all_in_order-held held rest bs e =
    all_in_order-append held rest ∙ ap (λ z. all_in_order z ++ all_in_order (views rest)) e

-- a tree in order is the tree itself, and then the trees inside it in order
in_order-inside : (b : Tree ℕ) → in_order b ≡ b ∷ all_in_order (inside b)
in_order-inside (leaf o l) = refl
in_order-inside (group o g bs) = refl
in_order-inside (explicit c o n b) = ap (λ z. explicit c o n b ∷ z) (sym (append-nil (in_order b)))
in_order-inside (unknown c k o n v) = refl

-- blocks in tree order have the trees in order
pub map-view_in_order : (order blocks : List ASN1Block) → IsInTreeOrder order blocks →
    map view order ≡ all_in_order (views blocks)
map-view_in_order [] blocks e = ap (λ z. all_in_order (views z)) (sym e)
map-view_in_order (b ∷ order) blocks (after, n, h) =
    let rest : map view order ≡ all_in_order (inside (view b)) ++ all_in_order (views n.rest) =
    map-view_in_order order after h
    ∙ (ap (λ z. all_in_order (views z)) n.then ∙ all_in_order-held n.held n.rest (inside (view b)) n.holds) in
    let whole : all_in_order (views blocks) ≡ in_order (view b) ++ all_in_order (views n.rest) =
    ap (λ z. all_in_order (views z)) n.first in
    ap (λ z. view b ∷ z) rest
    ∙ (ap (λ z. z ++ all_in_order (views n.rest)) (sym (in_order-inside (view b))) ∙ sym whole)
