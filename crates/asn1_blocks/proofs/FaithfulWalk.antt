-- Steps of the walk over all blocks of a tree, for `faithful::are_faithful`.
use Rattle.std.proofs.Common.{◌↔◌, ℕ, List, [], ◌∷◌, ◌++◌, sym, subst}
use Rattle.asn1_blocks.specs.declared.block.ASN1Block.{ASN1Block}
use Rattle.asn1_blocks.specs.Tree.{Tree, leaf, group, explicit, unknown}
use Rattle.asn1_blocks.specs.Faithful.{IsFaithful, AreFaithful}
use Rattle.asn1_blocks.specs.Inner.FaithfulWalk.{IsFaithfulAlone}
use Rattle.asn1_blocks.specs.Inner.TreeOrder.{IsNextTree, inside}
use Rattle.asn1_blocks.specs.View.{view, views}

-- a tree is faithful exactly if it is by itself, and the trees inside it are

IsFaithful-parts : (t : Tree ℕ) → IsFaithful t → IsFaithfulAlone t × AreFaithful (inside t)
IsFaithful-parts (leaf o l) f = (f, tt)
IsFaithful-parts (group o g bs) f = (tt, f)
IsFaithful-parts (explicit c o n b) f = (f.0, (f.1, tt))
IsFaithful-parts (unknown c k o n v) f = (f, tt)

IsFaithful-from_parts : (t : Tree ℕ) → IsFaithfulAlone t → AreFaithful (inside t) → IsFaithful t
IsFaithful-from_parts (leaf o l) f h = f
IsFaithful-from_parts (group o g bs) f h = h
IsFaithful-from_parts (explicit c o n b) f h = (f, h.0)
IsFaithful-from_parts (unknown c k o n v) f h = f

-- two lists of faithful blocks are faithful one after the other
AreFaithful-append : (xs ys : List ASN1Block) → AreFaithful (views xs) → AreFaithful (views ys) →
    AreFaithful (views (xs ++ ys))
AreFaithful-append [] ys f h = h
AreFaithful-append (x ∷ xs) ys f h = (f.0, AreFaithful-append xs ys f.1 h)

-- where all blocks of a list in two parts are faithful, the blocks of each part are
AreFaithful-split : (xs ys : List ASN1Block) → AreFaithful (views (xs ++ ys)) →
    AreFaithful (views xs) × AreFaithful (views ys)
AreFaithful-split [] ys f = (tt, f)
AreFaithful-split (x ∷ xs) ys f = let s = AreFaithful-split xs ys f.1 in ((f.0, s.0), s.1)

-- all blocks are faithful exactly if those ahead are
abbrev pub IsDecidedBy : List ASN1Block → List ASN1Block → Type 0
IsDecidedBy whole rest = AreFaithful (views whole) ↔ AreFaithful (views rest)

-- where a block is faithful alone, the blocks after it decide whether all are
pub IsDecidedBy-next :
    (whole before after : List ASN1Block) (b : ASN1Block) → IsDecidedBy whole before → IsNextTree b before after →
    IsFaithfulAlone (view b) → IsDecidedBy whole after
IsDecidedBy-next whole before after b rest n alone =
    let down : AreFaithful (views before) → AreFaithful (views after) = λ h.
    let p : AreFaithful (views (b ∷ n.rest)) = subst (λ z. AreFaithful (views z)) n.first h in
    let held = subst AreFaithful (sym n.holds) (IsFaithful-parts (view b) p.0).1 in
    subst (λ z. AreFaithful (views z)) (sym n.then) (AreFaithful-append n.held n.rest held p.1) in
    let up : AreFaithful (views after) → AreFaithful (views before) = λ h.
    let s = AreFaithful-split n.held n.rest (subst (λ z. AreFaithful (views z)) n.then h) in
    let p : AreFaithful (views (b ∷ n.rest)) =
    (IsFaithful-from_parts (view b) alone (subst AreFaithful n.holds s.0), s.1) in
    subst (λ z. AreFaithful (views z)) (sym n.first) p in
    (λ h. down (rest.0 h), λ h. rest.1 (up h))
