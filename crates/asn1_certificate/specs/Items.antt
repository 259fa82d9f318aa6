-- What the iterators over the items of a SEQUENCE or SET by their type have yet to give, and what a call of `next`
-- gives.
use Rattle.std.specs.Prelude.{◌≡◌, ℕ, Bool, true, List, [], ◌∷◌, Option, Some, MatchOption}
use Rattle.asn1_blocks.specs.Tree.{Tree}
use Rattle.asn1_outline.specs.Structure.{IsStructure, Nodes, tree_at}
use Rattle.asn1_certificate.specs.Sequences.{Found, each}
use Rattle.asn1_certificate.specs.Reading.{trees_at}

-- the items that an iterator has yet to give: their indices, and the octets of their document
pub record Items : Type 0 where
  pub octets : List ℕ
  pub indices : List ℕ

-- in a document of these octets, the trees at the indices are of the type
abbrev pub AreOf : (Tree ℕ → Bool) → List ℕ → List ℕ → Type 0
AreOf is octets ks = (ns : Nodes) → IsStructure octets ns → each is (trees_at ns ks) ≡ true

-- in a document of these octets, the fields that were found of the tree at the index are those given
abbrev pub HasFields : {A : Type 0} → (Tree ℕ → Option Found) → (Nodes → A → Found)
    → List ℕ → ℕ → A → Type 0
HasFields found_of given octets k item =
    (ns : Nodes) → IsStructure octets ns → found_of (tree_at ns k) ≡ Some (given ns item)

-- a call of `next` gives the fields of the first item that is left and leaves the others, or gives `None` where none is
-- left
abbrev pub GivesFields : {A : Type 0} → (Tree ℕ → Option Found) → (Nodes → A → Found)
    → Items → Option A → Items → Type 0
GivesFields found_of given before result after =
    (after.octets ≡ before.octets)
    × MatchOption result ((before.indices ≡ []) × (after.indices ≡ []))
    (λ item. (k : ℕ) × (before.indices ≡ k ∷ after.indices) × HasFields found_of given before.octets k item)
