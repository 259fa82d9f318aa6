-- Slices of documents: one after another, cut short, and the octets of one block.
use Rattle.std.specs.Prelude.{◌≡◌, ◌≢◌, ◌↔◌, ℕ, ◌<◌, ◌++◌, List, [], length}
use Rattle.asn1_numbers.specs.Octets.{FitInSlice}
use Rattle.asn1_headers.specs.Fault.{empty_buffer, incomplete}
use Rattle.asn1_blocks.specs.Tree.{Tree, Trees, no_trees, more_trees}
use Rattle.asn1_blocks.specs.View.{tree_offset}
use Rattle.asn1_blocks.specs.Grammar.{IsDocument, FirstFault}
use Rattle.asn1_blocks.specs.Places.{rebased, all_later, joined, BeginAt, HasOctets, EncodingAt}

-- two documents one after another
pub record Concatenation : Type 0 where
  -- two documents, joined, are one, with the trees of the first, and then those of the second with offsets greater by
  -- the first's length
  pub both :
      (first second : List ℕ) (xs ys : Trees ℕ) →
      IsDocument first xs → IsDocument second ys →
      IsDocument (first ++ second) (joined xs (all_later (length first) ys))

-- the proper fronts of a document
pub record Truncation : Type 0 where
  -- a proper front is a document of the trees xs exactly where xs are the document's first trees, one or more, and the
  -- tree after them begins where the front ends
  pub accepted :
      (document front rest : List ℕ) (bs xs : Trees ℕ) →
      IsDocument document bs → document ≡ front ++ rest → 0 < length rest →
      IsDocument front xs
      ↔ ((xs ≢ no_trees) × (ys : Trees ℕ) × (bs ≡ joined xs ys) × BeginAt ys (length front))
  -- no octets are no document
  pub empty : FirstFault [] empty_buffer
  -- every other front that is no document is incomplete
  pub cut :
      (document front rest : List ℕ) (bs : Trees ℕ) →
      FitInSlice document → IsDocument document bs → document ≡ front ++ rest →
      0 < length front → ((xs : Trees ℕ) → IsDocument front xs → ⊥) →
      FirstFault front incomplete

-- the octets of a tree of a document, at any depth
pub record BlockAlone : Type 0 where
  -- the octets of a tree are a document of that one tree, with all offsets less by its own
  pub alone :
      (document : List ℕ) (bs : Trees ℕ) (b : Tree ℕ) (octets : List ℕ) →
      IsDocument document bs → HasOctets document bs b octets →
      IsDocument octets (more_trees (rebased b) no_trees)
  -- the octets of a tree stand in the document from its offset on
  pub position :
      (document : List ℕ) (bs : Trees ℕ) (b : Tree ℕ) (octets : List ℕ) →
      IsDocument document bs → HasOctets document bs b octets →
      (before : List ℕ) × (behind : List ℕ)
      × (document ≡ before ++ (octets ++ behind)) × (length before ≡ tree_offset b)
  -- the octets of a tree are what the header at its offset tells: an encoding, and no other stands there
  pub header :
      (document : List ℕ) (bs : Trees ℕ) (b : Tree ℕ) (octets other : List ℕ) →
      IsDocument document bs → HasOctets document bs b octets →
      EncodingAt document (tree_offset b) other ↔ (other ≡ octets)
