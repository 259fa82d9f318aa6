-- Documents that stand in their canonical octets, and why octets are no such document.
use Rattle.std.specs.Prelude.{◌≡◌, ◌≢◌, ◌↔◌, ◌⊎◌, ℕ, List, length, slice_range}
use Rattle.asn1_headers.specs.Fault.{DecodeFault, not_canonical}
use Rattle.asn1_blocks.specs.Tree.{Tree, Trees, no_trees, more_trees, shapes}
use Rattle.asn1_blocks.specs.View.{tree_offset}
use Rattle.asn1_blocks.specs.Grammar.{IsDocument, FirstFault, FirstFaultAt}
use Rattle.asn1_writing.specs.Canonical.{canonical}
use Rattle.asn1_blocks.specs.Places.{end_before}
use Rattle.asn1_writing.specs.ReadBack.{CanonicalDocument}

-- the octets of a tree at the top level of a document: from its offset to that of the tree after it, or to the end
abbrev pub top_octets : List ℕ → Tree ℕ → Trees ℕ → List ℕ
top_octets document b after = slice_range document (tree_offset b) (end_before after (length document))

-- each of these trees, which end with the document, stands in its canonical octets
abbrev pub EachIsCanonical : List ℕ → Trees ℕ → Type 0
EachIsCanonical document no_trees = Unit {0}
EachIsCanonical document (more_trees b bs) =
    (top_octets document b bs ≡ canonical b) × EachIsCanonical document bs

-- the first of these trees that does not stand in its canonical octets has this offset
abbrev pub FirstNotCanonical : List ℕ → Trees ℕ → ℕ → Type 0
FirstNotCanonical document no_trees offset = ⊥
FirstNotCanonical document (more_trees b bs) offset =
    ((top_octets document b bs ≢ canonical b) × (offset ≡ tree_offset b))
    ⊎ ((top_octets document b bs ≡ canonical b) × FirstNotCanonical document bs offset)

-- the octets are a document, the first tree of which that does not stand in its canonical octets has this offset
abbrev pub IsNotCanonicalAt : List ℕ → ℕ → Type 0
IsNotCanonicalAt octets offset = (bs : Trees ℕ) × IsDocument octets bs × FirstNotCanonical octets bs offset

-- why the octets are no canonical document: their first fault; with none, the offset of the first tree that is not
-- canonical
abbrev pub StrictFault : List ℕ → DecodeFault → Type 0
StrictFault octets e =
    FirstFault octets e ⊎ ((offset : ℕ) × IsNotCanonicalAt octets offset × (e ≡ not_canonical offset))

-- the same with its offset: that of the first fault, or of the first tree that is not canonical
abbrev pub StrictFaultAt : List ℕ → DecodeFault → ℕ → Type 0
StrictFaultAt octets e offset =
    FirstFaultAt octets e offset ⊎ (IsNotCanonicalAt octets offset × (e ≡ not_canonical offset))

-- another canonical document has trees that are equal to these of a document, but for their offsets, exactly if both
-- documents are the same octets
abbrev pub EqualByOctets : List ℕ → Trees ℕ → Type 0
EqualByOctets document bs =
    (other : List ℕ) (cs : Trees ℕ) → CanonicalDocument other cs
    → (shapes bs ≡ shapes cs) ↔ (document ≡ other)
