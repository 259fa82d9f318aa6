-- What octets that were written are read back as.
use Rattle.std.specs.Prelude.{◌≡◌, ◌↔◌, ℕ, List}
use Rattle.asn1_numbers.specs.Octets.{AreOctets}
use Rattle.asn1_blocks.specs.Tree.{Tree, Trees, no_trees, more_trees, shape, shapes}
use Rattle.asn1_blocks.specs.Grammar.{IsDocument}
use Rattle.asn1_writing.specs.Canonical.{all_canonical}
use Rattle.asn1_blocks.specs.Faithful.{all_normalized}

-- the octets are a document of one tree, which is equal to this one but for its offsets
abbrev pub ReadsBackAs : List ℕ → Tree ℕ → Type 0
ReadsBackAs octets b = (c : Tree ℕ) × IsDocument octets (more_trees c no_trees) × (shape c ≡ shape b)

-- the octets are a document of trees that are equal to these but for their offsets
abbrev pub AllReadBackAs : List ℕ → Trees ℕ → Type 0
AllReadBackAs octets bs = (cs : Trees ℕ) × IsDocument octets cs × (shapes cs ≡ shapes bs)

-- the octets are a document of these trees, and their canonical octets
abbrev pub CanonicalDocument : List ℕ → Trees ℕ → Type 0
CanonicalDocument octets bs = IsDocument octets bs × (octets ≡ all_canonical bs)

-- the octets are a document, and the canonical octets of its trees
abbrev pub IsCanonicalDocument : List ℕ → Type 0
IsCanonicalDocument octets = (bs : Trees ℕ) × CanonicalDocument octets bs

-- normalized, the trees are equal but for their offsets
abbrev pub AreEqualNormalized : Trees ℕ → Trees ℕ → Type 0
AreEqualNormalized bs cs = shapes (all_normalized bs) ≡ shapes (all_normalized cs)

-- octets that are written of a document are written of another exactly if the trees of both are equal when normalized
abbrev pub WrittenOfEqualsAlone : List ℕ → List ℕ → Type 0
WrittenOfEqualsAlone document written =
    (other : List ℕ) (bs cs : Trees ℕ) →
    AreOctets other → IsDocument document bs → IsDocument other cs →
    (written ≡ all_canonical cs) ↔ AreEqualNormalized bs cs
