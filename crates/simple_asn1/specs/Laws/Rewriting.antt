-- What writing keeps.
use Rattle.std.specs.Prelude.{◌≡◌, ◌↔◌, ℕ, List, None}
use Rattle.asn1_numbers.specs.Octets.{AreOctets, FitInSlice}
use Rattle.asn1_blocks.specs.Tree.{Tree, Trees}
use Rattle.asn1_blocks.specs.Grammar.{IsDocument}
use Rattle.asn1_writing.specs.Canonical.{canonical, all_canonical, write_fault}
use Rattle.asn1_blocks.specs.Faithful.{all_normalized, IsFaithful, AreFaithful}
use Rattle.asn1_writing.specs.ReadBack.{ReadsBackAs, AllReadBackAs, AreEqualNormalized}

-- what rewriting keeps
pub record RewritingIsCanonical : Type 0 where
  -- trees that were read are faithful when normalized
  pub faithful :
      (document : List ℕ) (bs : Trees ℕ) →
      AreOctets document → IsDocument document bs → AreFaithful (all_normalized bs)
  -- normalized or not, the same octets are written
  pub same : (bs : Trees ℕ) → all_canonical (all_normalized bs) ≡ all_canonical bs
  -- the canonical octets of a document are read back as its trees, normalized
  pub reads_back :
      (document : List ℕ) (bs : Trees ℕ) →
      AreOctets document → FitInSlice (all_canonical bs) → IsDocument document bs →
      AllReadBackAs (all_canonical bs) (all_normalized bs)
  -- the canonical octets of a document are their own canonical octets
  pub again :
      (document : List ℕ) (bs cs : Trees ℕ) →
      AreOctets document → FitInSlice (all_canonical bs) → IsDocument document bs →
      IsDocument (all_canonical bs) cs → all_canonical cs ≡ all_canonical bs
  -- two documents have the same canonical octets exactly if their trees are equal when normalized
  pub equal :
      (first second : List ℕ) (bs cs : Trees ℕ) →
      AreOctets first → AreOctets second → FitInSlice (all_canonical bs) →
      IsDocument first bs → IsDocument second cs →
      (all_canonical bs ≡ all_canonical cs) ↔ AreEqualNormalized bs cs

-- a tree is faithful exactly if it can be written and is read back as it is
pub record FaithfulIffSurvives : Type 0 where
  pub faithful :
      (b : Tree ℕ) →
      FitInSlice (canonical b) →
      IsFaithful b ↔ ((write_fault b ≡ None) × ReadsBackAs (canonical b) b)
