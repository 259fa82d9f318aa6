-- Laws between DER and what this library reads and writes.
use Rattle.std.specs.Prelude.{◌≡◌, ◌≢◌, ◌↔◌, ℕ, List}
use Rattle.asn1_numbers.specs.Octets.{AreOctets, FitInSlice}
use Rattle.asn1_headers.specs.Fault.{DecodeFault}
use Rattle.asn1_blocks.specs.Faithful.{AreFaithful, IsFaithful}
use Rattle.asn1_blocks.specs.Grammar.{FirstFault, IsDocument}
use Rattle.asn1_blocks.specs.Tree.{Tree, Trees, no_trees}
use Rattle.asn1_der.specs.Der.{IsDer}
use Rattle.asn1_writing.specs.Canonical.{all_canonical, canonical}
use Rattle.asn1_laws.specs.DerTrees.{AreDerTrees, IsDerTree}
use Rattle.asn1_laws.specs.Refused.{IsFaultOfDer}
use Rattle.asn1_laws.specs.Spellings.{HasNoOtherSpelling}

-- which DER is not read
pub record DerIsRead : Type 0 where
  -- octets that are DER and no document have a fault that DER may have
  pub refused :
      (octets : List ℕ) (fault : DecodeFault) →
      FitInSlice octets → IsDer octets → FirstFault octets fault → IsFaultOfDer octets fault

-- what rewriting does to DER
pub record DerIsCanonical : Type 0 where
  -- a document that is DER is its own canonical octets exactly if no leaf of it is written otherwise
  pub canonical :
      (document : List ℕ) (bs : Trees ℕ) →
      AreOctets document → FitInSlice document → IsDer document → IsDocument document bs →
      (document ≡ all_canonical bs) ↔ HasNoOtherSpelling document bs

-- where what is written is DER
pub record WrittenIsDer : Type 0 where
  -- what is written of a faithful tree is DER exactly if the tree is one of DER
  pub one :
      (b : Tree ℕ) →
      FitInSlice (canonical b) → IsFaithful b → IsDer (canonical b) ↔ IsDerTree b
  -- what is written of faithful trees, joined, is DER exactly if the trees are trees of DER
  pub joined :
      (bs : Trees ℕ) →
      bs ≢ no_trees → FitInSlice (all_canonical bs) → AreFaithful bs →
      IsDer (all_canonical bs) ↔ AreDerTrees bs
