-- What canonical documents are.
use Rattle.std.specs.Prelude.{◌≡◌, ◌↔◌, ◌⊎◌, ℕ, List}
use Rattle.asn1_numbers.specs.Octets.{FitInSlice}
use Rattle.asn1_headers.specs.Fault.{DecodeFault}
use Rattle.asn1_blocks.specs.Tree.{Trees}
use Rattle.asn1_blocks.specs.Grammar.{IsDocument}
use Rattle.asn1_writing.specs.Canonical.{all_canonical}
use Rattle.asn1_writing.specs.ReadBack.{CanonicalDocument}
use Rattle.asn1_writing.specs.Strict.{EqualByOctets, EachIsCanonical, StrictFault}

pub record StrictReading : Type 0 where
  -- a document is the canonical octets of its trees exactly if each tree of the top level stands in its own
  pub canonical :
      (document : List ℕ) (bs : Trees ℕ) →
      FitInSlice document → IsDocument document bs →
      (document ≡ all_canonical bs) ↔ EachIsCanonical document bs
  -- all octets are a canonical document or have a strict fault
  pub either :
      (octets : List ℕ) →
      FitInSlice octets →
      ((bs : Trees ℕ) × CanonicalDocument octets bs) ⊎ ((e : DecodeFault) × StrictFault octets e)
  -- no octets are a canonical document and have a strict fault
  pub not_both :
      (octets : List ℕ) (bs : Trees ℕ) (e : DecodeFault) →
      FitInSlice octets → CanonicalDocument octets bs → StrictFault octets e → ⊥
  -- octets have at most one strict fault
  pub one_fault :
      (octets : List ℕ) (e d : DecodeFault) →
      FitInSlice octets → StrictFault octets e → StrictFault octets d → e ≡ d
  -- two canonical documents have equal trees, offsets aside, exactly if they are the same octets
  pub equal :
      (document : List ℕ) (bs : Trees ℕ) →
      CanonicalDocument document bs → EqualByOctets document bs
