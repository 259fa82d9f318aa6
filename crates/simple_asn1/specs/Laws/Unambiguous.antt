-- Octets have one reading.
use Rattle.std.specs.Prelude.{◌≡◌, ◌↔◌, ◌⊎◌, ℕ, ◌≤◌, ◌++◌, List, length}
use Rattle.asn1_numbers.specs.Octets.{FitInSlice}
use Rattle.asn1_headers.specs.Fault.{DecodeFault, IsOfReading}
use Rattle.asn1_blocks.specs.Tree.{Tree, Trees}
use Rattle.asn1_blocks.specs.Grammar.{IsBlock, Encodes, IsDocument, FirstFault, FirstFaultAt}
use Rattle.asn1_blocks.specs.HeadersBegun.{HeadersBegun, all_blocks_in}

-- all octets have one reading
pub record Unambiguous : Type 0 where
  -- octets at an offset encode at most one tree
  pub one_tree :
      (offset : ℕ) (octets : List ℕ) (a b : Tree ℕ) →
      Encodes offset octets a → Encodes offset octets b → a ≡ b
  -- of two trees encoded at the front of the same octets, at one offset, the octets and the trees are equal
  pub one_front :
      (offset : ℕ) (first second behind beyond : List ℕ) (a b : Tree ℕ) →
      Encodes offset first a → Encodes offset second b → first ++ behind ≡ second ++ beyond →
      (first ≡ second) × (a ≡ b)
  -- octets are a block exactly if they encode some tree, at whatever offset
  pub block :
      (offset : ℕ) (octets : List ℕ) →
      FitInSlice octets → IsBlock octets ↔ ((b : Tree ℕ) × Encodes offset octets b)
  -- all octets are a document or have a first fault
  pub either :
      (octets : List ℕ) →
      FitInSlice octets →
      ((bs : Trees ℕ) × IsDocument octets bs) ⊎ ((e : DecodeFault) × FirstFault octets e)
  -- no octets are a document and have a first fault
  pub not_both :
      (octets : List ℕ) (bs : Trees ℕ) (e : DecodeFault) →
      FitInSlice octets → IsDocument octets bs → FirstFault octets e → ⊥
  -- octets are at most one document
  pub one_document :
      (octets : List ℕ) (xs ys : Trees ℕ) → IsDocument octets xs → IsDocument octets ys → xs ≡ ys
  -- octets have at most one first fault
  pub one_fault :
      (octets : List ℕ) (e d : DecodeFault) →
      FitInSlice octets → FirstFault octets e → FirstFault octets d → e ≡ d
  -- the first fault is of octets: a class always exists, nothing overflows, and neither memory nor a block that is not
  -- canonical is one of them
  pub of_reading : (octets : List ℕ) (e : DecodeFault) → FirstFault octets e → IsOfReading e
  -- a reader begins some number of headers
  pub headers_begun : (octets : List ℕ) → FitInSlice octets → (n : ℕ) × HeadersBegun octets n
  -- a reader begins one number of headers
  pub one_number :
      (octets : List ℕ) (m n : ℕ) → HeadersBegun octets m → HeadersBegun octets n → m ≡ n
  -- at most one header is begun for each octet
  pub at_most : (octets : List ℕ) (n : ℕ) → HeadersBegun octets n → n ≤ length octets
  -- at least one header is begun for each block of a document, at all depths
  pub at_least :
      (octets : List ℕ) (bs : Trees ℕ) (n : ℕ) →
      IsDocument octets bs → HeadersBegun octets n → all_blocks_in bs ≤ n

-- the first fault has one place
pub record OneFaultPlace : Type 0 where
  -- the first fault has a place, and what has one is a first fault
  pub placed :
      (octets : List ℕ) (e : DecodeFault) →
      FirstFault octets e ↔ ((offset : ℕ) × FirstFaultAt octets e offset)
  -- the first fault has no other place
  pub one :
      (octets : List ℕ) (e d : DecodeFault) (m n : ℕ) →
      FitInSlice octets → FirstFaultAt octets e m → FirstFaultAt octets d n →
      (e ≡ d) × (m ≡ n)
