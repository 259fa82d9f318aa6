-- Headers at fault.
use Rattle.std.specs.Prelude.{◌≡◌, ℕ, ◌+◌, ◌^◌, ◌<◌, ◌≤◌, ◌++◌, List, length}
use Rattle.asn1_headers.specs.Header.{BeginsWithNo, IsLength, IsSomeIdentifier, length_fault}
use Rattle.asn1_headers.specs.Fault.{DecodeFault, length_too_large, incomplete}

-- the header at the front is at fault: the first of these in their order. So many octets of the enclosing contents,
-- or of the document, stand before it
pub data HeaderFault : ℕ → List ℕ → DecodeFault → Type 0 where
  -- the identifier octets run out
  no_identifier : {offset : ℕ} {octets : List ℕ} → BeginsWithNo IsSomeIdentifier octets
      → HeaderFault offset octets incomplete
  -- the length has more octets than a usize, or they run out
  no_length : {offset : ℕ} {octets : List ℕ} {e : DecodeFault} (identifier rest : List ℕ) (tag : ℕ)
      → IsSomeIdentifier identifier tag → octets ≡ identifier ++ rest → BeginsWithNo IsLength rest
      → e ≡ length_fault rest → HeaderFault offset octets e
  -- the end of the contents passes a usize
  too_far : {offset : ℕ} {octets : List ℕ} {e : DecodeFault} (identifier len rest : List ℕ) (tag size : ℕ)
      → IsSomeIdentifier identifier tag → IsLength len size → octets ≡ identifier ++ (len ++ rest)
      → 2 ^ 64 ≤ offset + (length identifier + length len) + size
      → e ≡ length_too_large size → HeaderFault offset octets e
  -- the contents are longer than what is left
  too_long : {offset : ℕ} {octets : List ℕ} (identifier len rest : List ℕ) (tag size : ℕ)
      → IsSomeIdentifier identifier tag → IsLength len size → octets ≡ identifier ++ (len ++ rest)
      → offset + (length identifier + length len) + size < 2 ^ 64 → length rest < size
      → HeaderFault offset octets incomplete
