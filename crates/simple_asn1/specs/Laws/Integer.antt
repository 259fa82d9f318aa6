-- Laws of two's complement octets.
use Rattle.std.specs.Prelude.{◌≡◌, ◌≢◌, ℕ, ◌<◌, ◌≤◌, List, ◌∷◌, ℤ, length}
use Rattle.asn1_numbers.specs.Octets.{AreOctets}
use Rattle.asn1_numbers.specs.TwosComplement.{signed_number, shortest_octets}

-- the two's complement octets that are written of a whole number are its one shortest
pub record IntegerLaws : Type 0 where
  -- the shortest octets of a number have that number
  pub number : (n : ℤ) → signed_number (shortest_octets n) ≡ n
  -- the shortest octets of a number are one or more
  pub some : (n : ℤ) → 0 < length (shortest_octets n)
  -- each of the shortest octets is an octet
  pub below : (n : ℤ) → AreOctets (shortest_octets n)
  -- no octets of the same number are fewer, where they are one or more
  pub shortest :
      (octets : List ℕ) (n : ℤ) →
      0 < length octets → AreOctets octets → signed_number octets ≡ n →
      length (shortest_octets n) ≤ length octets
  -- no other octets of the same number are as few, where they are one or more
  pub only :
      (octets : List ℕ) (n : ℤ) →
      0 < length octets → AreOctets octets → signed_number octets ≡ n →
      length octets ≤ length (shortest_octets n) →
      octets ≡ shortest_octets n
  -- of two octets or more, the first nine bits are not all zeros (X.690 8.3.2)
  pub not_zeros :
      (n : ℤ) (c : ℕ) (rest : List ℕ) → c < 128 → shortest_octets n ≢ 0 ∷ c ∷ rest
  -- of two octets or more, the first nine bits are not all ones (X.690 8.3.2)
  pub not_ones :
      (n : ℤ) (c : ℕ) (rest : List ℕ) → 128 ≤ c → shortest_octets n ≢ 255 ∷ c ∷ rest
