-- Contents octets of an INTEGER (X.690 8.3). All octets mean a number, and all numbers can be written.
use Rattle.std.specs.Prelude.{◌≡◌, ◌==◌, ℕ, ℤ, Bool, true, false, not, List, [], ◌∷◌, nat_lt, if◌then◌else◌}
use Rattle.asn1_numbers.specs.TwosComplement.{signed_number, shortest_octets}

-- the number in two's complement (X.690 8.3.3), of any number of octets, also of none
abbrev pub IntegerContents : ℤ → List ℕ → Type 0
IntegerContents n contents = n ≡ signed_number contents

-- the fewest octets (X.690 8.3.2)
abbrev pub integer_contents : ℤ → List ℕ
integer_contents n = shortest_octets n

-- there is an octet, and the first nine bits are neither all 0 nor all 1 (X.690 8.3.1, 8.3.2)
abbrev pub is_shortest_integer : List ℕ → Bool
is_shortest_integer [] = false
is_shortest_integer (a ∷ []) = true
is_shortest_integer (a ∷ b ∷ octets) = if nat_lt b 128 then not (a == 0) else not (a == 255)
