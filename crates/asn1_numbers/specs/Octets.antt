-- Octets, as lists of naturals.
use Rattle.std.specs.Prelude.{ℕ, ◌+◌, ◌<◌, ◌^◌, List, length, All}

-- each number of the list is an octet
abbrev pub AreOctets : List ℕ → Type 0
AreOctets octets = All (λ b. b < 256) octets

-- a slice can hold so many octets
abbrev pub FitInSlice : List ℕ → Type 0
FitInSlice octets = length octets < 2 ^ 64

-- the character of a decimal digit
abbrev pub digit : ℕ → ℕ
digit d = 48 + d
