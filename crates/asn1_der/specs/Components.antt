-- The encoding in front of octets, by its header: how an EXTERNAL, EMBEDDED PDV or CHARACTER STRING is taken apart.
use Rattle.std.specs.Prelude.{◌==◌, ◌&&◌, ℕ, ◌-◌, ◌%◌, nat_lt, Bool, false, not, if◌then◌else◌, List, [], ◌∷◌, length, take, drop, get_or}
use Rattle.std.specs.Int.Digits.{number_from_digits}

-- what follows the first octet below 128
abbrev pub behind_last : List ℕ → List ℕ
behind_last [] = []
behind_last (octet ∷ octets) = if nat_lt octet 128 then octets else behind_last octets

-- what follows the identifier octets: these are the leading octet (8.1.2.2), and if its last five bits are 1, the
-- octets behind it, of which all but the last have bit 8 (8.1.2.4)
unfoldable pub behind_identifier : List ℕ → List ℕ
behind_identifier [] = []
behind_identifier (leading ∷ octets) = if leading % 32 == 31 then behind_last octets else octets

-- the length that length octets say, by the first of them and the octets behind it: a number below 128 is the length
-- (8.1.3.4), else it is 128 more than the number of the octets that say it (8.1.3.5)
abbrev pub announced : ℕ → List ℕ → ℕ
announced initial octets = if nat_lt initial 128 then initial else number_from_digits 256 (take (initial - 128) octets)

-- where length octets and so many contents octets stand in front: these, and what follows them. At most 8 octets, those
-- of a usize, say a length
unfoldable pub are_contents : List ℕ → Bool
are_contents [] = false
are_contents (initial ∷ octets) =
    nat_lt initial 137 && not (nat_lt (length octets) (initial - 128))
    && not (nat_lt (length (drop (initial - 128) octets)) (announced initial octets))

unfoldable pub contents_of : List ℕ → List ℕ
contents_of [] = []
contents_of (initial ∷ octets) = take (announced initial octets) (drop (initial - 128) octets)

unfoldable pub behind_contents : List ℕ → List ℕ
behind_contents [] = []
behind_contents (initial ∷ octets) = drop (announced initial octets) (drop (initial - 128) octets)

-- whether an encoding stands in front; its leading octet, its contents octets, and what follows it
abbrev pub has_component : List ℕ → Bool
has_component octets = are_contents (behind_identifier octets)

abbrev pub leading_of : List ℕ → ℕ
leading_of octets = get_or octets 0 0

abbrev pub component_of : List ℕ → List ℕ
component_of octets = contents_of (behind_identifier octets)

abbrev pub behind_component : List ℕ → List ℕ
behind_component octets = behind_contents (behind_identifier octets)

-- an encoding, and nothing behind it
abbrev pub is_alone : List ℕ → Bool
is_alone octets = has_component octets && (length (behind_component octets) == 0)
