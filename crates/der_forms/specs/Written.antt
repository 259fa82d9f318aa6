-- PEM that is written (RFC 7468), and the object that it is.
use Rattle.std.specs.Prelude.{ℕ, zero, suc, Bool, true, false, ◌==◌, ◌||◌, ◌&&◌, not, nat_le, ◌+◌, ◌/◌, List, [], ◌∷◌, ◌++◌, codes, drop, take, length, None, if◌then◌else◌}
use Rattle.base64.specs.Engines.{standard}
use Rattle.base64.specs.GeneralPurpose.{encode_of}
use Rattle.der_forms.specs.Objects.{Object, unless_openssh}
use Rattle.der_io.specs.Characters.{exclamation_mark, hyphen, line_feed, space, tilde}

-- `labelchar`: a printed character of ASCII, and neither a space nor a hyphen
abbrev pub is_label_character : ℕ → Bool
is_label_character b = nat_le exclamation_mark b && nat_le b tilde && not (b == hyphen)

-- what follows in a label, behind a character or not: characters, and single spaces and hyphens between these
abbrev pub is_label_rest : Bool → List ℕ → Bool
is_label_rest is_behind_character [] = is_behind_character
is_label_rest is_behind_character (b ∷ rest) =
    if is_label_character b then is_label_rest true rest
    else is_behind_character && (b == space || b == hyphen) && is_label_rest false rest

-- `label`, which may be empty
abbrev pub is_label : List ℕ → Bool
is_label [] = true
is_label (b ∷ rest) = is_label_rest false (b ∷ rest)

-- how many lines of at most 48 octets the octets are
abbrev pub line_count : List ℕ → ℕ
line_count octets = (length octets + 47) / 48

-- so many lines, each of the next 48 octets in base 64, or of as many as there are
abbrev pub base64_lines : ℕ → List ℕ → List ℕ
base64_lines zero octets = []
base64_lines (suc count) octets =
    encode_of standard (take 48 octets) ++ line_feed ∷ base64_lines count (drop 48 octets)

-- the line that begins or ends an object, with these words
abbrev pub boundary : List ℕ → List ℕ → List ℕ
boundary words label = words ++ (label ++ codes "-----\n")

-- the text of an object
abbrev pub written_pem : List ℕ → List ℕ → List ℕ
written_pem label octets =
    boundary (codes "-----BEGIN ") label
    ++ (base64_lines (line_count octets) octets ++ boundary (codes "-----END ") label)

-- what is read of it: the octets, but none of a private key in the form of OpenSSH
abbrev pub written_object : List ℕ → List ℕ → Object
written_object label octets = record { label = label; octets = unless_openssh octets; bad_end = None }
