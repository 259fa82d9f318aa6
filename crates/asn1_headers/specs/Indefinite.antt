-- The indefinite form of a length, which BER has, and DER has not (X.690 10.1).
use Rattle.std.specs.Prelude.{◌==◌, ◌&&◌, ℕ, Bool, false, List, [], ◌∷◌}

-- octets begin with the length octet of the indefinite form, which is 80 (8.1.3.6)
abbrev pub is_indefinite : List ℕ → Bool
is_indefinite [] = false
is_indefinite (first ∷ more) = first == 128

-- octets begin with end-of-contents octets (8.1.5)
abbrev pub begins_with_end : List ℕ → Bool
begins_with_end [] = false
begins_with_end (first ∷ []) = false
begins_with_end (first ∷ next ∷ more) = (first == 0) && (next == 0)
