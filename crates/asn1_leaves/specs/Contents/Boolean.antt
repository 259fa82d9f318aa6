-- Contents octets of a BOOLEAN (X.690 8.2).
use Rattle.std.specs.Prelude.{◌≡◌, ◌==◌, ℕ, Bool, not, List, [], ◌∷◌, length, if◌then◌else◌}
use Rattle.asn1_headers.specs.Fault.{DecodeFault, bad_boolean_length}

-- one octet: 0 is false, any other is true (X.690 8.2.2)
abbrev pub BooleanContents : Bool → List ℕ → Type 0
BooleanContents b contents = (x : ℕ) × (contents ≡ x ∷ []) × (b ≡ not (x == 0))

-- the octets mean no BOOLEAN, with this fault
abbrev pub BooleanFault : List ℕ → DecodeFault → Type 0
BooleanFault contents fault =
    ((b : Bool) → BooleanContents b contents → ⊥) × (fault ≡ bad_boolean_length (length contents))

-- the octet that is written: true is FF (X.690 11.1)
abbrev pub boolean_contents : Bool → List ℕ
boolean_contents b = (if b then 255 else 0) ∷ []
