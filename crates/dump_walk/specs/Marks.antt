-- What a mark says: which rules of DER an encoding breaks, in words.
use Rattle.std.specs.Prelude.{◌≡◌, Bool, true, false, ℕ, ◌/◌, ◌%◌, ◌^◌, List, [], ◌∷◌, ◌++◌, codes, map}
use Rattle.asn1_der.specs.Rules.{text_of}
use Rattle.asn1_der.specs.declared.rule.Rule.{Rule}
use Rattle.dump_walk.specs.declared.marks.BrokenRule.{BrokenRule}

-- contents octets are those of a BIT STRING whose last bit is 0 (8.6.2): the first says how many bits of the last one
-- are unused
abbrev pub EndsWithZero : List ℕ → Type 0
EndsWithZero contents =
    (unused : ℕ) × (octets : List ℕ) × (last : ℕ) × (contents ≡ unused ∷ (octets ++ last ∷ []))
    × (last / 2 ^ unused % 2 ≡ 0)

-- a list of named bits has no 0 at its end (11.2.2). A schema alone tells which BIT STRING is one
abbrev pub spare_if : Bool → List (List ℕ)
spare_if true = codes "named bits that end with 0" ∷ []
spare_if false = []

-- what is wrong with an encoding that breaks these rules, and is a list of named bits with a 0 at its end, or not
abbrev pub breaches_of : List Rule → Bool → List (List ℕ)
breaches_of rules spare = map text_of rules ++ spare_if spare

-- the list is not empty
abbrev pub are_some : {A : Type 0} → List A → Bool
are_some [] = false
are_some (x ∷ xs) = true

-- what is wrong where a rule is broken
abbrev pub text_in : BrokenRule → List ℕ
text_in rule = rule.text.now
