-- How an `OID` is kept, the components that it has, and how each is written.
use Rattle.std.specs.Prelude.{◌≡◌, ℕ, ◌+◌, ◌-◌, ◌*◌, ◌%◌, ◌≤◌, List, [], ◌∷◌, length, nat_lt, if◌then◌else◌, None, codes, ◌++◌}
use Rattle.asn1_numbers.specs.Decimal.{natural_numeral}
use Rattle.asn1_leaves.specs.declared.oid.Kept.{Kept}
use Rattle.asn1_leaves.specs.declared.oid.Kept.TheVariants.{Octets, Components}
use Rattle.asn1_leaves.specs.Contents.ObjectIdentifier.{object_identifier_contents, object_identifier_write_fault}

-- the first component that this octet stands for, and the second
abbrev pub first_component : ℕ → ℕ
first_component b = if nat_lt b 40 then 0 else (if nat_lt b 80 then 1 else 2)

abbrev pub second_component : ℕ → ℕ
second_component b = b - 40 * first_component b

-- the numbers of subidentifiers, one after another, where `n` is the number of the octets before
abbrev pub numbers_after : ℕ → List ℕ → List ℕ
numbers_after n [] = []
numbers_after n (b ∷ octets) =
    if nat_lt b 128 then (n * 128 + b % 128) ∷ numbers_after 0 octets
    else numbers_after (n * 128 + b % 128) octets

-- the components of contents octets
abbrev pub components_of : List ℕ → List ℕ
components_of [] = []
components_of (b ∷ octets) = first_component b ∷ second_component b ∷ numbers_after 0 octets

abbrev pub kept_components : Kept → List ℕ
kept_components (Octets octets) = components_of octets.items
kept_components (Components components) = components.items

-- components have contents octets, at most 24
abbrev pub HaveShortContents : List ℕ → Type 0
HaveShortContents ns =
    (object_identifier_write_fault ns ≡ None) × (length (object_identifier_contents ns) ≤ 24)

-- octets are the contents octets of their components, at most 24
abbrev pub IsShortForm : List ℕ → Type 0
IsShortForm octets =
    HaveShortContents (components_of octets) × (octets ≡ object_identifier_contents (components_of octets))

-- each object identifier is kept in one way: by its contents octets where they are short, and else by
-- its components
abbrev pub IsKeptOnce : Kept → Type 0
IsKeptOnce (Octets octets) = IsShortForm octets.items
IsKeptOnce (Components components) = HaveShortContents components.items → ⊥

-- a number in decimal, after a point
abbrev pub pointed : ℕ → List ℕ
pointed n = codes "." ++ natural_numeral n
