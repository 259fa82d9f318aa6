-- What is found step by step. Private contracts alone name these.
use Rattle.std.specs.Prelude.{◌≡◌, ◌≢◌, ◌&&◌, ◌⊎◌, ◌++◌, ◌≤◌, ◌<◌, ℕ, nat_lt, Bool, true, false, Some, List, [], ◌∷◌, length, reverse, drop, take, slice_range}
use Rattle.asn1_headers.specs.Fault.{DecodeFault}
use Rattle.asn1_headers.specs.Indefinite.{begins_with_end}
use Rattle.asn1_der.specs.Departures.{AreEncodings, HeaderFaultBehind, Lists, listed}
use Rattle.asn1_blocks.specs.Inner.ReaderSteps.{work_left}
use Rattle.asn1_der.specs.declared.rule.Departure.{Departure}
use Rattle.asn1_der.specs.declared.rule.Rule.TheVariants.{NotEncodings}
use Rattle.asn1_der.specs.declared.listing.Extent.{Extent}
use Rattle.asn1_der.specs.declared.listing.Place.{Place}

-- the open definite encodings, the innermost first
abbrev pub extents_of : Place → List Extent
extents_of place = place.inner ∷ reverse place.outer.items

-- the extent ends at the index or behind it, each encoding that is open in it has taken an octet at least, its
-- departures are among those found, a fault behind the index is that of all octets if nothing is around the extent, and
-- what is asked of its end holds
pub record EndsBehind (octets : List ℕ) (index count : ℕ) (extent : Extent) (outer : List Extent)
    (IsAround : ℕ → ℕ → Type 0) : Type 0 where
  pub order : index ≤ extent.end
  pub room : extent.unended ≤ index
  pub among : extent.listed ≤ count
  pub first_fault : outer ≡ [] → (place : ℕ) (fault : DecodeFault)
      → HeaderFaultBehind extent.unended index (slice_range octets index extent.end) place fault
      → HeaderFaultBehind 0 0 octets place fault
  pub around : IsAround extent.end extent.listed

-- the ends ascend from the index on, and the numbers of departures descend
abbrev pub AreExtents : List ℕ → ℕ → ℕ → List Extent → Type 0
AreExtents octets index count [] = index ≡ length octets
AreExtents octets index count (extent ∷ extents) =
    EndsBehind octets index count extent extents (λ end before. AreExtents octets end before extents)

abbrev pub HasExtents : List ℕ → Place → List Departure → Type 0
HasExtents octets place found = AreExtents octets place.index (length found) (extents_of place)

-- what is listed inside an open encoding in the end: what was found, and what is listed from the index on; or, if
-- another encoding is around it, that its contents octets are no encodings
abbrev pub ListsOn : List ℕ → ℕ → Extent → List Extent → List Departure → List Departure → Type 0
ListsOn octets index extent around found inside =
    ((later : List Departure) × Lists extent.unended index (slice_range octets index extent.end) later
    × (inside ≡ found ++ later))
    ⊎ ((around ≢ []) × (AreEncodings extent.unended (slice_range octets index extent.end) → ⊥)
    × (inside ≡ listed extent.offset (Some NotEncodings)))

-- the departures are all, if those were found before the index
abbrev pub Completes : List ℕ → ℕ → List Extent → List Departure → List Departure → Type 0
Completes octets index [] found all = all ≡ found
Completes octets index (extent ∷ extents) found all =
    (inside : List Departure) × ListsOn octets index extent extents (drop extent.listed found) inside
    × Completes octets extent.end extents (take extent.listed found ++ inside) all

abbrev pub ListsAll : List ℕ → Place → List Departure → List Departure → Type 0
ListsAll octets place found all = Completes octets place.index (extents_of place) found all

-- the departures of all octets are unchanged, and less is left to do
pub record GoesOnListing (octets : List ℕ) (old new : Place) (found_old found_new : List Departure) : Type 0 where
  pub placed : HasExtents octets new found_new
  pub all : (all : List Departure) → ListsAll octets new found_new all → ListsAll octets old found_old all
  pub fewer : work_left (length octets) new.index new.outer.items
      < work_left (length octets) old.index old.outer.items

abbrev pub HasListed : List ℕ → Bool → Place → Place → List Departure → List Departure → Type 0
HasListed octets true old new found_old found_new = GoesOnListing octets old new found_old found_new
HasListed octets false old new found_old found_new = ListsAll octets old found_old found_new

-- end-of-contents octets stand in front, and close an encoding that is open
abbrev pub is_at_end : ℕ → List ℕ → Bool
is_at_end unended octets = nat_lt 0 unended && begins_with_end octets
