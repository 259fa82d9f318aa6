-- Where the loop over open encodings stands. Private contracts alone name this.
use Rattle.std.specs.Prelude.{◌↔◌, ◌<◌, List, ◌∷◌, ℕ, length, reverse}
use Rattle.asn1_blocks.specs.Inner.ReaderSteps.{work_left}
use Rattle.asn1_der.specs.Steps.{AreDerUpTo, AreEnds}
use Rattle.asn1_der.specs.declared.der.Place.{Place}
use Rattle.asn1_blocks.specs.declared.read_loop.Turn.{Turn}
use Rattle.asn1_blocks.specs.declared.read_loop.Turn.TheVariants.{More, End, Stop}

-- where the open encodings end, the innermost first
abbrev pub ends_of : Place → List ℕ
ends_of place = place.end ∷ reverse place.outer.items

abbrev pub HasEnds : List ℕ → Place → Type 0
HasEnds octets place = AreEnds place.index (ends_of place) (length octets)

-- all that is left is DER
abbrev pub IsLeftDer : List ℕ → Place → Type 0
IsLeftDer octets place = AreDerUpTo octets place.index (ends_of place)

-- what is left after a turn is DER exactly if what was left before it is, and less is left to do
pub record GoesOnChecking (octets : List ℕ) (old new : Place) : Type 0 where
  pub placed : HasEnds octets new
  pub same : IsLeftDer octets old ↔ IsLeftDer octets new
  pub fewer : work_left (length octets) new.index new.outer.items
      < work_left (length octets) old.index old.outer.items

abbrev pub HasChecked : List ℕ → Place → Turn → Place → Type 0
HasChecked octets old More new = GoesOnChecking octets old new
HasChecked octets old End new = IsLeftDer octets old
HasChecked octets old Stop new = IsLeftDer octets old → ⊥
