-- Laws of the list of departures.
use Rattle.std.specs.Prelude.{◌≡◌, ℕ, ◌<◌, List, length}
use Rattle.asn1_numbers.specs.Octets.{FitInSlice}
use Rattle.asn1_headers.specs.Fault.{DecodeFault}
use Rattle.asn1_der.specs.Der.{IsDer}
use Rattle.asn1_der.specs.Departures.{AreDepartures, NoEncodingsFault}
use Rattle.asn1_der.specs.declared.rule.Departure.{Departure}

-- octets have one answer
pub record OneListOfDepartures : Type 0 where
  -- octets have at most one list of departures
  pub one_list :
      (octets : List ℕ) (some others : List Departure) →
      AreDepartures octets some → AreDepartures octets others → some ≡ others
  -- octets in which a header is at fault have no list of departures, if there are any octets
  pub not_both :
      (octets : List ℕ) (found : List Departure) (place : ℕ) (fault : DecodeFault) → FitInSlice octets →
      0 < length octets → AreDepartures octets found → NoEncodingsFault octets place fault → ⊥
  -- at most one header is at fault, with one fault
  pub one_fault :
      (octets : List ℕ) (some other : ℕ) (fault another : DecodeFault) → FitInSlice octets →
      NoEncodingsFault octets some fault → NoEncodingsFault octets other another →
      (some ≡ other) × (fault ≡ another)
  -- no header of DER is at fault
  pub der_has_no_fault :
      (octets : List ℕ) (place : ℕ) (fault : DecodeFault) → FitInSlice octets → IsDer octets →
      NoEncodingsFault octets place fault → ⊥
