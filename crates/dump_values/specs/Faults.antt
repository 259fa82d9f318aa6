-- What is wrong with contents octets. Private contracts alone name these.
use Rattle.std.specs.Prelude.{◌≡◌, ℕ, MatchOption, Option, Some, option_map}
use Rattle.asn1_headers.specs.Fault.{DecodeFault}
use Rattle.asn1_headers.specs.Names.{fault_name}
use Rattle.dump_values.specs.declared.faults.Fault.{Fault}

-- the fault stands at the offset and has this name
abbrev pub IsNamed : ℕ → DecodeFault → Fault → Type 0
IsNamed offset found fault =
    (fault.offset ≡ offset) × (option_map (λ t. t.now) fault.code ≡ Some (fault_name found))

-- there is a fault, of which this holds
abbrev pub IsFault : (Fault → Type 0) → Option Fault → Type 0
IsFault Is told = MatchOption told ⊥ Is
