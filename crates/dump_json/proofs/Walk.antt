-- How far the objects of octets were written, for `rows`.
use Rattle.std.proofs.Common.{◌≡◌, ℕ, Bool, List}
use Rattle.std.specs.Prelude.{Option}
use Rattle.der_io.specs.Output.{IsWritten}
use Rattle.dump_walk.specs.declared.place.Place.{Place}
use Rattle.dump_walk.specs.declared.walk.Walk.{Walk}
use Rattle.dump_json.specs.Grammar.{IsOpenArray}

-- an array is begun, with the objects of the pieces before the walk
pub record RowsTo (place : Place) (walk : Walk) (later : Bool) (a b : Option (List ℕ)) : Type 0 where
  pub same_place : walk.place ≡ place
  pub begun : IsWritten (IsOpenArray later) a b
