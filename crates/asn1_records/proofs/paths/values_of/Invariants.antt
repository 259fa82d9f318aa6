-- For `paths::values_of`: what each turn of its loop keeps.
use Rattle.std.proofs.Common.{◌≡◌, map, take}
use Rattle.asn1_outline.specs.Shapes.{HasShapes, Shapes, entries_of}
use Rattle.asn1_records.specs.Paths.{value_of}
use Rattle.asn1_records.proofs.paths.values_of.Given as goal

-- the values of the paths that were gone over are there
abbrev pub invariant-loop-path : goal.invariant-loop-path
invariant-loop-path l = (all : Shapes) → HasShapes l.octets all
    → l.values.items ≡ map (λ p. value_of l.octets (entries_of 0 0 all) l.steps p) (take l.path-index l.paths)
