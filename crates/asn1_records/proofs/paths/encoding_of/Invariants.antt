-- For `paths::encoding_of`: what each turn of its loop keeps.
use Rattle.std.proofs.Common.{◌≡◌, drop}
use Rattle.asn1_outline.specs.Shapes.{HasItems, HasShapes, Shapes, more_shapes}
use Rattle.asn1_records.specs.Inner.Named.{IsPlacedIn, shapes_at, shapes_inside}
use Rattle.asn1_records.proofs.paths.encoding_of.Given as goal

-- the steps that are left lead from this encoding to where all steps lead from the first
abbrev pub invariant-loop-step : goal.invariant-loop-step
invariant-loop-step l = record {
  placed : IsPlacedIn l.octets l.found;
  named : (all : Shapes) → HasShapes l.octets all → (items : Shapes) × (later : Shapes)
      × HasItems l.octets l.found.header items
      × (shapes_inside (more_shapes l.found.offset l.found.header items later) (drop l.step-index l.rest)
      ≡ shapes_at all l.path);
}
