-- For `items::item_from`: what each turn of its loop keeps.
use Rattle.std.proofs.Common.{◌≡◌, ◌-◌, ◌≤◌, length}
use Rattle.std.specs.List.{slice_range}
use Rattle.asn1_outline.specs.Shapes.{AreShapes, Shapes}
use Rattle.asn1_records.specs.Inner.Named.{shapes_from}
use Rattle.asn1_records.proofs.items.item_from.Given as goal

-- the octets that are left are those up to the end, and the encodings in them are those behind as many as were passed
abbrev pub invariant-loop : goal.invariant-loop
invariant-loop l = record {
  within : length l.encodings.rest.now ≤ l.end - l.start;
  left : l.encodings.rest.now ≡ slice_range l.octets (l.end - length l.encodings.rest.now) l.end;
  behind : (all : Shapes) → AreShapes l.octets l.start l.end all
      → AreShapes l.octets (l.end - length l.encodings.rest.now) l.end (shapes_from l.counter all);
}
