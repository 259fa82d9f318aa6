-- For `part::push_parts`: what each turn of its loop keeps.
use Rattle.std.proofs.Common.{◌≡◌, ◌++◌, string_bytes, take}
use Rattle.std.specs.List.{flat_map}
use Rattle.dump_rows.specs.Parts.{written}
use Rattle.dump_rows.proofs.part.push_parts.Given as goal

-- the parts before this one were pushed
abbrev pub invariant-loop-part : goal.invariant-loop-part
invariant-loop-part l =
    string_bytes l.out ≡ string_bytes l.fn.out ++ flat_map (written l.fn.look) (take l.part-index l.parts)
