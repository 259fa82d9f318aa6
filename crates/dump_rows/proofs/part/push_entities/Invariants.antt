-- For `part::push_entities`: what each turn of its loop keeps.
use Rattle.std.proofs.Common.{◌≡◌, ◌++◌, string_bytes}
use Rattle.der_io.specs.Escaped.{all_escaped}
use Rattle.dump_rows.specs.Parts.{entity}
use Rattle.dump_rows.proofs.part.push_entities.Given as goal

abbrev pub invariant-loop-c : goal.invariant-loop-c
invariant-loop-c l = string_bytes l.out ≡ string_bytes l.fn.out ++ all_escaped entity l.yielded
