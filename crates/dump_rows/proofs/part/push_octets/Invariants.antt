-- For `part::push_octets`: what each turn of its loop keeps.
use Rattle.std.proofs.Common.{◌≡◌, ◌++◌, string_bytes, take}
use Rattle.dump_rows.specs.Parts.{octets_text}
use Rattle.dump_rows.proofs.part.push_octets.Given as goal

abbrev pub invariant-loop-b : goal.invariant-loop-b
invariant-loop-b l = string_bytes l.out ≡ string_bytes l.fn.out ++ octets_text (take l.b-index l.octets)
