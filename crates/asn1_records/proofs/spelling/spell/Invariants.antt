-- For `spelling::spell`: what each turn of its loop keeps and what grows less, so that it ends.
use Rattle.std.proofs.Common.{◌≤◌, drop, length}
use Rattle.asn1_records.specs.Spelled.{IsState}
use Rattle.asn1_records.proofs.spelling.spell.Given as goal

abbrev pub invariant-loop-i : goal.invariant-loop-i
invariant-loop-i l = record {
  within : l.i ≤ length l.records;
  state : IsState l.octets (drop l.i l.records) l.out.octets l.starts.items l.canonical;
}

abbrev pub decreases-loop-i : goal.decreases-loop-i
decreases-loop-i l = l.i
