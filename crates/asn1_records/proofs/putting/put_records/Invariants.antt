-- For `putting::put_records`: what each turn of its loop keeps.
use Rattle.std.proofs.Common.{◌≡◌, ◌++◌, drop, map, take}
use Rattle.asn1_records.proofs.putting.put_records.Given as goal

-- the records of the first k values are put
abbrev pub invariant-loop-k : goal.invariant-loop-k
invariant-loop-k g l = l.room ≡ map g.T.Recorded.recorded (take l.k l.values) ++ drop l.k l.initial.room
