-- For `read_all`: what each turn of its loop keeps.
use Rattle.std.specs.Io.KnownBytes.{Consumes}
use Rattle.der_io.proofs.read_all.Given as goal

-- what was read so far, and then what is left, is all
abbrev pub invariant-loop : goal.invariant-loop
invariant-loop g l = Consumes (g.R.Read.remaining l.fn.r) (g.R.Read.remaining l.r) l.input.items
