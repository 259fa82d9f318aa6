-- For `marks::Breaches::describe`: what each turn of its loop keeps.
use Rattle.std.proofs.Common.{◌≡◌, map, take}
use Rattle.asn1_der.specs.Rules.{text_of}
use Rattle.dump_walk.specs.Marks.{text_in}
use Rattle.dump_walk.proofs.marks.Breaches.describe.Given as goal

-- the rules before this one are described
abbrev pub invariant-loop-rule : goal.invariant-loop-rule
invariant-loop-rule l = map text_in l.broken.items ≡ map text_of (take l.rule-index l.rule-items)
