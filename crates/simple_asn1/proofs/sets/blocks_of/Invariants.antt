-- For `sets::blocks_of`: what each turn of its loop keeps.
use Rattle.std.proofs.Common.{◌≡◌, map}
use Rattle.simple_asn1.specs.Inner.Encodings.{block_of}
use Rattle.simple_asn1.proofs.sets.blocks_of.Given as goal

abbrev pub invariant-loop-item : goal.invariant-loop-item
invariant-loop-item l = l.blocks ≡ map block_of l.yielded
