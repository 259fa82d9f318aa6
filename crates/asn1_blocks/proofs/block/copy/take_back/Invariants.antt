-- For `block::copy::take_back`: what each turn of its loop keeps.
use Rattle.std.proofs.Common.{◌≡◌, ◌++◌, length, reverse}
use Rattle.asn1_blocks.proofs.block.copy.take_back.Given as goal

abbrev pub invariant-loop-i : goal.invariant-loop-i
invariant-loop-i l = record {
  count : length l.taken ≡ l._i;
  taken : l.fn.copies ≡ l.copies ++ reverse l.taken;
}
