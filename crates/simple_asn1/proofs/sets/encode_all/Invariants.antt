-- For `sets::encode_all`: what each turn of its loop keeps and what grows less, so that it ends.
use Rattle.std.proofs.Common.{◌≡◌, ◌++◌, length, map, reverse}
use Rattle.std.specs.Prelude.{None}
use Rattle.asn1_blocks.specs.View.{views}
use Rattle.asn1_writing.specs.Canonical.{first_write_fault}
use Rattle.simple_asn1.specs.Inner.Encodings.{block_of}
use Rattle.simple_asn1.proofs.sets.encode_all.Given as goal

abbrev pub invariant-loop-block : goal.invariant-loop-block
invariant-loop-block l = record {
  blocks : map block_of l.items.items ++ reverse l.left ≡ l.fn.blocks.items;
  writable : first_write_fault (views (map block_of l.items.items)) ≡ None;
}

abbrev pub decreases-loop-block : goal.decreases-loop-block
decreases-loop-block l = length l.left
