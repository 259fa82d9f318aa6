-- For `strict::first_not_canonical`: what each turn of its loop keeps.
use Rattle.std.proofs.Common.{◌≡◌, ◌≤◌, ℕ, None, drop, length}
use Rattle.asn1_writing.specs.Canonical.{all_canonical, first_write_fault}
use Rattle.asn1_blocks.specs.Grammar.{EncodesAll}
use Rattle.asn1_writing.specs.Strict.{FirstNotCanonical}
use Rattle.asn1_blocks.specs.View.{views}
use Rattle.asn1_writing.proofs.strict.first_not_canonical.Given as goal

-- the octets from the start on encode the blocks that are left, which decide whether all are canonical
abbrev pub invariant-loop-k : goal.invariant-loop-k
invariant-loop-k l = record {
  within : l.start ≤ length l.octets;
  left : EncodesAll l.start (drop l.start l.octets) (views (drop l.k l.blocks));
  writable : first_write_fault (views (drop l.k l.blocks)) ≡ None;
  same : drop l.start l.octets ≡ all_canonical (views (drop l.k l.blocks)) → l.octets ≡ all_canonical (views l.blocks);
  first : (n : ℕ) → FirstNotCanonical l.octets (views (drop l.k l.blocks)) n →
      FirstNotCanonical l.octets (views l.blocks) n;
}
