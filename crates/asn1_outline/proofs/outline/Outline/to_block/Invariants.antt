-- For `outline::Outline::to_block`: what each turn of its loop keeps and what grows less, so that it ends.
use Rattle.std.proofs.Common.{◌≡◌, ◌-◌, ◌≤◌, drop, get_or, length}
use Rattle.asn1_outline.specs.Building.{built_trees, roots}
use Rattle.asn1_outline.specs.Entries.{no_entry}
use Rattle.asn1_outline.specs.Structure.{IsStructure, Nodes, node_at, node_in_order}
use Rattle.asn1_outline.proofs.outline.Outline.to_block.Given as goal

-- the blocks of the entries from this index on are built
abbrev pub invariant-loop-i : goal.invariant-loop-i
invariant-loop-i l = record {
  from : l.index ≤ l.i;
  within : l.i ≤ length l.self.entries.items;
  to : l.i ≤ (get_or l.self.entries.items l.index no_entry).next;
  built : (ns : Nodes) → IsStructure l.self.octets.now ns
      → built_trees l.built ≡ roots (drop (l.i - l.index) (node_in_order (node_at ns l.index)));
}

abbrev pub decreases-loop-i : goal.decreases-loop-i
decreases-loop-i l = l.i
