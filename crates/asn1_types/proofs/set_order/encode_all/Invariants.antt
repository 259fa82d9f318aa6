-- For `set_order::encode_all`: what each turn of its loop keeps.
use Rattle.std.proofs.Common.{◌≡◌, ◌++◌, map}
use Rattle.std.specs.Prelude.{None}
use Rattle.asn1_blocks.specs.Tree.{trees_of}
use Rattle.simple_asn1.specs.Canonical.{first_write_fault}
use Rattle.asn1_types.specs.Inner.Encodings.{value_of}
use Rattle.asn1_types.proofs.set_order.encode_all.Given as goal

-- the values so far, each of which can be written, and those that are left
abbrev pub invariant-loop-value : goal.invariant-loop-value
invariant-loop-value g l = record {
  values : map value_of l.items.items ≡ l.yielded;
  all : l.yielded ++ l.value-iterator.rest.items ≡ l.fn.values.items;
  writable : first_write_fault (trees_of (map g.T.Asn1Type.tree l.yielded)) ≡ None;
}
