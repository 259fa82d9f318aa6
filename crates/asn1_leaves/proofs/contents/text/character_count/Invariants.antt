-- For `contents::text::character_count`: what each turn of its loop keeps.
use Rattle.std.proofs.Common.{◌≡◌, length, drop}
use Rattle.std.specs.Str.{chars}
use Rattle.asn1_leaves.specs.Contents.Text.{octet_write_fault}
use Rattle.asn1_leaves.proofs.contents.text.character_count.Given as goal

-- the characters so far were counted, and those that are left have the fault of all
abbrev pub invariant-loop-c : goal.invariant-loop-c
invariant-loop-c l = record {
  count : l.count ≡ length l.yielded;
  fault : octet_write_fault (drop l.count (chars l.text)) ≡ octet_write_fault (chars l.text);
}
