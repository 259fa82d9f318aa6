-- For `contents::text::push_characters`: what each turn of its loop keeps.
use Rattle.std.proofs.Common.{◌≡◌, length, take, drop, None}
use Rattle.std.specs.Str.{chars}
use Rattle.asn1_leaves.specs.Contents.Text.{octet_write_fault}
use Rattle.asn1_leaves.proofs.contents.text.push_characters.Given as goal

-- the characters so far were pushed
abbrev pub invariant-loop-c : goal.invariant-loop-c
invariant-loop-c g l = record {
  pushed : g.S.Sink.pushes l.fn.out (take (length l.yielded) (chars l.text)) l.out;
  writable : octet_write_fault (drop (length l.yielded) (chars l.text)) ≡ None;
}
