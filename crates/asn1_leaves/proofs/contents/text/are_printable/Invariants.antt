-- For `contents::text::are_printable`: what each turn of its loop keeps.
use Rattle.std.proofs.Common.{◌≡◌, take}
use Rattle.std.specs.List.{list_all}
use Rattle.asn1_leaves.specs.Contents.Text.{is_printable}
use Rattle.asn1_leaves.proofs.contents.text.are_printable.Given as goal

-- the answer for the octets so far
abbrev pub invariant-loop-b : goal.invariant-loop-b
invariant-loop-b l = l.printable ≡ list_all is_printable (take l.b-index l.contents)
