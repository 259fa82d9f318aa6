-- For `contents::text::read_octets`: what each turn of its loop keeps.
use Rattle.std.proofs.Common.{◌≡◌, take, string_bytes}
use Rattle.std.specs.Prelude.{encode_utf8_all}
use Rattle.asn1_leaves.proofs.contents.text.read_octets.Given as goal

-- the text so far has the octets so far as its characters
abbrev pub invariant-loop-b : goal.invariant-loop-b
invariant-loop-b l = string_bytes l.text ≡ encode_utf8_all (take l.b-index l.contents)
