-- For `contents::utc_time::shown`: what each turn of its loop keeps.
use Rattle.std.proofs.Common.{◌≡◌, ◌++◌, take}
use Rattle.std.specs.Prelude.{string_bytes, encode_utf8_all}
use Rattle.asn1_leaves.proofs.contents.utc_time.shown.Given as goal

-- the text so far is the front and the characters of the octets so far
abbrev pub invariant-loop-b : goal.invariant-loop-b
invariant-loop-b l = string_bytes l.text ≡ l.front ++ encode_utf8_all (take l.b-index l.octets)
