-- For `hex_text::offset_of`: what each turn of its loop keeps and what grows less, so that it ends.
use Rattle.std.proofs.Common.{◌≡◌, ◌+◌, ◌≤◌, length}
use Rattle.std.specs.Char.{is_ascii_hexdigit}
use Rattle.std.specs.List.{prefix_len}
use Rattle.der_digits.proofs.hex_text.offset_of.Given as goal

-- the digits that were passed over, with those at the front of the rest, are those at the front of the line
abbrev pub invariant-loop-rest : goal.invariant-loop-rest
invariant-loop-rest l =
    (prefix_len is_ascii_hexdigit l.line + length l.rest ≡ prefix_len is_ascii_hexdigit l.rest + length l.line)
    × (length l.rest ≤ length l.line)

abbrev pub decreases-loop-rest : goal.decreases-loop-rest
decreases-loop-rest l = length l.rest
