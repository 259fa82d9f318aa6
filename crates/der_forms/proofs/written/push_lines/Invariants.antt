-- For `written::push_lines`: what each turn of its loop keeps.
use Rattle.std.proofs.Common.{◌≡◌, ◌++◌}
use Rattle.std.specs.Slice.Iter.{chunks_rest, chunks_size}
use Rattle.std.specs.String.{string_bytes}
use Rattle.der_forms.specs.Written.{base64_lines, line_count}
use Rattle.der_forms.proofs.written.push_lines.Given as goal

-- the lines of the octets before the part were appended
abbrev pub invariant-loop-part : goal.invariant-loop-part
invariant-loop-part l =
    goal.iterator-loop-part.can_next l.part-iterator
    × goal.iterator-loop-part.is_finite l.part-iterator
    × (chunks_size l.part-iterator ≡ 48)
    × (string_bytes l.text ++ base64_lines (line_count (chunks_rest l.part-iterator)) (chunks_rest l.part-iterator)
    ≡ string_bytes l.fn.text ++ base64_lines (line_count l.octets) l.octets)
