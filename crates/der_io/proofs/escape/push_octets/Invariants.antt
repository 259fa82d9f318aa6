-- For `escape::push_octets`: what each turn of its loop keeps.
use Rattle.std.proofs.Common.{◌≡◌, ◌++◌, drop, string_bytes}
use Rattle.der_io.specs.Escaped.{all_escaped, escape_of_octet}
use Rattle.der_io.proofs.escape.push_octets.Given as goal

abbrev pub invariant-loop-b : goal.invariant-loop-b
invariant-loop-b l =
    string_bytes l.out ++ all_escaped escape_of_octet (drop l.b-index l.octets)
    ≡ string_bytes l.fn.out ++ all_escaped escape_of_octet l.octets
