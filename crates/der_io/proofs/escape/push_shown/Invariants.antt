-- For `escape::push_shown`: what each turn of its loop keeps.
use Rattle.std.proofs.Common.{◌≡◌, ◌++◌, string_bytes}
use Rattle.der_io.specs.Escaped.{all_escaped, escape_of_other}
use Rattle.der_io.proofs.escape.push_shown.Given as goal

abbrev pub invariant-loop-c : goal.invariant-loop-c
invariant-loop-c l = string_bytes l.out ≡ string_bytes l.fn.out ++ all_escaped escape_of_other l.yielded
