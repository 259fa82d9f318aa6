-- For `header::big_endian`: what each turn of its loop keeps.
use Rattle.std.proofs.Common.{◌≡◌, take, ◌<◌, ◌^◌}
use Rattle.std.specs.Int.Digits.{number_from_digits}
use Rattle.asn1_headers.proofs.header.big_endian.Given as goal

abbrev pub invariant-loop-b : goal.invariant-loop-b
invariant-loop-b l =
    record { so_far : l.n ≡ number_from_digits 256 (take l.b-index l.octets); small : l.n < 256 ^ l.b-index }
