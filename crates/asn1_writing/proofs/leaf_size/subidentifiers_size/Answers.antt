-- For `leaf_size::subidentifiers_size`: what it returns is right (`shortest`).
use Rattle.std.proofs.Common.{◌≡◌, ◌<◌, [], drop, ap, arith, length-drop}
use Rattle.std.proofs.lemmas.List.{nil_from_length}
use Rattle.std.proofs.lemmas.List.Elements.{All-from_get_or}
use Rattle.asn1_writing.proofs.LeafSizes.{left_of, left_of-subidentifiers}
use Rattle.asn1_writing.proofs.leaf_size.subidentifiers_size.Goals as goal

pub returns-clause-shortest : goal.returns-clause-shortest
returns-clause-shortest c ns are =
    let octets = c.args.octets.now in
    let left = drop c.loop-octet.octet-index octets in
    let none : left ≡ [] =
    nil_from_length left (omega (arith, length-drop c.loop-octet.octet-index octets, c.loop-octet-test.false)) in
    let all = All-from_get_or (λ b. b < 256) octets 0 (λ k h. omega (arith, c.type_inv.octets k)) in
    omega (
      arith,
      c.loop-octet.invariant.0,
      ap (left_of c.loop-octet.begins) none,
      left_of-subidentifiers ns octets all are,
    )
