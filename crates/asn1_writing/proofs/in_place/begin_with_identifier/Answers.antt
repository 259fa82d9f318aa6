-- For `in_place::begin_with_identifier`: what it returns is right (`canonical`).
use Rattle.std.proofs.Common.{◌≡◌, ◌∙◌, ◌<◌, length, refl, sym, take, arith}
use Rattle.std.proofs.lemmas.List.{get_or-take, length-take-le}
use Rattle.std.proofs.lemmas.List.Elements.{All-from_get_or, All-take}
use Rattle.asn1_numbers.specs.Octets.{AreOctets}
use Rattle.asn1_writing.proofs.Without80.{AreCanonicalContents-identifier, none_is_80-lanes}
use Rattle.asn1_writing.proofs.in_place.begin_with_identifier.Goals as goal

pub returns-clause-canonical : goal.returns-clause-canonical
returns-clause-canonical c none =
    let x = c.args.octets.now in
    let n = c.args.size in
    let all : AreOctets x = All-from_get_or (λ b. b < 256) x 0 (λ k h. omega (arith, c.type_inv.octets k)) in
    let long : length (take n x) ≡ n = length-take-le n x (omega arith) in
    let lanes = none_is_80-lanes x _ (omega arith) none refl in
    AreCanonicalContents-identifier (take n x) (All-take (λ b. b < 256) n x all)
    (λ k h found. lanes k (omega (arith, h, long)) (sym (get_or-take n x k 0 (omega (arith, h, long))) ∙ found))
