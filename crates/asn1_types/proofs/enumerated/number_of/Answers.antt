-- For `enumerated::number_of`: what it returns is right.
use Rattle.std.proofs.Common.{◌≡◌, true, sym, ap, ◌∙◌}
use Rattle.std.proofs.lemmas.Bool.{false≢true}
use Rattle.std.proofs.lemmas.Bool.Decides.{Decides-eqb}
use Rattle.std.proofs.lemmas.Slice.Eq.{slice_eq-Decides}
use Rattle.asn1_numbers.specs.TwosComplement.{signed_number, shortest_octets}
use Rattle.asn1_numbers.proofs.SignedNumbers.{signed_number-shortest_octets}
use Rattle.asn1_types.proofs.enumerated.number_of.Goals as goal

pub returns-else-eq : goal.returns-else-eq
returns-else-eq c x e =
    let octets : c.octets.result.now ≡ c.args.contents.now =
    c.octets.ensures
    ∙ ap shortest_octets (c.in_ok-number.ensures ∙ ap signed_number e ∙ signed_number-shortest_octets x)
    ∙ sym e in
    let same : c.eq.result ≡ true = (slice_eq-Decides Decides-eqb _ _ _ c.eq.ensures).1 octets in
    false≢true (sym c.if-eq.false ∙ same)
