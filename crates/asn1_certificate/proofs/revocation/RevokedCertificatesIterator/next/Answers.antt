-- For `revocation::RevokedCertificatesIterator::next`: it gives the fields of the first item that is left.
use Rattle.asn1_certificate.specs.Reading.{left}
use Rattle.asn1_certificate.specs.Types.{revoked_certificate}
use Rattle.asn1_certificate.proofs.Iterated.{GivesFields-first}
use Rattle.asn1_certificate.proofs.revocation.RevokedCertificatesIterator.next.Goals as goal

pub returns-clause-steps : goal.returns-clause-steps
returns-clause-steps c =
    let it = c.self.inside in
    let o = it.outline.now in
    GivesFields-first revoked_certificate _ o.octets.now o.entries.items o.document (left it.items)
    (left c.take.new.self) c.in_ok-index.index c.in_ok-index.ensures c.self.invariant c.args.self.now c.at.result
    c.self.view_is c.at.ensures
