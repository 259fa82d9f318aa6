-- For `extension::Extensions::tagged`: what it returns is right.
use Rattle.asn1_certificate.specs.Types.{is_extensions}
use Rattle.asn1_certificate.proofs.Iterated.{tagged-items}
use Rattle.asn1_certificate.proofs.Steps.{from-none}
use Rattle.asn1_certificate.proofs.extension.Extensions.tagged.Goals as goal

pub returns-in_err-inside-clause-items : goal.returns-in_err-inside-clause-items
returns-in_err-inside-clause-items c ns d =
    from-none _ _ _ c.from_residual.ensures (c.in_err-inside.ensures ns d is_extensions)

pub returns-clause-items : goal.returns-clause-items
returns-clause-items c ns d =
    tagged-items ns is_extensions c.args.index c.in_ok-inside.inside c.args.tag _ c.at.result
    (c.in_ok-inside.ensures ns d) (c.at.ensures.items ns d)
