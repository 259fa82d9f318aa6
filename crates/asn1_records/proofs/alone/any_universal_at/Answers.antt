-- For `alone::any_universal_at`: what it returns is right (`missing`, `found`).
use Rattle.std.proofs.Common.{◌≡◌, inr, refl, sym, subst, ◌∙◌}
use Rattle.asn1_headers.specs.declared.header.ASN1Class.TheVariants.{Universal}
use Rattle.simple_asn1.specs.Header.{Encoding}
use Rattle.asn1_records.proofs.Headers.{drop-header, class_number-universal}
use Rattle.asn1_records.proofs.alone.any_universal_at.Goals as goal

pub returns-in_default-clause-missing : goal.returns-in_default-clause-missing
returns-in_default-clause-missing c = inr (refl, λ n v u. c.in_default.ensures.none u.whole u.at)

pub returns-clause-found : goal.returns-clause-found
returns-clause-found c =
    let x = c.in-Some.encoding.now in
    let head = c.in-Ok.record in
    let h = c.in-Ok.ensures in
    let class : h.class ≡ Universal = class_number-universal h.class (sym h.class_field ∙ c.if-record-ne0.false) in
    let contents : h.contents ≡ c.split_at.result.1.now =
    sym (drop-header x h.class h.constructed h.tag h.contents head.header h.encoding)
    ∙ sym c.split_at.ensures.back in
    let own = subst (λ z. Encoding x z h.constructed h.tag h.contents head.header) class h.encoding in (
      h.tag,
      record {
        whole = x;
        at = c.in-Some.ensures.found;
        constructed = h.constructed;
        header = head.header;
        encoding = subst (λ z. Encoding x Universal h.constructed h.tag z head.header) contents own;
      },
      h.tag_field,
    )
