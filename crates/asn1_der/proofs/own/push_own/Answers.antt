-- For `own::push_own`: what it returns is right.
use Rattle.std.proofs.Common.{◌++◌, ◌∙◌, ap, append_assoc, subst, sym}
use Rattle.asn1_der.specs.Departures.{LengthFound, TypeFound, listed}
use Rattle.asn1_der.proofs.own.push_own.Goals as goal

pub returns : goal.returns
returns c identifier len parts =
    let h = c.args.header.now in
    let o = c.args.offset in
    let a = listed o c.identifier_found.result in
    let b = listed o c.length_found.result in
    let t = listed o c.in_ok-of_type.of_type in
    let old = c.args.found.now.items in (
      record {
        of_identifier = c.identifier_found.result;
        of_length = c.length_found.result;
        of_type = c.in_ok-of_type.of_type;
        identifier_found = c.identifier_found.ensures identifier len parts;
        length_found = subst (λ z. LengthFound len z c.length_found.result) (sym c.requires)
            (c.length_found.ensures identifier len parts);
        type_found = subst (λ z. TypeFound z h.class h.constructed h.tag c.args.contents.now c.in_ok-of_type.of_type)
            parts.length_80 c.in_ok-of_type.ensures;
      },
      c.in_ok-push_rule-3.ensures
          ∙ (ap (λ z. z ++ t) (c.in_ok-push_rule-2.ensures ∙ ap (λ z. z ++ b) c.in_ok-push_rule.ensures)
          ∙ (append_assoc (old ++ a) b t ∙ append_assoc old a (b ++ t))),
    )
