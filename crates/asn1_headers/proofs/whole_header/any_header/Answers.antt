-- For `whole_header::any_header`: what it returns is right (`none`, `fault`, `found`, `parts`, `form`).
use Rattle.std.proofs.Common.{◌≡◌, ◌∙◌, ◌&&◌, inl, inr, take, drop, sym, ap, arith}
use Rattle.std.proofs.Math.Seq.{take-add}
use Rattle.std.proofs.lemmas.List.{take-append-drop}
use Rattle.std.proofs.lemmas.Result.{err_from_is_err_and}
use Rattle.asn1_headers.specs.Fault.{fault_of}
use Rattle.asn1_headers.specs.HeaderFault.{no_length}
use Rattle.asn1_headers.proofs.FrontHeaders.{HeaderFault-no_identifier, IsIdentifier-take, HasNoHeader-no_identifier, HasNoHeader-no_length, KnowsParts-of}
use Rattle.asn1_headers.specs.Indefinite.{is_indefinite}
use Rattle.asn1_headers.proofs.IndefiniteForms.{HasIndefiniteForm-is_indefinite, HasIndefiniteForm-not_primitive}
use Rattle.asn1_headers.proofs.whole_header.any_header.Goals as goal
use Rattle.asn1_headers.proofs.whole_header.any_header.Goals.{then-constructed, else-constructed}

pub returns-in_err-tag-clause-none : goal.returns-in_err-tag-clause-none
returns-in_err-tag-clause-none c =
    let p = err_from_is_err_and c.from_residual.result c.from_residual.ensures.1 in
    rw (p.1, p.2) (elim c.in_err-tag.ensures.refused [
      | inl memory ↦ inl memory
      | inr none ↦ inr (HasNoHeader-no_identifier c.args.octets.now none.1)
    ])

pub returns-in_err-tag-clause-fault : goal.returns-in_err-tag-clause-fault
returns-in_err-tag-clause-fault c offset =
    let p = err_from_is_err_and c.from_residual.result c.from_residual.ensures.1 in
    rw (p.1, p.2) (HeaderFault-no_identifier offset c.args.octets.now c.in_err-tag.field-0.0
    c.in_err-tag.ensures.refused)

pub returns-in_err-announced-clause-none : goal.returns-in_err-announced-clause-none
returns-in_err-announced-clause-none c =
    let octets = c.args.octets.now in
    let found = c.in_ok-tag in
    let size = c.decode_tag.new.index in
    let is = IsIdentifier-take octets size found.class found.constructed found.tag found.ensures.found in
    let p = err_from_is_err_and c.from_residual-in_err-announced.result c.from_residual-in_err-announced.ensures.1 in
    rw (p.1, p.2) (inr (HasNoHeader-no_length octets size found.tag found.ensures.moved.1
    (found.class, found.constructed, is) (rw (sym c.split_at.ensures.back) c.in_err-announced.ensures.refused)))

pub returns-in_err-announced-clause-fault : goal.returns-in_err-announced-clause-fault
returns-in_err-announced-clause-fault c offset =
    let octets = c.args.octets.now in
    let found = c.in_ok-tag in
    let size = c.decode_tag.new.index in
    let is = IsIdentifier-take octets size found.class found.constructed found.tag found.ensures.found in
    let p = err_from_is_err_and c.from_residual-in_err-announced.result c.from_residual-in_err-announced.ensures.1 in
    rw (p.1, p.2) (inr (no_length {e = fault_of c.in_err-announced.field-0.0} (take size octets) (drop size octets)
    found.tag (found.class, found.constructed, is) (sym (take-append-drop size octets))
    (rw (sym c.split_at.ensures.back) c.in_err-announced.ensures.refused)
    (rw (sym c.split_at.ensures.back) c.in_err-announced.ensures.fault)))

pub returns-clause-found : goal.returns-clause-found
returns-clause-found c =
    let octets = c.args.octets.now in
    let found = c.in_ok-tag in
    let size = c.decode_tag.new.index in
    let is = IsIdentifier-take octets size found.class found.constructed found.tag found.ensures.found in
    let l = c.in_ok-announced.length in
    record {
      within = omega (arith, found.ensures.moved.1, c.in_ok-announced.ensures.found.0, c.split_at.ensures.back_len);
      identifier = take size octets;
      len = take l (drop size octets);
      front_is = take-add size l octets;
      fields = is;
      length_octets = rw (sym c.split_at.ensures.back) c.in_ok-announced.ensures.found.1;
    }

pub returns-clause-parts : goal.returns-clause-parts
returns-clause-parts c =
    let octets = c.args.octets.now in
    let found = c.in_ok-tag in
    let size = c.decode_tag.new.index in
    let is = IsIdentifier-take octets size found.class found.constructed found.tag found.ensures.found in
    let has = c.is_indefinite-has_length_80.result in
    let form : c.if-constructed.result ≡ (found.constructed && has) = elim c.if-constructed.branch [
      | then-constructed w ↦ w.result-is ∙ ap (λ k. k && has) (sym w.if-constructed.true)
      | else-constructed w ↦ w.result-is ∙ (w.if-constructed.false ∙ ap (λ k. k && has) (sym w.if-constructed.false))
    ] in
    KnowsParts-of octets _ found.ensures.moved.1 is
    (c.is_indefinite-has_length_80.ensures ∙ ap is_indefinite c.split_at.ensures.back) form

pub returns-clause-form : goal.returns-clause-form
returns-clause-form c =
    let octets = c.args.octets.now in
    let found = c.in_ok-tag in
    let size = c.decode_tag.new.index in
    let is = IsIdentifier-take octets size found.class found.constructed found.tag found.ensures.found in
    elim c.if-constructed.branch [
      | then-constructed w ↦
          HasIndefiniteForm-is_indefinite octets c.split_at.result.1.now size found.tag found.class found.constructed
          found.ensures.moved.1 is c.split_at.ensures.back c.is_indefinite-has_length_80.result
          c.if-constructed.result w.if-constructed.true c.is_indefinite-has_length_80.ensures w.result-is
      | else-constructed w ↦
          HasIndefiniteForm-not_primitive octets c.split_at.result.1.now size found.tag found.class found.constructed
          found.ensures.moved.1 is c.split_at.ensures.back c.if-constructed.result
          w.if-constructed.false (w.result-is ∙ w.if-constructed.false)
    ]
