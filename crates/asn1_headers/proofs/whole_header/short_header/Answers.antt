-- For `whole_header::short_header`: what it returns is right (`none`, `fault`, `found`).
use Rattle.std.proofs.Common.{◌∷◌, [], inl, inr, refl, ap, length, take, arith, subst}
use Rattle.std.proofs.lemmas.Result.{err_from_is_err_and}
use Rattle.asn1_headers.specs.Header.{IsIdentifier}
use Rattle.asn1_headers.proofs.FrontHeaders.{HeaderFault-no_identifier, IsIdentifier-take, IsIdentifier-low_tag, HasNoHeader-no_identifier}
use Rattle.asn1_headers.proofs.whole_header.short_header.Goals as goal

pub returns-in_err-tag-clause-none : goal.returns-in_err-tag-clause-none
returns-in_err-tag-clause-none c =
    let p = err_from_is_err_and c.from_residual.result c.from_residual.ensures.1 in
    rw (p.1, p.2) (elim c.in_err-tag.ensures.refused [
      | inl memory ↦ inl memory
      | inr none ↦ inr (HasNoHeader-no_identifier c.args.octets.now none.1)
    ])

pub returns-in_err-tag-clause-fault : goal.returns-in_err-tag-clause-fault
returns-in_err-tag-clause-fault c offset =
    let p = err_from_is_err_and c.from_residual.result c.from_residual.ensures.1 in
    rw (p.1, p.2) (HeaderFault-no_identifier offset c.args.octets.now c.in_err-tag.field-0.0
    c.in_err-tag.ensures.refused)

pub returns-clause-found : goal.returns-clause-found
returns-clause-found c =
    let (rest, e) = c.requires.front in
    let found = c.in_ok-tag in
    let n = c.decode_tag.new.index in
    let is = IsIdentifier-take c.args.octets.now n found.class found.constructed found.tag found.ensures.found in
    record {
      within = omega (arith, ap length e);
      identifier = c.args._leading ∷ [];
      len = c.args.length ∷ [];
      front_is = ap (take 2) e;
      fields = IsIdentifier-low_tag c.args._leading c.args.length rest n found.class found.constructed found.tag
          c.requires.low
          found.ensures.moved.0 (subst (λ z. IsIdentifier (take n z) found.class found.constructed found.tag) e is);
      length_octets = inl (c.requires.short, refl, refl);
    }
