-- For `parsed::header_within`: what it returns is right (`refused`, `found`).
use Rattle.std.proofs.Common.{◌+◌, ◌-◌, ◌^◌, inl, inr, refl, subst, sym, arith}
use Rattle.std.proofs.lemmas.Bool.{cases_lt}
use Rattle.std.specs.List.{slice_range}
use Rattle.asn1_headers.specs.HeaderFault.{HeaderFault}
use Rattle.asn1_blocks.proofs.PlacedHeaders.{HeaderFault-too_far, HeaderFault-too_long, HeaderFound-fits}
use Rattle.asn1_blocks.proofs.parsed.header_within.Goals as goal

pub returns-then-announced-rest-clause-refused : goal.returns-then-announced-rest-clause-refused
returns-then-announced-rest-clause-refused c =
    let rest = slice_range c.args.octets.now c.args.offset c.args.end in
    let h = c.in_ok-header.header in
    let offset = c.args.offset - c.args.start in
    let before = offset + h.size in
    elim (cases_lt (before + h.announced) (2 ^ 64)) [
      | inl near ↦
          inr (subst (HeaderFault offset rest) (sym (c.too_long.ensures.near near))
          (HeaderFault-too_long rest h.size h.announced h.class h.constructed h.tag c.in_ok-header.ensures.found before
          offset refl near
          (omega (arith, c.if-announced-rest.true))))
      | inr far ↦
          inr (subst (HeaderFault offset rest) (sym (c.too_long.ensures.far far))
          (HeaderFault-too_far rest h.size h.announced h.class h.constructed h.tag c.in_ok-header.ensures.found before
          offset refl
          far))
    ]

pub returns-clause-found : goal.returns-clause-found
returns-clause-found c =
    HeaderFound-fits c.args.octets.now c.args.offset c.args.end c.in_ok-header.header c.in_ok-header.ensures.found
    c.in_ok-header.ensures.parts
    (omega (arith, c.requires.more)) (omega (arith, c.requires.within)) (omega (arith, c.if-announced-rest.false))
