-- For `listing::header_at`: what it returns is right.
use Rattle.std.proofs.Common.{◌-◌, ◌<◌, ◌≡◌, ℕ, List, arith, inl, inr, length, subst}
use Rattle.std.specs.List.{slice_range}
use Rattle.std.specs.Prelude.{Err, IfErr, Ok, Result}
use Rattle.asn1_blocks.proofs.Frames.Slices.{slice_range-empty}
use Rattle.asn1_blocks.proofs.ReadSteps.{length-slice_range}
use Rattle.asn1_blocks.specs.declared.parsed.PlacedHeader.{PlacedHeader}
use Rattle.asn1_der.specs.Departures.{HeaderFaultBehind, at_front, unended_at_end}
use Rattle.asn1_headers.specs.Fault.{OutOfMemoryOr}
use Rattle.asn1_headers.specs.HeaderFault.{HeaderFault}
use Rattle.asn1_headers.specs.declared.error.ASN1DecodeErr.{ASN1DecodeErr}
use Rattle.asn1_der.proofs.listing.header_at.Goals as goal

-- the header in front is at fault, and none before it
IfErr-at_front : (u i : ℕ) (x : List ℕ) (r : Result PlacedHeader ASN1DecodeErr) → 0 < length x →
    IfErr r (OutOfMemoryOr (HeaderFault i x)) → IfErr r (OutOfMemoryOr (HeaderFaultBehind u i x i))
IfErr-at_front u i x (Ok h) some f = tt
IfErr-at_front u i x (Err e) some (inl memory) = inl memory
IfErr-at_front u i x (Err e) some (inr fault) = inr (at_front some fault)

pub returns-then-index-end-clause-refused : goal.returns-then-index-end-clause-refused
returns-then-index-end-clause-refused c =
    let w = c.args.place.now in
    inr (unended_at_end (c.requires.more c.if-index-end.true)
    (slice_range-empty c.args.octets.now w.index w.inner.end c.if-index-end.true))

pub returns-clause-refused : goal.returns-clause-refused
returns-clause-refused c =
    let x = c.args.octets.now in
    let w = c.args.place.now in
    let part = slice_range x w.index w.inner.end in
    let size = length-slice_range x w.index w.inner.end c.requires.order c.requires.within in
    let here : w.index - 0 ≡ w.index = omega arith in
    IfErr-at_front w.inner.unended w.index part c.header_within.result
    (omega (arith, size, c.requires.order, c.if-index-end.false))
    (subst (λ z. IfErr c.header_within.result (OutOfMemoryOr (HeaderFault z part))) here
    c.header_within.ensures.refused)
