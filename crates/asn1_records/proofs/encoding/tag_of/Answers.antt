-- For `encoding::tag_of`: what it returns is right, `unreachable` may be called, and what cannot happen does not.
use Rattle.std.proofs.Common.{inl, inr, drop}
use Rattle.asn1_records.proofs.Headers.{Encoding-front_header, IsEncoding-has_header}
use Rattle.asn1_records.proofs.encoding.tag_of.Goals as goal

pub unreachable-requires : goal.unreachable-requires
unreachable-requires c = elim c.in-Err.ensures.none [
  | inl e ↦ c.in_default.not-OutOfMemory e
  | inr none ↦ IsEncoding-has_header c.args.encoding.now c.requires none
]

pub returns-in-Ok : goal.returns-in-Ok
returns-in-Ok c =
    let x = c.args.encoding.now in
    let found = c.in-Ok.header in
    let h =
    Encoding-front_header x found.size found.announced found.class found.constructed found.tag c.requires
    c.in-Ok.ensures.found in
    (found.class, found.constructed, drop found.size x, found.size, h.0)
