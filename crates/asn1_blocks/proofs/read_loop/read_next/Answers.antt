-- For `read_loop::read_next`: what it returns is right (`stepped`), and `header_within`, `open` and `leaf` may be
-- called.
use Rattle.std.proofs.Common.{◌≡◌, length, inl, inr, arith}
use Rattle.std.proofs.lemmas.Bool.{false≢true}
use Rattle.std.proofs.lemmas.Grind.{common_steps}
use Rattle.std.proofs.lemmas.Result.{err_from_is_err_and}
use Rattle.asn1_blocks.specs.HeadersBegun.{IsReadInside}
use Rattle.asn1_blocks.proofs.Reader.Opening.{IsFaulty-header, IsFaulty-leaf, GoesOn-leaf, GoesOn-open, IsReading-places}
use Rattle.asn1_blocks.proofs.read_loop.read_next.Goals as goal

pub header_within-requires-clause-from : goal.header_within-requires-clause-from
header_within-requires-clause-from g c =
    (IsReading-places g.B.Builder.holds c.args.octets.now c.args.reader.now c.requires.reading.0
    c.requires.reading.1).from

pub header_within-requires-clause-more : goal.header_within-requires-clause-more
header_within-requires-clause-more g c =
    let v =
    IsReading-places g.B.Builder.holds c.args.octets.now c.args.reader.now c.requires.reading.0 c.requires.reading.1 in
    omega (arith, v.to, c.requires.more)

pub header_within-requires-clause-within : goal.header_within-requires-clause-within
header_within-requires-clause-within g c =
    (IsReading-places g.B.Builder.holds c.args.octets.now c.args.reader.now c.requires.reading.0
    c.requires.reading.1).within

pub returns-in_err-header-clause-stepped : goal.returns-in_err-header-clause-stepped
returns-in_err-header-clause-stepped g c n w =
    let p = err_from_is_err_and c.from_residual.result c.from_residual.ensures.1 in
    rw (p.1, p.2) (elim c.in_err-header.ensures.refused [
      | inl memory ↦ inl memory
      | inr fault ↦ inr (IsFaulty-header g.B.Builder.holds c.args.octets.now c.args.reader.now _ n c.requires.small
          c.requires.more w fault)
    ])

pub open-requires-clause-found : goal.open-requires-clause-found
open-requires-clause-found g c = (
  _,
  c.in_ok-header.ensures.found,
  (IsReading-places g.B.Builder.holds c.args.octets.now c.args.reader.now c.requires.reading.0
      c.requires.reading.1).within,
)

pub leaf-requires-clause-found : goal.leaf-requires-clause-found
leaf-requires-clause-found g c = (
  _,
  c.in_ok-header.ensures.found,
  (IsReading-places g.B.Builder.holds c.args.octets.now c.args.reader.now c.requires.reading.0
      c.requires.reading.1).within,
)

pub returns-then-is_read_inside-clause-stepped : goal.returns-then-is_read_inside-clause-stepped
returns-then-is_read_inside-clause-stepped g c n w =
    let a = c.args.reader.now in
    let depth : c.len-depth.result ≡ length a.outer.items = grind (arith, common_steps) in
    GoesOn-open g.B.Builder.holds c.args.octets.now a c.enter.new.reader c.in_ok-header.header n c.len-depth.result
    c.kind_of.result
    c.in_ok-items.items c.open.new.self depth c.kind_of.ensures c.in_ok-items.ensures c.in_ok-enter.ensures
    c.in_ok-header.ensures.found w

pub returns-in_err-leaf-clause-stepped : goal.returns-in_err-leaf-clause-stepped
returns-in_err-leaf-clause-stepped g c n w =
    let h = c.in_ok-header.header in
    let leaf : IsReadInside h.class h.constructed h.tag →
    ⊥ = λ inside. false≢true (c.if-is_read_inside.ensures.1 inside) in
    let p = err_from_is_err_and c.from_residual-in_err-leaf.result c.from_residual-in_err-leaf.ensures.1 in
    rw (p.1, p.2) (elim c.in_err-leaf.ensures.refused [
      | inl memory ↦ inl memory
      | inr fault ↦ inr (IsFaulty-leaf g.B.Builder.holds c.args.octets.now c.args.reader.now h _ n c.leaf.new.self
          c.leaf.new.items c.requires.small
          c.in_ok-header.ensures.found leaf fault w)
    ])

pub returns-clause-stepped : goal.returns-clause-stepped
returns-clause-stepped g c n w =
    let h = c.in_ok-header.header in
    let a = c.args.reader.now in
    let leaf : IsReadInside h.class h.constructed h.tag → ⊥ = grind (arith, common_steps) in
    let depth : c.len-depth.result ≡ length a.outer.items = grind (arith, common_steps) in
    GoesOn-leaf g.B.Builder.holds c.args.octets.now a h n c.len-depth.result c.leaf.new.self c.leaf.new.items depth
    c.in_ok-header.ensures.found leaf c.in_ok-leaf.ensures.built w
