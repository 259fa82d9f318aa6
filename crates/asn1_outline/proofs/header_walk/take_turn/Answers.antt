-- For `header_walk::take_turn`: what it returns is right and `header_within` and `fail` may be called.
use Rattle.std.proofs.Common.{◌≡◌, ◌≢◌, [], inl, inr, reverse, sym, subst, append-nil, arith}
use Rattle.std.proofs.lemmas.Grind.{common_steps}
use Rattle.asn1_outline.specs.Listing.{KeepsOf}
use Rattle.asn1_outline.specs.Shapes.{in_header}
use Rattle.asn1_outline.specs.Walking.{AllOpen}
use Rattle.asn1_outline.proofs.Walks.{AllOpen-places, AreShapes-document}
use Rattle.asn1_outline.proofs.header_walk.take_turn.Goals as goal

pub returns-in-None : goal.returns-in-None
returns-in-None c =
    let w = c.args.reader.now in
    let (all, front, opened) = c.requires.reading in
    let none : w.outer.items ≡ [] = grind (arith, common_steps) in
    let (shapes, are, same) = AreShapes-document c.args.octets.now w.inner w.index all c.if-reader.true
    (subst (λ z. AllOpen c.args.octets.now w.inner (reverse z) w.index all) none opened) in
    (shapes, are, subst (KeepsOf w.builder) same front)

pub header_within-requires-clause-from : goal.header_within-requires-clause-from
header_within-requires-clause-from c =
    let w = c.args.reader.now in
    let (all, front, opened) = c.requires.reading in
    (AllOpen-places c.args.octets.now w.inner (reverse w.outer.items) w.index all opened).from

pub header_within-requires-clause-more : goal.header_within-requires-clause-more
header_within-requires-clause-more c =
    let w = c.args.reader.now in
    let (all, front, opened) = c.requires.reading in
    let v = AllOpen-places c.args.octets.now w.inner (reverse w.outer.items) w.index all opened in
    let other : w.index ≢ w.inner.extent.end = c.if-reader.false in
    omega (arith, v.to, other)

pub header_within-requires-clause-within : goal.header_within-requires-clause-within
header_within-requires-clause-within c =
    let w = c.args.reader.now in
    let (all, front, opened) = c.requires.reading in
    (AllOpen-places c.args.octets.now w.inner (reverse w.outer.items) w.index all opened).within

pub fail-requires : goal.fail-requires
fail-requires c =
    let w = c.args.reader.now in
    let (all, front, opened) = c.requires.reading in
    let v = AllOpen-places c.args.octets.now w.inner (reverse w.outer.items) w.index all opened in
    let other : w.index ≢ w.inner.extent.end = c.if-reader.false in
    elim c.in-Err.ensures.refused [
      | inl memory ↦ record { failed = inl memory }
      | inr fault ↦ record {
        failed = inr (record {
          reached = w.index;
          front = all;
          more = [];
          whole = subst (KeepsOf w.builder) (sym (append-nil all)) front;
          opened = opened;
          stops = in_header (omega (arith, v.to, other)) fault;
          nearer = omega (arith, v.to);
        });
      }
    ]
