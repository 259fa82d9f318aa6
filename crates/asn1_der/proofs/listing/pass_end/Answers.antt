-- For `listing::pass_end`: what it returns is right.
use Rattle.std.proofs.Common.{append-nil, arith, length, reverse, sym}
use Rattle.asn1_der.proofs.Walk.{AreExtents-le, AreExtents-step, Completes-step, HeaderFaultBehind-end, StepsTo-end, slice_range-at_end}
use Rattle.asn1_der.proofs.listing.pass_end.Goals as goal

pub returns : goal.returns
returns c =
    let x = c.args._octets.now in
    let w = c.args.place.now in
    let o = w.inner.offset in
    let e = w.inner.end in
    let u = w.inner.unended in
    let l = w.inner.listed in
    let found = c.args._found.now in
    let p = c.requires.placed in
    let es = reverse w.outer.items in
    let within = AreExtents-le x e l es p.around in
    let two = (slice_range-at_end x e u w.index p.order within c.requires.end).0 in
    record {
      placed = AreExtents-step x o e u w.index _ _ l (length found) (length found) es p
          (HeaderFaultBehind-end x e u w.index p.order within c.requires.end) two (omega (arith, p.room)) (omega arith);
      all = λ all up.
          Completes-step x o e u w.index _ _ l _ es found found all
          (StepsTo-end x e u w.index p.order within c.requires.end) p.among (sym (append-nil found)) up;
      fewer = omega (arith, two, within);
    }
