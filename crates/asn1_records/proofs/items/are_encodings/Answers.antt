-- For `items::are_encodings`: what it returns is right.
use Rattle.std.proofs.Common.{◌<◌, ◌^◌, length, inl, inr, ap, arith}
use Rattle.asn1_blocks.proofs.ReadSteps.{length-slice_range}
use Rattle.asn1_outline.proofs.ShapesAlone.{AreShapes-no_fault}
use Rattle.asn1_records.proofs.LaterShapes.{AreShapes-slice, HeadersFaultAt-slice, later_shapes}
use Rattle.asn1_records.proofs.SideBySide.{HeadersFaultAt-before_end}
use Rattle.asn1_records.proofs.items.are_encodings.Goals as goal

pub returns-then-start-end-clause-yes : goal.returns-then-start-end-clause-yes
returns-then-start-end-clause-yes c is fault o at =
    omega (
      arith,
      c.if-start-end.true,
      HeadersFaultAt-before_end c.args.octets.now c.args.start c.args.start c.args.end fault o at,
    )

pub returns-in-Ok-clause-yes : goal.returns-in-Ok-clause-yes
returns-in-Ok-clause-yes c is fault o at =
    let x = c.args.octets.now in
    let s = c.args.start in
    let e = c.args.end in
    let small : length x < 2 ^ 64 = omega arith in
    let (all, has) = c.in-Ok.ensures.document in
    AreShapes-no_fault x small s s e (later_shapes s all) fault o c.requires.within
    (AreShapes-slice x s e c.requires.order c.requires.within all has.shapes) at

pub returns-else-is_out_of_memory-clause-no : goal.returns-else-is_out_of_memory-clause-no
returns-else-is_out_of_memory-clause-no c is all are =
    let x = c.args.octets.now in
    let s = c.args.start in
    let e = c.args.end in
    let small : length x < 2 ^ 64 = omega arith in
    elim c.in-Err.ensures.fault [
      | inl memory ↦
          let yes = c.is_out_of_memory.ensures.1 memory in
          let no = c.if-is_out_of_memory.false in
          absurd cc
      | inr (inl (empty, _, _)) ↦
          omega (
            arith,
            ap length empty,
            length-slice_range x s e c.requires.order c.requires.within,
            c.requires.order,
            c.if-start-end.false,
          )
      | inr (inr w) ↦
          AreShapes-no_fault x small s s e all _ _ c.requires.within are
          (HeadersFaultAt-slice x s e c.requires.order c.requires.within _ _ w)
    ]
