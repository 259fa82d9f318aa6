-- For `cursor::Cursor::next`: its loop keeps its invariant.
use Rattle.std.proofs.Common.{◌≡◌, ◌∙◌, length, refl, sym, arith}
use Rattle.std.proofs.lemmas.Grind.{common_steps}
use Rattle.std.proofs.lemmas.List.{nil_from_length}
use Rattle.dump_walk.specs.Steps.{none_left}
use Rattle.dump_walk.proofs.Cursors.{HasLeft-left}
use Rattle.dump_walk.proofs.cursor.Cursor.next.Goals as goal

pub loop-end-init : goal.loop-end-init
loop-end-init c = (refl, refl, none_left refl)

pub loop-end-preserved : goal.loop-end-preserved
loop-end-preserved c =
    let (offset, octets, left) = c.loop-end.invariant in
    let (around, is) = c.in-Some.ensures.some in
    let e = c.leave.ensures in
    let none : length c.octets_between-octets.result.now ≡ 0 = grind (arith, common_steps) in (
      e.offset ∙ offset,
      e.octets ∙ octets,
      HasLeft-left _ c.loop-end.self c.leave.new.self c.in-Some.end around left is c.if-end.false
          (sym c.octets_between-octets.ensures ∙ nil_from_length c.octets_between-octets.result.now none) e.octets
          e.offset e.ends,
    )
