-- For `measure::list_blocks`: its loop keeps its invariant, what it returns is right (`ordered`), and its loop
-- ends.
use Rattle.std.proofs.Common.{◌≡◌, ◌++◌, ◌∷◌, [], map, sym, ap, subst, ◌∙◌, arith}
use Rattle.std.proofs.lemmas.Grind.{common_steps}
use Rattle.std.proofs.lemmas.List.{map_push}
use Rattle.asn1_writing.specs.Canonical.{first_of, first_write_fault}
use Rattle.asn1_blocks.specs.Inner.TreeOrder.{IsNextTree, ahead}
use Rattle.asn1_blocks.specs.View.{views}
use Rattle.asn1_writing.specs.Inner.WriteWalk.{measured_blocks, measured_sizes, own_size_of}
use Rattle.asn1_writing.specs.declared.measure.Measured.{Measured}
use Rattle.asn1_blocks.proofs.TreeOrders.{IsFoundBefore, all_blocks_in-next, IsInTreeOrder-found, IsFoundBefore-next}
use Rattle.asn1_writing.proofs.WriteSteps.{first_write_fault-next}
use Rattle.asn1_writing.proofs.measure.list_blocks.Goals as goal

pub loop-walk-smaller : goal.loop-walk-smaller
loop-walk-smaller c =
    let n : IsNextTree c.in-Some.block.now (ahead c.loop-walk.walk) (ahead c.next.new.self) =
    rw c.in-Some.is at c.in_ok-block.ensures in
    omega (arith, all_blocks_in-next c.in-Some.block.now (ahead c.loop-walk.walk) (ahead c.next.new.self) n)

pub loop-walk-preserved : goal.loop-walk-preserved
loop-walk-preserved c =
    let b = c.in-Some.block.now in
    let m : Measured = record { block = c.in-Some.block; contents = c.in_ok-contents.contents } in
    let n : IsNextTree b (ahead c.loop-walk.walk) (ahead c.next.new.self) = rw c.in-Some.is at c.in_ok-block.ensures in
    let p : c.push.new.self.items ≡ c.loop-walk.list.items ++ m ∷ [] = grind (arith, common_steps) in
    let e : measured_blocks c.push.new.self.items ≡ measured_blocks c.loop-walk.list.items ++ b ∷ [] =
    ap measured_blocks p
    ∙ map_push (λ (x : Measured). x.block.now) c.loop-walk.list.items m in
    let own = c.loop-walk.invariant.own in
    record {
      found =
          subst (λ z. IsFoundBefore z (ahead c.next.new.self) c.args.blocks.now) (sym e)
          (IsFoundBefore-next (measured_blocks c.loop-walk.list.items) (ahead c.loop-walk.walk) (ahead c.next.new.self)
          c.args.blocks.now b
          c.loop-walk.invariant.found n);
      own =
          ap measured_sizes p ∙ (map_push (λ (x : Measured). x.contents) c.loop-walk.list.items m
          ∙ (ap (λ z. z ++ m.contents ∷ []) own
          ∙ (ap (λ z. map own_size_of (measured_blocks c.loop-walk.list.items) ++ z ∷ []) c.in_ok-contents.ensures.size
          ∙ (sym (map_push own_size_of (measured_blocks c.loop-walk.list.items) b) ∙ ap (map own_size_of) (sym e)))));
      fault =
          sym (ap (λ z. first_of z (first_write_fault (views (ahead c.next.new.self))))
          c.in_ok-contents.ensures.writable)
          ∙ (sym (first_write_fault-next b (ahead c.loop-walk.walk) (ahead c.next.new.self) n)
          ∙ c.loop-walk.invariant.fault);
    }

pub returns-clause-ordered : goal.returns-clause-ordered
returns-clause-ordered c =
    IsInTreeOrder-found (measured_blocks c.loop-walk.list.items) (ahead c.loop-walk.walk) c.args.blocks.now
    c.loop-walk.invariant.found (rw c.in_default.is at c.in_ok-block.ensures)
