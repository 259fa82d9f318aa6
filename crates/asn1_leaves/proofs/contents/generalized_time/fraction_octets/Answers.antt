-- For `contents::generalized_time::fraction_octets`: its loop keeps its invariant and what it returns is right
-- (`count`).
use Rattle.std.proofs.Common.{◌≡◌, ◌+◌, ◌-◌, ◌/◌, ◌%◌, ◌++◌, ◌<◌, [], ◌∷◌, length, take, arith, sym, ap, ◌∙◌, append_assoc, add-one}
use Rattle.std.specs.Prelude.{slice_set}
use Rattle.std.proofs.Math.Seq.{take-suc-set}
use Rattle.std.proofs.lemmas.Grind.{common_steps}
use Rattle.asn1_leaves.specs.Contents.GeneralizedTime.{fraction_digits}
use Rattle.asn1_leaves.proofs.Leaves.Digits.{fraction_digits-zero, fraction_digits-step, unit_of_next_place}
use Rattle.asn1_leaves.proofs.contents.generalized_time.fraction_octets.Goals as goal

pub returns-then-left-eq0-clause-count : goal.returns-then-left-eq0-clause-count
returns-then-left-eq0-clause-count c =
    let n = fraction_digits-zero (9 - c.loop-count.count) c.loop-count.unit in
    grind (arith, common_steps, n, ap length c.loop-count.invariant.all)

pub loop-count-preserved : goal.loop-count-preserved
loop-count-preserved c =
    let i = c.loop-count.count in
    let unit = c.loop-count.unit in
    let left = c.loop-count.left in
    let digits = c.loop-count.digits in
    let x = 48 + left / unit in
    let k = unit_of_next_place (9 - i) unit (omega arith) (c.loop-count.invariant.unit (omega arith)) in
    let s = fraction_digits-step (9 - i) unit left (omega arith) (omega arith) in
    let p : 9 - i - 1 ≡ 9 - (i + 1) = omega arith in
    let rest = fraction_digits (9 - (i + 1)) (unit / 10) (left % unit) in
    let s' : fraction_digits (9 - i) unit left ≡ x ∷ rest =
    s ∙ ap (λ z. x ∷ fraction_digits z (unit / 10) (left % unit)) p in
    let h : i < length digits = omega arith in
    let t : take (i + 1) (slice_set digits i x) ≡ take i digits ++ (x ∷ []) = rw (add-one, take-suc-set digits i x h) in
    record {
      size = grind (arith, common_steps);
      all = ap (λ z. z ++ rest) t ∙ (append_assoc (take i digits) (x ∷ []) rest
          ∙ (ap (λ z. take i digits ++ z) (sym s') ∙ c.loop-count.invariant.all));
      unit = λ l. rw (← p) (k.2 (omega arith));
      small = rw (← p) (omega (arith, k.0, k.1));
    }

pub returns-clause-count : goal.returns-clause-count
returns-clause-count c =
    grind (arith, common_steps, ap length c.loop-count.invariant.all)
