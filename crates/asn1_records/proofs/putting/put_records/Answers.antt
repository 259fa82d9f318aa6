-- For `putting::put_records`: its loop keeps its invariant.
use Rattle.std.proofs.Common.{◌≡◌, suc, ◌+◌, ◌<◌, ◌≤◌, ◌++◌, drop, length, map, slice_set, take, ap, ◌∙◌, arith}
use Rattle.std.proofs.lemmas.Grind.{common_steps}
use Rattle.asn1_records.proofs.PathSteps.{set-next_value}
use Rattle.asn1_records.proofs.putting.put_records.Goals as goal

pub loop-k-preserved : goal.loop-k-preserved
loop-k-preserved g c =
    let f = g.T.Recorded.recorded in
    let values = c.args.values.now in
    let room = c.args.room.now in
    let k = c.loop-k.k in
    let next : suc k ≡ k + 1 = omega arith in
    let more : k < length values = grind (arith, common_steps) in
    let fits : length values ≤ length room = grind (arith, common_steps) in
    let value = c.index-values-k.result in
    ap (λ z. slice_set z k c.record.result) c.loop-k.invariant
    ∙ ap (λ z. slice_set (map f (take k values) ++ drop k room) k z)
    (c.record.ensures ∙ ap f c.index-values-k.is)
    ∙ set-next_value f values room k value more fits
    ∙ ap (λ n. map f (take n values) ++ drop n room) next
