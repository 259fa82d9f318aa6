-- For `in_place::past_short_leaf`: what it returns is right.
use Rattle.std.proofs.Common.{◌≡◌, ◌++◌, ◌∷◌, length, arith}
use Rattle.std.proofs.lemmas.Grind.{common_steps}
use Rattle.asn1_writing.proofs.InPlace.{LeavesBoth-short_leaf}
use Rattle.asn1_writing.proofs.in_place.past_short_leaf.Goals as goal

pub returns : goal.returns
returns c =
    let x = c.args.octets.now in
    let own = c.split_at-2.result.0.now in
    let after = c.split_at-2.result.1.now in
    let front : x ≡ c.args.leading ∷ c.args.length ∷ (own ++ after) = grind (arith, common_steps) in
    let size : length own ≡ c.args.length = grind (arith, common_steps) in
    LeavesBoth-short_leaf x own after c.args.leading c.args.length
    (omega arith) c.requires.low c.requires.short size front
    (c.are_leaf_contents_clearly_canonical.ensures c.if-not-are_leaf_contents_clearly_canonical.false)
