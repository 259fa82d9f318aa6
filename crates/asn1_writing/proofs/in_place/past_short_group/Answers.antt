-- For `in_place::past_short_group`: what it returns is right.
use Rattle.std.proofs.Common.{◌≡◌, ◌∷◌, arith}
use Rattle.std.proofs.lemmas.Grind.{common_steps}
use Rattle.asn1_writing.proofs.InPlace.{LeavesBoth-short_group}
use Rattle.asn1_writing.proofs.in_place.past_short_group.Goals as goal

pub returns : goal.returns
returns c =
    let x = c.args.octets.now in
    let rest = c.split_at.result.1.now in
    let front : x ≡ c.args.leading ∷ c.args.length ∷ rest = grind (arith, common_steps) in
    LeavesBoth-short_group x rest c.args.leading c.args.length (omega arith) c.requires.short c.requires.group front
