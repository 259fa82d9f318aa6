-- For `in_place::past_shortest`: what it returns is right.
use Rattle.std.proofs.Common.{◌≡◌, ◌++◌, length, arith}
use Rattle.std.proofs.lemmas.Grind.{common_steps}
use Rattle.asn1_writing.proofs.InPlace.{LeavesBoth-constructed, LeavesBoth-group, LeavesBoth-primitive, LeavesBoth-universal}
use Rattle.asn1_writing.proofs.in_place.past_shortest.Goals as goal

pub returns-then-is_of_group : goal.returns-then-is_of_group
returns-then-is_of_group c =
    LeavesBoth-group c.args.octets.now c.split_at.result.1.now c.args.header.now (omega arith) (omega arith) c.requires
    c.split_at.ensures.back (c.is_of_group.ensures c.if-is_of_group.true)

pub returns-then-header : goal.returns-then-header
returns-then-header c =
    let rest = c.split_at.result.1.now in
    let own = c.split_at-2.result.0.now in
    let after = c.split_at-2.result.1.now in
    let whole : rest ≡ own ++ after = grind (arith, common_steps) in
    let size : length own ≡ c.args.header.now.announced = grind (arith, common_steps) in
    LeavesBoth-constructed c.args.octets.now rest own after c.args.header.now
    (omega arith) c.requires c.split_at.ensures.back whole size c.in_default.not-Universal

pub returns-else-not-are_contents_clearly_canonical : goal.returns-else-not-are_contents_clearly_canonical
returns-else-not-are_contents_clearly_canonical c =
    let rest = c.split_at.result.1.now in
    let own = c.split_at-2.result.0.now in
    let after = c.split_at-2.result.1.now in
    let whole : rest ≡ own ++ after = grind (arith, common_steps) in
    let size : length own ≡ c.args.header.now.announced = grind (arith, common_steps) in
    LeavesBoth-universal c.args.octets.now rest own after c.args.header.now
    (omega arith) c.requires c.split_at.ensures.back whole size c.in-Universal.is
    (c.are_contents_clearly_canonical.ensures c.if-not-are_contents_clearly_canonical.false)

pub returns-else-header : goal.returns-else-header
returns-else-header c =
    let rest = c.split_at.result.1.now in
    let own = c.split_at-2.result.0.now in
    let after = c.split_at-2.result.1.now in
    let whole : rest ≡ own ++ after = grind (arith, common_steps) in
    let size : length own ≡ c.args.header.now.announced = grind (arith, common_steps) in
    LeavesBoth-primitive c.args.octets.now rest own after c.args.header.now
    (omega arith) c.requires c.split_at.ensures.back whole size c.in_default.not-Universal c.if-header.false
