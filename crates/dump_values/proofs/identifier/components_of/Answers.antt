-- For `identifier::components_of`: what it returns is right.
use Rattle.dump_values.proofs.Identifiers.{HasShortFront-none}
use Rattle.dump_values.proofs.identifier.components_of.Goals as goal

pub returns-in-Some : goal.returns-in-Some
returns-in-Some c = λ short.
    let (octet, rest, e, long) = c.begins_long.ensures c.if-begins_long.true in
    absurd (HasShortFront-none c.args.read c.args.contents.now octet rest c.requires e long short)
