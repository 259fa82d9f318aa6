-- For `components::split_contents`: what it returns is right.
use Rattle.std.proofs.Common.{ap, arith, drop, length, sym, take, ◌∙◌}
use Rattle.asn1_der.proofs.LengthOctets.{SaysLength-front, are_contents-cut_off, are_contents-fit, are_contents-no_length, behind_contents-announced, contents_of-announced}
use Rattle.asn1_der.proofs.components.split_contents.Goals as goal

pub returns-in_default-clause-none : goal.returns-in_default-clause-none
returns-in_default-clause-none c = are_contents-no_length c.args.octets.now c.in_default.ensures.refused

pub returns-then-size-rest-clause-none : goal.returns-then-size-rest-clause-none
returns-then-size-rest-clause-none c =
    let x = c.args.octets.now in
    let found = c.in-Ok.ensures.found in
    let says = SaysLength-front x c.in-Ok.count c.in-Ok.size found.0 found.1 in
    are_contents-cut_off x c.in-Ok.count c.in-Ok.size says
    (omega (arith, c.if-size-rest.true, ap length c.split_at.ensures.back))

pub returns-clause-found : goal.returns-clause-found
returns-clause-found c =
    let x = c.args.octets.now in
    let found = c.in-Ok.ensures.found in
    let says = SaysLength-front x c.in-Ok.count c.in-Ok.size found.0 found.1 in
    are_contents-fit x c.in-Ok.count c.in-Ok.size says
    (omega (arith, c.if-size-rest.false, ap length c.split_at.ensures.back))

pub returns-clause-contents : goal.returns-clause-contents
returns-clause-contents c =
    let x = c.args.octets.now in
    let found = c.in-Ok.ensures.found in
    let says = SaysLength-front x c.in-Ok.count c.in-Ok.size found.0 found.1 in
    c.split_at-2.ensures.front ∙ (ap (take c.in-Ok.size) c.split_at.ensures.back
    ∙ sym (contents_of-announced x c.in-Ok.count c.in-Ok.size says))

pub returns-clause-behind : goal.returns-clause-behind
returns-clause-behind c =
    let x = c.args.octets.now in
    let found = c.in-Ok.ensures.found in
    let says = SaysLength-front x c.in-Ok.count c.in-Ok.size found.0 found.1 in
    c.split_at-2.ensures.back ∙ (ap (drop c.in-Ok.size) c.split_at.ensures.back
    ∙ sym (behind_contents-announced x c.in-Ok.count c.in-Ok.size says))
