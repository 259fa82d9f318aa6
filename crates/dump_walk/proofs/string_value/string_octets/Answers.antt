-- For `string_value::string_octets`: what it returns is right.
use Rattle.dump_walk.specs.StringOctets.{IsHeldBy, IsNoneHeldBy, IsStringHeader}
use Rattle.dump_walk.proofs.string_value.string_octets.Goals as goal

pub returns-in-Some-2 : goal.returns-in-Some-2
returns-in-Some-2 c =
    let element = c.args.element.now in
    let is : IsStringHeader element c.in-Some.tag c.in-Some.header = rw c.in-Some.is at c.in_ok-tag.ensures in
    let held : IsHeldBy element c.in-Some.tag c.in-Some.header c.in-Some-2.octets.items =
    rw c.in-Some-2.is at c.in_ok-octets.ensures in
    record { tag = c.in-Some.tag; header = c.in-Some.header; is_string = is; holds = held }

pub returns : goal.returns
returns c =
    let element = c.args.element.now in
    let is : IsStringHeader element c.in-Some.tag c.in-Some.header = rw c.in-Some.is at c.in_ok-tag.ensures in
    let none : IsNoneHeldBy element c.in-Some.tag c.in-Some.header = rw c.in-None.is at c.in_ok-octets.ensures in
    record { tag = c.in-Some.tag; header = c.in-Some.header; is_string = is; holds_none = none }
