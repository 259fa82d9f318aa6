-- For `dotted::push_subidentifiers`: what each turn of its loop keeps.
use Rattle.std.proofs.Common.{◌≡◌, ◌++◌, drop}
use Rattle.std.specs.List.{flat_map}
use Rattle.asn1_leaves.specs.Inner.IdentifierForms.{numbers_after, pointed}
use Rattle.asn1_records.proofs.dotted.push_subidentifiers.Given as goal

-- the text so far, with the numbers of the octets that are left, is that of all octets
abbrev pub invariant-loop-octet : goal.invariant-loop-octet
invariant-loop-octet l =
    l.text.items ++ flat_map pointed (numbers_after l.number (drop l.octet-index l.octets))
    ≡ l.initial.text.items ++ flat_map pointed (numbers_after 0 l.octets)
