-- For `contents::object_identifier::begin_without_80`: what each turn of its loop keeps.
use Rattle.std.proofs.Common.{drop, true}
use Rattle.asn1_leaves.proofs.ShortSubidentifiers.{NoneLeads}
use Rattle.asn1_leaves.proofs.contents.object_identifier.begin_without_80.Given as goal

-- no subidentifier begins with 80, and the last one ends, if that holds of the octets that are left
abbrev pub invariant-loop-octet : goal.invariant-loop-octet
invariant-loop-octet l = NoneLeads l.begins (drop l.octet-index l.rest) → NoneLeads true l.rest
