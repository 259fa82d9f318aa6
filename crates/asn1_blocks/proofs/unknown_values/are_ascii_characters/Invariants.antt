-- For `unknown_values::are_ascii_characters`: what each turn of its loop keeps.
use Rattle.std.proofs.Common.{◌≡◌, take}
use Rattle.std.specs.List.{list_all}
use Rattle.asn1_blocks.specs.UnknownValues.{is_ascii_character}
use Rattle.asn1_blocks.proofs.unknown_values.are_ascii_characters.Given as goal

-- the answer for the octets so far
abbrev pub invariant-loop-octet : goal.invariant-loop-octet
invariant-loop-octet l = l.all ≡ list_all (is_ascii_character l.tag) (take l.octet-index l.contents)
