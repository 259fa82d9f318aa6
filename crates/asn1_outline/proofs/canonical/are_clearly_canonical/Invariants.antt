-- For `canonical::are_clearly_canonical`: what each turn of its loop keeps.
use Rattle.std.proofs.Common.{ℕ, ◌<◌, get_or}
use Rattle.asn1_outline.specs.Entries.{no_entry}
use Rattle.asn1_outline.specs.Inner.InEntries.{HasCanonicalAt}
use Rattle.asn1_outline.proofs.canonical.are_clearly_canonical.Given as goal

-- the entries before this one are canonical
abbrev pub invariant-loop-entry : goal.invariant-loop-entry
invariant-loop-entry l = (k : ℕ) → k < l.entry-index → HasCanonicalAt l.octets (get_or l.entries k no_entry).offset
