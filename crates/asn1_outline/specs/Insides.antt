-- What an `Inside` has.
use Rattle.std.specs.Prelude.{ℕ, List}
use Rattle.asn1_outline.specs.InStrings.{later}
use Rattle.asn1_outline.specs.Outlines.{entries_in, octets_in}
use Rattle.asn1_outline.specs.Triple.{entry_at}
use Rattle.asn1_outline.specs.declared.entry.Entry.{Entry}
use Rattle.asn1_outline.specs.declared.inside.Inside.{Inside}
use Rattle.asn1_outline.specs.declared.outline.Outline.{Outline}

-- the outline of the octets of the string
abbrev pub outline_in : Inside → Outline
outline_in inside = inside.outline

-- its octets, which are those of the string, and its entries
abbrev pub octets_inside : Inside → List ℕ
octets_inside inside = octets_in inside.outline

abbrev pub entries_inside : Inside → List Entry
entries_inside inside = entries_in inside.outline

-- the octets of the document around
abbrev pub document_around : Inside → List ℕ
document_around inside = inside.document.now

-- the offset in the document around of the first octet of the string
abbrev pub start_in : Inside → ℕ
start_in inside = inside.start

-- the entry at an index, with its offset in the document around
abbrev pub entry_around : Inside → ℕ → Entry
entry_around inside index = later inside.start (entry_at (entries_inside inside) index)
