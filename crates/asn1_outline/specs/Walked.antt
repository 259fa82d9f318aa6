-- The octets and the entries of `Headers`.
use Rattle.std.specs.Prelude.{ℕ, List}
use Rattle.asn1_outline.specs.declared.entry.Entry.{Entry}
use Rattle.asn1_outline.specs.declared.headers.Headers.{Headers}

-- the octets that headers have been lent
abbrev pub walked_octets : Headers → List ℕ
walked_octets headers = headers.octets.now

-- the entries that headers own
abbrev pub walked_entries : Headers → List Entry
walked_entries headers = headers.entries.items
