-- The records of the fields of a type, out of the entries of a document.
use Rattle.std.specs.Prelude.{ℕ, List, Option, None, Some, slice_get}
use Rattle.asn1_outline.specs.declared.entry.Entry.{Entry}
use Rattle.asn1_records.specs.Records.{block_of, no_record}
use Rattle.asn1_records.specs.declared.record.Block.{Block}

-- the record of an entry that was found
abbrev pub record_of : Option Entry → Block
record_of None = no_record
record_of (Some entry) = block_of entry

-- the record of the entry at the index
abbrev pub record_in : List Entry → ℕ → Block
record_in entries index = record_of (slice_get entries index)

-- the record of the entry at the index, if there is an index
abbrev pub record_if_any : List Entry → Option ℕ → Block
record_if_any entries None = no_record
record_if_any entries (Some index) = record_in entries index
