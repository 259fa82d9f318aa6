-- A signed triple, as a certificate (X.509) is one, by the entries of its encodings.
use Rattle.std.specs.Prelude.{◌≡◌, ℕ, ◌+◌, ◌<◌, List, get_or}
use Rattle.asn1_headers.specs.declared.tags.TheConstants.{BIT_STRING, OBJECT_IDENTIFIER, SEQUENCE}
use Rattle.asn1_headers.specs.declared.header.ASN1Class.TheVariants.{Universal}
use Rattle.asn1_outline.specs.Entries.{no_entry}
use Rattle.asn1_outline.specs.declared.entry.Entry.{Entry}

abbrev pub entry_at : List Entry → ℕ → Entry
entry_at entries index = get_or entries index no_entry

-- the entry is of class Universal, with the tag number
abbrev pub IsUniversal : ℕ → Entry → Type 0
IsUniversal tag entry = (entry.class ≡ Universal) × (entry.tag ≡ tag)

-- the entries begin with a SEQUENCE of three: what was signed; a SEQUENCE that begins with an OBJECT IDENTIFIER, the
-- algorithm; and a BIT STRING, the signature
pub record BeginWithTriple (entries : List Entry) : Type 0 where
  pub whole : IsUniversal SEQUENCE (entry_at entries 0)
  pub three : (entry_at entries 0).items ≡ 3
  pub algorithm : IsUniversal SEQUENCE (entry_at entries (entry_at entries 1).next)
  pub some : 0 < (entry_at entries (entry_at entries 1).next).items
  pub identifier : IsUniversal OBJECT_IDENTIFIER (entry_at entries ((entry_at entries 1).next + 1))
  pub signature : IsUniversal BIT_STRING (entry_at entries (entry_at entries (entry_at entries 1).next).next)
