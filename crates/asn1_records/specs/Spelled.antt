-- The octets that records spell.
use Rattle.std.specs.Prelude.{◌≡◌, ℕ, ◌+◌, ◌-◌, ◌^◌, ◌<◌, ◌≤◌, ◌++◌, Bool, IsTrue, true, List, [], ◌∷◌, drop, get_or, length, nat_lt, slice_range, take}
use Rattle.std.specs.List.{concat}
use Rattle.simple_asn1.specs.Canonical.{shortest_encoding}
use Rattle.simple_asn1.specs.Header.{class_number}
use Rattle.asn1_headers.specs.declared.header.ASN1Class.{ASN1Class}
use Rattle.asn1_records.specs.Inner.InRecords.{AreCanonicalBlocks}
use Rattle.asn1_records.specs.Records.{no_record}
use Rattle.asn1_records.specs.declared.record.Block.{Block}

-- the contents octets that a record has among the octets
abbrev pub spelled_contents : List ℕ → Block → List ℕ
spelled_contents octets r = slice_range octets (r.offset + r.header) (r.offset + r.header + r.contents)

-- what a record has for each tag number from this one on, so that it names no tag number
abbrev pub greatest_tag : ℕ
greatest_tag = 2 ^ 64 - 1

-- one encoding for each record that no other holds, in order. A record without items has its contents octets among the
-- octets; one with items holds the encodings behind it. The tag of each is that of one number alone
pub data Spells (octets : List ℕ) : List Block → List (List ℕ) → Type 0 where
  spells_none : Spells octets [] []
  spells_contents :
      {rs : List Block} {xs : List (List ℕ)} (r : Block) (class : ASN1Class) →
      class_number class ≡ r.tag_class → r.tag < greatest_tag → r.items ≡ 0 →
      r.offset + r.header + r.contents ≤ length octets → Spells octets rs xs →
      Spells octets (r ∷ rs)
      (shortest_encoding class (nat_lt 0 r.constructed) r.tag (spelled_contents octets r) ∷ xs)
  spells_items :
      {rs : List Block} {xs : List (List ℕ)} (r : Block) (class : ASN1Class) →
      class_number class ≡ r.tag_class → r.tag < greatest_tag → 0 < r.items → r.items ≤ length xs →
      Spells octets rs xs →
      Spells octets (r ∷ rs) (shortest_encoding class true r.tag (concat (take r.items xs)) ∷ drop r.items xs)

-- the record can't be put before these encodings
pub data IsUnspellable (octets : List ℕ) (xs : List (List ℕ)) (r : Block) : Type 0 where
  has_no_class : 3 < r.tag_class → IsUnspellable octets xs r
  has_no_tag : greatest_tag ≤ r.tag → IsUnspellable octets xs r
  -- the record holds more encodings than there are
  has_too_many : length xs < r.items → IsUnspellable octets xs r
  -- the contents octets of the record are not within these octets
  has_no_contents : r.items ≡ 0 → length octets < r.offset + r.header + r.contents → IsUnspellable octets xs r

-- the records after the place are spelled, and the record at the place can't be
abbrev pub IsBadAt : List ℕ → List Block → ℕ → Type 0
IsBadAt octets records place =
    (place < length records) × (xs : List (List ℕ)) × Spells octets (drop (place + 1) records) xs
    × IsUnspellable octets xs (get_or records place no_record)

-- the records spell these octets
abbrev pub AreSpelled : List ℕ → List Block → List ℕ → Type 0
AreSpelled octets records spelled = (xs : List (List ℕ)) × Spells octets records xs × (spelled ≡ concat xs)

-- where each of the encodings ends, counted back from the end of all, the last of them first
abbrev pub starts_of : List (List ℕ) → List ℕ
starts_of [] = []
starts_of (x ∷ xs) = starts_of xs ++ length (concat xs) ∷ []

-- the last records are spelled: these octets, and where each encoding is among them; and each is a block in canonical
-- form where they were found to be
pub record IsState (octets : List ℕ) (records : List Block) (spelled starts : List ℕ) (canonical : Bool)
    : Type 0 where
  pub xs : List (List ℕ)
  pub spells : Spells octets records xs
  pub joined : spelled ≡ concat xs
  pub places : starts ≡ starts_of xs
  pub found : IsTrue canonical → AreCanonicalBlocks xs
