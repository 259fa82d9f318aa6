-- What stands in octets, encoding after encoding, by their headers. The contents octets of constructed encodings, and
-- of each SEQUENCE and SET, are gone into; those of others are looked at alone.
use Rattle.std.specs.Prelude.{◌&&◌, ◌≡◌, ◌⊎◌, ℕ, ◌+◌, ◌<◌, ◌≤◌, nat_lt, Bool, true, false, Option, None, Some, List, [], ◌∷◌, ◌++◌, drop, length, codes}
use Rattle.asn1_headers.specs.Fault.{DecodeFault}
use Rattle.asn1_headers.specs.Front.{HasNoHeader, IsAtFront}
use Rattle.asn1_headers.specs.Indefinite.{begins_with_end}
use Rattle.asn1_headers.specs.declared.header.ASN1Class.TheVariants.{Universal}
use Rattle.asn1_headers.specs.declared.tags.TheConstants.{BIT_STRING, OCTET_STRING}
use Rattle.asn1_headers.specs.declared.whole_header.Header.{Header}
use Rattle.asn1_blocks.specs.Contents.{LeafFault}
use Rattle.asn1_der.specs.Departures.{AreBroken}
use Rattle.asn1_der.specs.declared.rule.Rule.{Rule}
use Rattle.dump_values.specs.Tags.{tag_name}
use Rattle.dump_values.specs.Values.{HasValue}
use Rattle.dump_values.specs.declared.value.LeafValue.{LeafValue}
use Rattle.dump_walk.specs.Headers.{IsHeaderOf, contents_in, is_opened, is_stray, size_in}
use Rattle.dump_walk.specs.Marks.{EndsWithZero}
use Rattle.dump_walk.specs.Steps.{GoesTo, IsTaken}
use Rattle.dump_walk.specs.declared.cursor.End.{End}
use Rattle.dump_walk.specs.declared.cursor.Step.{Step}
use Rattle.dump_walk.specs.declared.cursor.Step.TheVariants.{Out, Past}

-- what the line of an encoding, or of something else, begins with: its offset, the sizes of its header and of the
-- contents octets that it announces, whether its length is of the indefinite form, which announces none, how many
-- encodings are around it, whether it is an encoding, and its tag in words; what its mark says: the rules of DER that
-- it breaks, and whether it is, by a type that is known, a list of named bits with a 0 at its end (X.690 11.2.2); and
-- the value of its contents octets, if they have one
pub record Front : Type 0 where
  pub offset : ℕ
  pub header : ℕ
  pub contents : ℕ
  pub indefinite : Bool
  pub depth : ℕ
  pub encoding : Bool
  pub type_name : List ℕ
  pub rules : List Rule
  pub has_spare_bits : Bool
  pub meaning : Option LeafValue

-- what the line of an encoding with the header begins with
abbrev pub header_front : ℕ → ℕ → List Rule → Bool → Option LeafValue → Header → Front
header_front offset depth rules spare meaning header = record {
  offset = offset;
  header = header.size;
  contents = header.announced;
  indefinite = header.is_indefinite;
  depth = depth;
  encoding = true;
  type_name = tag_name header.class header.tag;
  rules = rules;
  has_spare_bits = spare;
  meaning = meaning;
}

-- what the line of something else begins with, by these words
abbrev pub other_front : List ℕ → ℕ → ℕ → ℕ → ℕ → Front
other_front words header contents offset depth = record {
  offset = offset;
  header = header;
  contents = contents;
  indefinite = false;
  depth = depth;
  encoding = false;
  type_name = words;
  rules = [];
  has_spare_bits = false;
  meaning = None;
}

-- of so many octets that begin with no header
abbrev pub unreadable : ℕ → ℕ → ℕ → Front
unreadable = other_front (codes "unreadable") 0

-- of end-of-contents octets: there are two of them (X.690 8.1.5), or none where they are missing
abbrev pub end_of_contents : ℕ → ℕ → ℕ → Front
end_of_contents size = other_front (codes "end-of-contents") size 0

-- the whole encoding with the header, which begins the octets, breaks these rules: those that the library lists at its
-- offset, whether or not it has a value
abbrev pub AreRulesFound : List ℕ → Header → List Rule → Type 0
AreRulesFound octets header rules =
    (front : IsAtFront octets header)
    → AreBroken front.identifier front.len header.class header.constructed header.tag
    (contents_in octets header) rules

-- the value of a whole encoding that begins the octets, and what is wrong with it, nothing or something at its offset.
-- One that has no value is gone into, or something is wrong with it
pub data IsJudged (octets : List ℕ) (header : Header) (offset : ℕ) (meaning : Option LeafValue) (faults : List ℕ)
    : Type 0 where
  of_stray_form :
      is_stray header ≡ true → meaning ≡ None → faults ≡ offset ∷ [] →
      IsJudged octets header offset meaning faults
  with_encodings :
      is_stray header ≡ false → is_opened header ≡ true → meaning ≡ None → faults ≡ [] →
      IsJudged octets header offset meaning faults
  with_value :
      (value : LeafValue) → is_stray header ≡ false → is_opened header ≡ false →
      HasValue header.class header.tag (contents_in octets header) value →
      meaning ≡ Some value → faults ≡ [] →
      IsJudged octets header offset meaning faults
  with_no_value :
      (fault : DecodeFault) → is_stray header ≡ false → is_opened header ≡ false →
      header.class ≡ Universal →
      LeafFault header.tag (contents_in octets header) fault →
      meaning ≡ None → faults ≡ offset ∷ [] →
      IsJudged octets header offset meaning faults

-- what is known of an encoding with the header, which begins the octets, by its line, and what is wrong with it
pub data IsRead (octets : List ℕ) (header : Header) (front : Front) (faults : List ℕ) : Type 0 where
  cut_short :
      length octets < header.size + header.announced → front.rules ≡ [] → front.has_spare_bits ≡ false →
      front.meaning ≡ None → faults ≡ front.offset ∷ [] → IsRead octets header front faults
  whole :
      header.size + header.announced ≤ length octets → AreRulesFound octets header front.rules →
      (front.has_spare_bits ≡ true → EndsWithZero (contents_in octets header)) →
      IsJudged octets header front.offset front.meaning faults → IsRead octets header front faults

-- the line of what begins octets that are left at the offset, inside so many encodings, by which step it is passed, and
-- the offsets of faults. End-of-contents octets are those of the encoding around, if it has the indefinite form, and
-- are missing where no octets are left in it (X.690 8.1.3.6, 8.1.5). What else is left begins with an encoding, which
-- is gone into or passed over; or with no header: then all of it is unreadable
pub data IsNextLine (within : Bool) (offset depth : ℕ) (left : List ℕ) (step : Step) (front : Front)
    (faults : List ℕ) : Type 0 where
  end_there :
      within ≡ true → begins_with_end left ≡ true → step ≡ Out 2 →
      front ≡ end_of_contents 2 offset depth → faults ≡ [] →
      IsNextLine within offset depth left step front faults
  end_missing :
      within ≡ true → left ≡ [] → step ≡ Out 0 →
      front ≡ end_of_contents 0 offset depth → faults ≡ offset ∷ [] →
      IsNextLine within offset depth left step front faults
  no_header :
      (within && begins_with_end left) ≡ false → 0 < length left → HasNoHeader left →
      step ≡ Past (length left) →
      front ≡ unreadable (length left) offset depth → faults ≡ offset ∷ [] →
      IsNextLine within offset depth left step front faults
  an_encoding :
      (within && begins_with_end left) ≡ false → (header : Header) → IsHeaderOf left header →
      IsTaken header (size_in left header) step →
      front ≡ header_front offset depth front.rules front.has_spare_bits front.meaning header →
      IsRead left header front faults → IsNextLine within offset depth left step front faults

-- one line more, and the offsets of its faults
abbrev pub AddsLine :
    Bool → ℕ → ℕ → List ℕ → Step → List Front × List ℕ → List Front × List ℕ → Type 0
AddsLine within offset depth left step before after =
    (front : Front) × (own : List ℕ) × IsNextLine within offset depth left step front own
    × (after ≡ (before.0 ++ front ∷ [], before.1 ++ own))

-- lines begin with these up to an offset, where contents octets that end so are open, with these offsets of faults
abbrev pub LinesTo : List ℕ → ℕ → List End → List Front → List ℕ → Type 0
LinesTo octets offset ends fronts faults = GoesTo AddsLine octets false ([], []) offset ends (fronts, faults)

-- what the lines of all of the octets begin with, and the offsets of faults
abbrev pub AreFrontsOf : List ℕ → List Front → List ℕ → Type 0
AreFrontsOf octets fronts faults = (offset : ℕ) × LinesTo octets offset [] fronts faults

-- what stands inside so many others stands inside more than the most, where there is a most
abbrev pub is_too_deep : Option ℕ → ℕ → Bool
is_too_deep None depth = false
is_too_deep (Some most) depth = nat_lt most depth

-- octets stand in others, after so many of them
abbrev pub StandAt : List ℕ → ℕ → List ℕ → Type 0
StandAt octets before part = (rest : List ℕ) × (drop before octets ≡ part ++ rest)

-- contents octets of an encoding of the type are these octets of a string, behind so many others: behind none in an
-- OCTET STRING, and in a BIT STRING behind the number of unused bits, which is 0 (X.690 8.6.2, 8.7)
abbrev pub HoldsBehind : List ℕ → List ℕ → ℕ → List ℕ → Type 0
HoldsBehind type_name contents skipped string =
    ((type_name ≡ tag_name Universal OCTET_STRING) × (skipped ≡ 0) × (contents ≡ string))
    ⊎ ((type_name ≡ tag_name Universal BIT_STRING) × (skipped ≡ 1) × (contents ≡ 0 ∷ string))
