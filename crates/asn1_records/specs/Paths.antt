-- The encodings of a document that paths name, and what is answered of each.
use Rattle.std.specs.Prelude.{◌≡◌, ℕ, zero, suc, ◌+◌, ◌^◌, ◌==◌, ℤ, pos, negsuc, List, [], ◌∷◌, Option, None, Some, if◌then◌else◌, length, map, min, nat_lt, slice_range}
use Rattle.asn1_headers.specs.declared.tags.TheConstants.{INTEGER}
use Rattle.asn1_headers.specs.Header.{class_number, constructed_bit}
use Rattle.asn1_numbers.specs.TwosComplement.{signed_number}
use Rattle.asn1_outline.specs.Shapes.{contents_octets}
use Rattle.asn1_outline.specs.Triple.{entry_at}
use Rattle.asn1_outline.specs.declared.entry.Entry.{Entry}
use Rattle.simple_asn1.specs.Shapes.{HasShapes, Shapes, entries_of}
use Rattle.asn1_records.specs.Answers.{IsRefusedByHeader}
use Rattle.asn1_records.specs.Room.{Answers}
use Rattle.asn1_records.specs.declared.record.Outcome.{Outcome}
use Rattle.asn1_records.specs.declared.record.Path.{Path}
use Rattle.asn1_records.specs.declared.record.Value.{Value}

-- the index of the encoding so many after the one at the index, side by side, if all of them are before the end
abbrev pub item_from : List Entry → ℕ → ℕ → ℕ → Option ℕ
item_from rs index end zero = if nat_lt index end then Some index else None
item_from rs index end (suc step) =
    if nat_lt index end then item_from rs (entry_at rs index).next end step else None

-- the index behind the items of the encoding at the index
abbrev pub items_end : List Entry → ℕ → ℕ
items_end rs index = min (entry_at rs index).next (length rs)

-- nothing where no encoding is found, and otherwise what is found inside the encoding at the index
abbrev pub if_found : Option ℕ → (ℕ → Option ℕ) → Option ℕ
if_found None inside = None
if_found (Some index) inside = inside index

-- the index of the encoding that the steps lead to from the one at the index: each is the number of an item
abbrev pub index_inside : List Entry → List ℕ → ℕ → Option ℕ
index_inside rs [] index = Some index
index_inside rs (step ∷ steps) index =
    if_found (item_from rs (suc index) (items_end rs index) step) (λ inside. index_inside rs steps inside)

-- the index of the encoding that a path names: the first number is that of an encoding of the document, from 0, and
-- each other number is that of an item of the encoding before. A path of no numbers names none
abbrev pub index_at : List Entry → List ℕ → Option ℕ
index_at rs [] = None
index_at rs (step ∷ steps) = if_found (item_from rs 0 (length rs) step) (λ index. index_inside rs steps index)

-- the numbers of a path; none if it does not lie in the steps
abbrev pub path_in : List ℕ → Path → List ℕ
path_in steps p =
    if nat_lt (length steps) (p.start + p.length) then [] else slice_range steps p.start (p.start + p.length)

-- the number, if it is at least -2^63 and below 2^63
abbrev pub fitting : ℤ → Option ℤ
fitting (pos n) = if nat_lt n (2 ^ 63) then Some (pos n) else None
fitting (negsuc n) = if nat_lt n (2 ^ 63) then Some (negsuc n) else None

-- the number of an INTEGER (X.690 8.3), if it is at least -2^63 and below 2^63
abbrev pub integer_in : List ℕ → Entry → Option ℤ
integer_in octets r =
    if class_number r.class == 0
    then (if r.tag == INTEGER then fitting (signed_number (contents_octets octets r)) else None)
    else None

abbrev pub nothing_named : ℕ
nothing_named = 0

abbrev pub encoding_named : ℕ
encoding_named = 1

abbrev pub number_named : ℕ
number_named = 2

-- what is answered of an encoding: where it is, and the number of an INTEGER
abbrev pub value_with : Entry → Option ℤ → Value
value_with r None = record {
  tag = r.tag;
  offset = r.offset;
  header = r.header;
  contents = r.contents;
  number = pos 0;
  kind = encoding_named;
  tag_class = class_number r.class;
  constructed = constructed_bit r.constructed;
}
value_with r (Some n) = record {
  tag = r.tag;
  offset = r.offset;
  header = r.header;
  contents = r.contents;
  number = n;
  kind = number_named;
  tag_class = class_number r.class;
  constructed = constructed_bit r.constructed;
}

-- the record of a path that leads nowhere
abbrev pub no_value : Value
no_value = record {
  tag = 0;
  offset = 0;
  header = 0;
  contents = 0;
  number = pos 0;
  kind = nothing_named;
  tag_class = 0;
  constructed = 0;
}

abbrev pub value_at : List ℕ → List Entry → Option ℕ → Value
value_at octets rs None = no_value
value_at octets rs (Some index) = value_with (entry_at rs index) (integer_in octets (entry_at rs index))

-- what is answered of a path, by the entries of the document
abbrev pub value_of : List ℕ → List Entry → List ℕ → Path → Value
value_of octets rs steps p = value_at octets rs (index_at rs (path_in steps p))

-- what is answered of each of the paths; or the first header fault and its place
abbrev pub AnswersValues : List ℕ → List ℕ → List Path → List Value → List Value → Outcome → Type 0
AnswersValues octets steps paths before after o =
    Answers
    (λ values. (all : Shapes) × HasShapes octets all
    × (values ≡ map (λ p. value_of octets (entries_of 0 0 all) steps p) paths))
    (IsRefusedByHeader octets) before after o
