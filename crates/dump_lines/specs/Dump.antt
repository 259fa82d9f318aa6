-- What is written of octets: lines, one for each encoding in order, by their headers. The contents octets of
-- constructed encodings, and of each SEQUENCE and SET, are gone into; those of others are looked at alone.
use Rattle.std.specs.Prelude.{◌≡◌, ◌⊎◌, ℕ, suc, ◌+◌, ◌<◌, ◌&&◌, if◌then◌else◌, Bool, true, false, Option, List, [], ◌∷◌, ◌++◌, length, map}
use Rattle.std.specs.List.{flat_map}
use Rattle.dump_lines.specs.declared.document.Verdict.{Verdict}
use Rattle.dump_lines.specs.declared.document.Verdict.TheVariants.{AllRead, Refused}
use Rattle.dump_rows.specs.Rows.{IsRowLine}
use Rattle.dump_rows.specs.declared.row.Row.{Row}
use Rattle.dump_walk.specs.Fronts.{AreFrontsOf, Front, StandAt, is_too_deep}
use Rattle.dump_walk.specs.Marks.{are_some, breaches_of}

-- an encoding of a document: what its line begins with there, and whether it stands inside octets of a string
pub record Shown : Type 0 where
  pub front : Front
  pub inside : Bool

-- an encoding of octets that stand at an offset of the document, inside so many others
abbrev pub shown_at : Bool → ℕ → ℕ → Front → Shown
shown_at inside base depth front = record {
  front = record front { offset = base + front.offset; depth = depth + front.depth };
  inside = inside;
}

-- the encodings that are shown of octets which stand at an offset of the document, inside so many others: one for each
-- front in order; and behind one of a string, it may be, all encodings of octets that stand behind its header
pub data AreShown : Bool → ℕ → ℕ → List ℕ → List Front → List Shown → Type 0 where
  none_shown :
      {inside : Bool} {base depth : ℕ} {octets : List ℕ} {fronts : List Front} {shown : List Shown} →
      fronts ≡ [] → shown ≡ [] → AreShown inside base depth octets fronts shown
  one_shown :
      {inside : Bool} {base depth : ℕ} {octets : List ℕ} {fronts : List Front} {shown : List Shown}
      (front : Front) (later : List Front) (others : List Shown) →
      fronts ≡ front ∷ later → shown ≡ shown_at inside base depth front ∷ others →
      AreShown inside base depth octets later others → AreShown inside base depth octets fronts shown
  string_shown :
      {inside : Bool} {base depth : ℕ} {octets : List ℕ} {fronts : List Front} {shown : List Shown}
      (front : Front) (later : List Front) (inner others : List Shown) (before : ℕ) (part : List ℕ)
      (own : List Front) (faults : List ℕ) →
      fronts ≡ front ∷ later → shown ≡ shown_at inside base depth front ∷ (inner ++ others) →
      StandAt octets (front.offset + (front.header + before)) part → AreFrontsOf part own faults →
      AreShown true (base + (front.offset + (front.header + before))) (suc (depth + front.depth)) part own inner →
      AreShown inside base depth octets later others → AreShown inside base depth octets fronts shown

-- the rules of DER that an encoding breaks, in words
abbrev pub rules_of : Shown → List (List ℕ)
rules_of shown = breaches_of shown.front.rules shown.front.has_spare_bits

-- the row of an encoding: its offset, sizes, depth and tag, where it stands, and the rules of DER that it breaks
pub record IsRowOf (shown : Shown) (row : Row) : Type 0 where
  pub offset : row.offset ≡ shown.front.offset
  pub header : row.header ≡ shown.front.header
  pub contents : row.contents ≡ shown.front.contents
  pub indefinite : row.is_indefinite ≡ shown.front.indefinite
  pub depth : row.depth ≡ shown.front.depth
  pub inside : row.is_inside ≡ shown.inside
  pub type_name : row.type_name.now ≡ shown.front.type_name
  pub rules : map (λ r. r.now) row.rules.now ≡ rules_of shown

-- the line of a row of the encoding, or nothing where that stands too deep
abbrev pub IsTextUnless : Bool → Shown → List ℕ → Type 0
IsTextUnless true shown text = text ≡ []
IsTextUnless false shown text = (row : Row) × IsRowOf shown row × IsRowLine row text

abbrev pub IsTextOf : Option ℕ → Shown → List ℕ → Type 0
IsTextOf most shown = IsTextUnless (is_too_deep most shown.front.depth) shown

-- the lines of encodings, in order
abbrev pub AreTextsOf : Option ℕ → List Shown → List ℕ → Type 0
AreTextsOf most [] text = text ≡ []
AreTextsOf most (shown ∷ others) text =
    (own rest : List ℕ) × (text ≡ own ++ rest) × IsTextOf most shown own × AreTextsOf most others rest

-- the offset of an encoding that breaks a rule of DER, where documents have to be DER
abbrev pub marks_of : Bool → Shown → List ℕ
marks_of strict shown = if strict && are_some (rules_of shown) then shown.front.offset ∷ [] else []

-- all was read of a document of which nothing is wrong
abbrev pub verdict_of : List ℕ → Verdict
verdict_of [] = AllRead
verdict_of (offset ∷ offsets) = Refused

-- the lines of octets, which have to be DER or not, down to the most depth, and what says behind them what is wrong.
-- That is faults outside of strings, and where they have to be DER each encoding that breaks a rule of it
abbrev pub IsDumpOfSome : Bool → Option ℕ → List ℕ → Verdict → List ℕ → Type 0
IsDumpOfSome strict most octets verdict text =
    (fronts : List Front) × (faults : List ℕ) × (shown : List Shown)
    × (lines last : List ℕ) × (text ≡ lines ++ last)
    × AreFrontsOf octets fronts faults × AreShown false 0 0 octets fronts shown × AreTextsOf most shown lines
    × (verdict ≡ verdict_of (flat_map (marks_of strict) shown ++ faults))

-- the lines of octets. Where there are no octets, they are refused
abbrev pub IsDumpOf : Bool → Option ℕ → List ℕ → Verdict → List ℕ → Type 0
IsDumpOf strict most octets verdict text =
    ((0 < length octets) × IsDumpOfSome strict most octets verdict text)
    ⊎ ((octets ≡ []) × (verdict ≡ Refused))
