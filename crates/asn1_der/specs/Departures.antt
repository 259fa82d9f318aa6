-- Which departures from DER octets have. Encodings are those of BER (X.690 8.1.1.1): of the definite form, or of the
-- indefinite one (8.1.3.6), whose contents octets are followed to their end-of-contents octets 00 00 (8.1.5).
use Rattle.std.specs.Prelude.{◌≡◌, ◌≢◌, ◌&&◌, ◌⊎◌, ◌++◌, ℕ, suc, ◌+◌, ◌<◌, Bool, true, false, not, if◌then◌else◌, MatchBool, Option, None, Some, List, [], ◌∷◌, length}
use Rattle.std.specs.Option.{option_to_list}
use Rattle.asn1_headers.specs.declared.header.ASN1Class.{ASN1Class}
use Rattle.asn1_headers.specs.declared.header.ASN1Class.TheVariants.{Universal}
use Rattle.asn1_headers.specs.Fault.{DecodeFault, empty_buffer, incomplete}
use Rattle.asn1_headers.specs.Header.{Encoding, shortest_identifier, shortest_length}
use Rattle.asn1_headers.specs.HeaderFault.{HeaderFault}
use Rattle.asn1_headers.specs.Indefinite.{is_indefinite}
use Rattle.asn1_der.specs.Der.{IsRightAlone}
use Rattle.asn1_der.specs.Rules.{form_rule, identifier_rule, type_rule}
use Rattle.asn1_der.specs.declared.rule.Departure.{Departure}
use Rattle.asn1_der.specs.declared.rule.Rule.{Rule}
use Rattle.asn1_der.specs.declared.rule.Rule.TheVariants.{IndefiniteLength, LongLength, NotEncodings}

-- an encoding that is open behind its header, up to its end-of-contents octets: a constructed one of the indefinite
-- form. A primitive one has to be definite (8.1.3.2); nothing tells where it ends, and it has no contents octets here
abbrev pub is_open : Bool → List ℕ → Bool
is_open constructed len = constructed && is_indefinite len

-- an encoding whose contents octets are encodings that stand by themselves: a constructed one of the definite form
abbrev pub is_looked_into : Bool → List ℕ → Bool
is_looked_into constructed len = constructed && not (is_indefinite len)

-- an encoding stands in front, or the header of one that stays open. While an encoding is open, end-of-contents octets
-- are no encoding
pub record IsNext (unended : ℕ) (octets first rest : List ℕ) : Type 0 where
  pub class : ASN1Class
  pub constructed : Bool
  pub tag : ℕ
  pub contents : List ℕ
  pub header : ℕ
  pub encoding : Encoding first class constructed tag contents header
  pub whole : octets ≡ first ++ rest
  pub no_end : 0 < unended → first ≢ 0 ∷ 0 ∷ []

-- how many encodings are open behind an encoding
abbrev pub unended_behind : (unended : ℕ) → Bool → List ℕ → ℕ
unended_behind unended constructed len = if is_open constructed len then suc unended else unended

-- the octets are encodings one after another by their headers, before which so many encodings are open
pub data AreEncodings : ℕ → List ℕ → Type 0 where
  no_more : {unended : ℕ} {octets : List ℕ} → unended ≡ 0 → octets ≡ [] → AreEncodings unended octets
  next : {unended : ℕ} {octets first rest : List ℕ} (n : IsNext unended octets first rest)
      → AreEncodings (unended_behind unended n.constructed n.encoding.len) rest → AreEncodings unended octets
  end_of_contents : {unended fewer : ℕ} {octets rest : List ℕ} → unended ≡ fewer + 1
      → octets ≡ 0 ∷ 0 ∷ rest → AreEncodings fewer rest → AreEncodings unended octets

-- the rule is found to be broken exactly if what it asks does not hold
pub data Found (Asked : Type 0) (rule : Rule) : Option Rule → Type 0 where
  kept : Asked → Found Asked rule None
  broken : (Asked → ⊥) → Found Asked rule (Some rule)

-- the rule that length octets break, if they are of the indefinite form, or not the shortest
abbrev pub LengthFound : List ℕ → ℕ → Option Rule → Type 0
LengthFound len size found =
    MatchBool (is_indefinite len)
    (found ≡ Some IndefiniteLength)
    (Found (len ≡ shortest_length size) LongLength found)

-- the rule that the tag, the form or the contents octets break. A schema alone says what other classes hold. Of an
-- encoding of the indefinite form the contents octets are not judged
abbrev pub TypeFound : (indefinite : Bool) → ASN1Class → Bool → ℕ → List ℕ → Option Rule → Type 0
TypeFound indefinite Universal constructed tag contents found =
    MatchBool indefinite (found ≡ form_rule constructed tag)
    (Found (IsRightAlone Universal constructed tag contents) (type_rule constructed tag contents) found)
TypeFound indefinite class constructed tag contents found = found ≡ None

-- what an encoding breaks by itself
pub record OwnRules (identifier len : List ℕ) (class : ASN1Class) (constructed : Bool) (tag : ℕ)
    (contents : List ℕ) : Type 0 where
  pub of_identifier : Option Rule
  pub of_length : Option Rule
  pub of_type : Option Rule
  pub identifier_found :
      Found (identifier ≡ shortest_identifier class constructed tag) (identifier_rule tag) of_identifier
  pub length_found : LengthFound len (length contents) of_length
  pub type_found : TypeFound (is_indefinite len) class constructed tag contents of_type

-- the rule for contents octets of a constructed encoding of the definite form: they are encodings (8.9.2, 8.10.2, 8.14)
abbrev pub ItemsFound : Bool → List ℕ → List ℕ → Option Rule → Type 0
ItemsFound constructed len contents found =
    MatchBool (is_looked_into constructed len) (Found (AreEncodings 0 contents) NotEncodings found) (found ≡ None)

-- all that an encoding breaks, without what encodings inside it break
pub record AreBroken (identifier len : List ℕ) (class : ASN1Class) (constructed : Bool) (tag : ℕ)
    (contents : List ℕ) (rules : List Rule) : Type 0 where
  pub own : OwnRules identifier len class constructed tag contents
  pub of_items : Option Rule
  pub items_found : ItemsFound constructed len contents of_items
  pub rules_are : rules ≡
      option_to_list own.of_identifier ++ (option_to_list own.of_length
      ++ (option_to_list own.of_type ++ option_to_list of_items))

abbrev pub listed : ℕ → Option Rule → List Departure
listed offset None = []
listed offset (Some rule) = record { offset = offset; rule = rule } ∷ []

abbrev pub own_departures :
    (offset : ℕ) {identifier len : List ℕ} {class : ASN1Class} {constructed : Bool} {tag : ℕ}
    {contents : List ℕ} → OwnRules identifier len class constructed tag contents → List Departure
own_departures offset r = listed offset r.of_identifier ++ (listed offset r.of_length ++ listed offset r.of_type)

mutual
  -- the octets, which begin at the offset, are encodings one after another, and have these departures; before them so
  -- many encodings are open
  pub data Lists : ℕ → ℕ → List ℕ → List Departure → Type 0 where
    none_left : {unended offset : ℕ} {octets : List ℕ} {found : List Departure} → unended ≡ 0 → octets ≡ []
        → found ≡ [] → Lists unended offset octets found
    encoding_listed : {unended offset : ℕ} {octets first rest : List ℕ} {inside later found : List Departure}
        (n : IsNext unended octets first rest)
        (r : OwnRules n.encoding.identifier n.encoding.len n.class n.constructed n.tag n.contents)
        → ListsInside offset (offset + n.header) (is_looked_into n.constructed n.encoding.len) n.contents inside
        → Lists (unended_behind unended n.constructed n.encoding.len) (offset + length first) rest later
        → found ≡ own_departures offset r ++ (inside ++ later) → Lists unended offset octets found
    end_listed : {unended fewer offset : ℕ} {octets rest : List ℕ} {found : List Departure}
        → unended ≡ fewer + 1 → octets ≡ 0 ∷ 0 ∷ rest
        → Lists fewer (offset + 2) rest found → Lists unended offset octets found

  -- the departures inside an encoding at the offset, whose contents octets begin at the start, if it is constructed and
  -- definite: where its contents octets are no encodings, that is the one departure
  pub data ListsInside : ℕ → ℕ → Bool → List ℕ → List Departure → Type 0 where
    nothing_inside : {offset start : ℕ} {looked_at : Bool} {contents : List ℕ} {found : List Departure}
        → looked_at ≡ false → found ≡ [] → ListsInside offset start looked_at contents found
    encodings_inside : {offset start : ℕ} {looked_at : Bool} {contents : List ℕ} {found : List Departure}
        → looked_at ≡ true → Lists 0 start contents found → ListsInside offset start looked_at contents found
    no_encodings_inside : {offset start : ℕ} {looked_at : Bool} {contents : List ℕ} {found : List Departure}
        → looked_at ≡ true → (AreEncodings 0 contents → ⊥) → found ≡ listed offset (Some NotEncodings)
        → ListsInside offset start looked_at contents found

-- the departures of octets
abbrev pub AreDepartures : List ℕ → List Departure → Type 0
AreDepartures octets found = Lists 0 0 octets found

-- behind encodings one after another, from the offset on, a header is at fault, or end-of-contents octets are missing
-- at the end
pub data HeaderFaultBehind : ℕ → ℕ → List ℕ → ℕ → DecodeFault → Type 0 where
  at_front : {unended offset : ℕ} {octets : List ℕ} {fault : DecodeFault} → 0 < length octets
      → HeaderFault offset octets fault → HeaderFaultBehind unended offset octets offset fault
  unended_at_end : {unended offset : ℕ} {octets : List ℕ} → 0 < unended → octets ≡ []
      → HeaderFaultBehind unended offset octets offset incomplete
  behind : {unended offset place : ℕ} {octets first rest : List ℕ} {fault : DecodeFault}
      (n : IsNext unended octets first rest)
      → HeaderFaultBehind (unended_behind unended n.constructed n.encoding.len) (offset + length first) rest place
      fault → HeaderFaultBehind unended offset octets place fault
  behind_end_of_contents : {unended fewer offset place : ℕ} {octets rest : List ℕ} {fault : DecodeFault}
      → unended ≡ fewer + 1 → octets ≡ 0 ∷ 0 ∷ rest
      → HeaderFaultBehind fewer (offset + 2) rest place fault → HeaderFaultBehind unended offset octets place fault

-- why octets are no encodings one after another, and at which offset: there are no octets, or it is the first of their
-- headers that is at fault. Headers inside definite encodings are not among these
abbrev pub NoEncodingsFault : List ℕ → ℕ → DecodeFault → Type 0
NoEncodingsFault octets place fault =
    ((octets ≡ []) × (place ≡ 0) × (fault ≡ empty_buffer)) ⊎ HeaderFaultBehind 0 0 octets place fault
