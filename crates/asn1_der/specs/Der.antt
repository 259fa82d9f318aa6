-- DER (X.690): which octets are encodings by its rules. What needs a schema is not asked: which of the orders of 10.3
-- and 11.6 a SET has, values that are those of DEFAULT (11.5), named bits (11.2.2), sizes and other constraints. Octets
-- inside an OCTET STRING or BIT STRING are not looked at. docs/GRAMMAR.md lists in section 6 what else is not asked.
use Rattle.std.specs.Ordering.{is_gt, nat_cmp}
use Rattle.std.specs.Cmp.Lexicographic.{slice_cmp}
use Rattle.std.specs.Prelude.{◌≡◌, ◌≢◌, ◌==◌, ◌&&◌, ◌||◌, ◌⊎◌, ◌++◌, ℕ, ◌<◌, nat_lt, Bool, true, false, not, MatchBool, List, [], ◌∷◌, length}
use Rattle.asn1_headers.specs.declared.tags.TheConstants.{END_OF_CONTENTS, EXTERNAL, EMBEDDED_PDV, RESERVED, SEQUENCE, SET, CHARACTER_STRING, RELATIVE_OID_IRI}
use Rattle.asn1_headers.specs.declared.header.ASN1Class.{ASN1Class}
use Rattle.asn1_headers.specs.declared.header.ASN1Class.TheVariants.{Universal}
use Rattle.asn1_headers.specs.Header.{Encoding, class_number, shortest_identifier, shortest_length}
use Rattle.asn1_der.specs.Contents.{HasDerContents}
use Rattle.asn1_der.specs.External.{is_external, is_identified}

-- identifier octets in their shortest form (8.1.2.2, 8.1.2.4.2), length octets of the definite form in the fewest
-- octets (8.1.3, 10.1), and the contents octets
pub record IsShortest (octets : List ℕ) (class : ASN1Class) (constructed : Bool) (tag : ℕ) (contents : List ℕ)
    : Type 0 where
  pub whole : octets ≡ shortest_identifier class constructed tag ++ (shortest_length (length contents) ++ contents)

-- tag numbers of class Universal that no type has (X.680 8.4, table 1): 0, 15, and those above 36
abbrev pub is_reserved : ℕ → Bool
is_reserved tag = (tag == END_OF_CONTENTS) || (tag == RESERVED) || nat_lt RELATIVE_OID_IRI tag

-- a type that is always constructed: EXTERNAL, EMBEDDED PDV, SEQUENCE, SET, CHARACTER STRING
abbrev pub is_constructed_type : ℕ → Bool
is_constructed_type tag = (tag == EXTERNAL) || (tag == EMBEDDED_PDV) || (tag == SEQUENCE) || (tag == SET)
    || (tag == CHARACTER_STRING)

-- an encoding with this tag
pub record HasTag (octets : List ℕ) (class : ASN1Class) (tag : ℕ) : Type 0 where
  pub constructed : Bool
  pub contents : List ℕ
  pub header : ℕ
  pub encoding : Encoding octets class constructed tag contents header

-- the tag of the first stands before that of the next: by class, and in a class by number (10.3; X.680 8.6)
abbrev pub is_less_tag : ASN1Class → ℕ → ASN1Class → ℕ → Bool
is_less_tag class tag next_class next_tag =
    nat_lt (class_number class) (class_number next_class)
    || ((class_number class == class_number next_class) && nat_lt tag next_tag)

abbrev pub HasLessTag : List ℕ → List ℕ → Type 0
HasLessTag first next =
    (class : ASN1Class) × (tag : ℕ) × (next_class : ASN1Class) × (next_tag : ℕ) × HasTag first class tag
    × HasTag next next_class next_tag × (is_less_tag class tag next_class next_tag ≡ true)

-- the octets of the first are not greater than those of the next (11.6)
abbrev pub is_not_greater : List ℕ → List ℕ → Bool
is_not_greater first next = not (is_gt (slice_cmp nat_cmp first next))

abbrev pub HasNoGreaterOctets : List ℕ → List ℕ → Type 0
HasNoGreaterOctets first next = is_not_greater first next ≡ true

-- each item stands before the next in the order
abbrev pub Ascend : (List ℕ → List ℕ → Type 0) → List (List ℕ) → Type 0
Ascend MayStandBefore [] = Unit {0}
Ascend MayStandBefore (first ∷ []) = Unit {0}
Ascend MayStandBefore (first ∷ next ∷ more) = MayStandBefore first next × Ascend MayStandBefore (next ∷ more)

-- the items of a SET ascend by their tags (10.3), or by their octets (11.6): no encoding begins another one, so that
-- zeros at the end of the shorter, of which 11.6 speaks, make no difference
abbrev pub IsInOrder : List (List ℕ) → Type 0
IsInOrder items = Ascend HasLessTag items ⊎ Ascend HasNoGreaterOctets items

-- what a constructed type asks of contents octets that are these encodings, beside that each is one of DER
abbrev pub AreOfType : ℕ → List ℕ → List (List ℕ) → Type 0
AreOfType tag contents items =
    MatchBool (tag == SET) (IsInOrder items)
    (MatchBool (tag == EXTERNAL) (is_external contents ≡ true)
    (MatchBool ((tag == EMBEDDED_PDV) || (tag == CHARACTER_STRING)) (is_identified contents ≡ true) (Unit {0})))

mutual
  -- the octets are an encoding of DER
  pub data IsDerEncoding : List ℕ → Type 0 where
    -- a type that is primitive (8.2 to 8.8, 8.19 to 8.23, 8.25, 8.26; strings by 10.2)
    of_primitive_type : {octets contents : List ℕ} {tag : ℕ}
        → IsShortest octets Universal false tag contents → is_reserved tag ≡ false
        → is_constructed_type tag ≡ false → HasDerContents tag contents → IsDerEncoding octets
    -- SEQUENCE (8.9, 8.10), SET (8.11, 8.12), EXTERNAL (8.18), EMBEDDED PDV (8.17), CHARACTER STRING (8.24)
    of_constructed_type : {octets contents : List ℕ} {tag : ℕ}
        → IsShortest octets Universal true tag contents → is_constructed_type tag ≡ true
        → (items : List (List ℕ)) → AreDerEncodings contents items → AreOfType tag contents items
        → IsDerEncoding octets
    -- another class: constructed around encodings (8.14), as explicit tags are and SEQUENCE and SET behind implicit
    -- ones
    of_constructed_not_universal : {octets contents : List ℕ} {class : ASN1Class} {tag : ℕ}
        → class ≢ Universal → IsShortest octets class true tag contents
        → (items : List (List ℕ)) → AreDerEncodings contents items → IsDerEncoding octets
    -- another class, primitive: the type is not known, and any octets are right
    of_primitive_not_universal : {octets contents : List ℕ} {class : ASN1Class} {tag : ℕ}
        → class ≢ Universal → IsShortest octets class false tag contents → IsDerEncoding octets

  -- the octets are these encodings of DER, one after another, also none
  pub data AreDerEncodings : List ℕ → List (List ℕ) → Type 0 where
    no_encodings : AreDerEncodings [] []
    more_encodings : {octets first rest : List ℕ} {items : List (List ℕ)} → octets ≡ first ++ rest
        → IsDerEncoding first → AreDerEncodings rest items → AreDerEncodings octets (first ∷ items)

-- the octets are encodings of DER, one or more
pub record IsDer (octets : List ℕ) : Type 0 where
  pub some : 0 < length octets
  pub items : List (List ℕ)
  pub encodings : AreDerEncodings octets items

-- what is asked of an encoding's tag, of its form and of its contents octets, beside that the contents octets of a
-- constructed one are encodings of DER
abbrev pub IsRightAlone : ASN1Class → Bool → ℕ → List ℕ → Type 0
IsRightAlone Universal true tag contents =
    (is_constructed_type tag ≡ true)
    × ((items : List (List ℕ)) → AreDerEncodings contents items → AreOfType tag contents items)
IsRightAlone Universal false tag contents =
    (is_reserved tag ≡ false) × (is_constructed_type tag ≡ false) × HasDerContents tag contents
IsRightAlone class constructed tag contents = Unit {0}
