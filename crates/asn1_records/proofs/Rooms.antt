-- How much room texts of numbers need at most, for `simple_asn1_dotted`, `simple_asn1_oid` and `simple_asn1_tag`.
use Rattle.std.proofs.Common.{◌≡◌, ℕ, zero, suc, ◌+◌, ◌*◌, ◌^◌, ◌%◌, ◌<◌, ◌≤◌, ◌++◌, Bool, List, [], ◌∷◌, length, map, inl, inr, refl, ap, subst, ◌∙◌, arith, length-append}
use Rattle.std.specs.Int.Digits.{digits_of, number_from_digits}
use Rattle.std.specs.List.{join_with_byte}
use Rattle.std.specs.Str.{byte}
use Rattle.std.proofs.lemmas.Int.Digits.{length-digits_of-le, number_lt}
use Rattle.std.proofs.lemmas.List.{length-map, take_at}
use Rattle.std.proofs.lemmas.List.Elements.{All-drop, All-head, All-take}
use Rattle.std.proofs.lemmas.Nat.{pow-add}
use Rattle.asn1_headers.specs.Header.{IsIdentifier}
use Rattle.asn1_headers.specs.declared.header.ASN1Class.{ASN1Class}
use Rattle.asn1_headers.specs.declared.header.ASN1Class.TheVariants.{Universal}
use Rattle.asn1_leaves.specs.Contents.ObjectIdentifier.{ObjectIdentifierContents, Subidentifiers}
use Rattle.asn1_numbers.proofs.Numerals.{natural_numeral-positive}
use Rattle.asn1_numbers.specs.Base128.{IsBase128}
use Rattle.asn1_numbers.specs.Decimal.{natural_numeral}
use Rattle.asn1_numbers.specs.Octets.{AreOctets}
use Rattle.simple_asn1.specs.DottedDecimal.{dotted_decimal}
use Rattle.simple_asn1.specs.Places.{EncodingAt}
use Rattle.simple_asn1.specs.Tree.{object_identifier}
use Rattle.asn1_blocks.proofs.Slices.{EncodingAt-unique}
use Rattle.asn1_headers.proofs.Prefixes.{Encoding-unique}
use Rattle.asn1_records.proofs.Headers.{drop-header}
use Rattle.asn1_records.proofs.OffsetLeaves.{HasLeafAt-leaf, UniversalAt-unique}
use Rattle.asn1_records.specs.Contents.{AnswersDotted, AnswersTag, had_no_memory_for_components, had_no_memory_for_tag, mean_components, mean_no_components, no_tag_was_found, tag_is_too_long, tag_was_found}
use Rattle.asn1_records.specs.Values.{AnswersIdentifier, UniversalAt, identifier_is_missing, identifier_is_too_long, identifier_was_found}
use Rattle.asn1_records.specs.declared.record.Outcome.{Outcome}
use Rattle.asn1_headers.proofs.Shortest.{AllBelowBase-low_bits}

-- seven bits take three digits at most
power-three_digits : (k : ℕ) → 128 ^ k ≤ 10 ^ (3 * k)
power-three_digits zero = omega arith
power-three_digits (suc k) =
    let one : suc k ≡ 1 + k = omega arith in
    let three : 3 * suc k ≡ 3 + 3 * k = omega arith in
    let a : 128 ^ suc k ≡ 128 * 128 ^ k = ap (λ z. 128 ^ z) one ∙ pow-add 128 1 k in
    let b : 10 ^ (3 * suc k) ≡ 1000 * 10 ^ (3 * k) = ap (λ z. 10 ^ z) three ∙ pow-add 10 3 (3 * k) in
    omega (arith, a, b, power-three_digits k)

-- the octets of a base-128 number are not empty
IsBase128-not_empty : (s : List ℕ) (n : ℕ) → IsBase128 s n → 0 < length s
IsBase128-not_empty [] n h = absurd h.continued
IsBase128-not_empty (b ∷ s) n h = omega arith

-- the numeral of 0 has one digit
length-numeral_of_zero : length (natural_numeral 0) ≡ 1
length-numeral_of_zero = refl

-- the numeral of a number below a power of 10 has at most as many digits as the exponent says
length-numeral_le : (n k : ℕ) → 0 < k → n < 10 ^ k → length (natural_numeral n) ≤ k
length-numeral_le zero k some small = omega (arith, some, length-numeral_of_zero)
length-numeral_le (suc n) k some small =
    let digits = digits_of 10 (suc n) in
    let text = ap length (natural_numeral-positive (suc n) (omega arith)) ∙ length-map digits (λ d. 48 + d) in
    omega (arith, text, length-digits_of-le 10 k (suc n) (omega arith) small)

-- the numeral of a base-128 number has at most three digits an octet
pub length-base128_numeral_le : (s : List ℕ) (n : ℕ) → IsBase128 s n → length (natural_numeral n) ≤ 3 * length s
length-base128_numeral_le s n h =
    let digits = map (λ b. b % 128) s in
    let below : number_from_digits 128 digits < 128 ^ length digits = number_lt 128 digits (AllBelowBase-low_bits s) in
    let many : length digits ≡ length s = length-map s (λ b. b % 128) in
    let power : 128 ^ length digits ≡ 128 ^ length s = ap (λ z. 128 ^ z) many in
    let small : n < 10 ^ (3 * length s) = omega (arith, h.value, below, power, power-three_digits (length s)) in
    let some : 0 < 3 * length s = omega (arith, IsBase128-not_empty s n h) in
    length-numeral_le n (3 * length s) some small

-- texts of numbers with a point before each take at most four octets for each octet
length-join_numerals_le : (first : List ℕ) (ns v : List ℕ) → Subidentifiers ns v
    → length (join_with_byte (byte ".") (first ∷ map natural_numeral ns)) ≤ length first + 4 * length v
length-join_numerals_le first [] v h = omega arith
length-join_numerals_le first (n ∷ ns) v (s, rest, whole, is, others) =
    let text = natural_numeral n in
    let more = length-join_numerals_le text ns rest others in
    let own = length-base128_numeral_le s n is in
    let some = IsBase128-not_empty s n is in
    let joined : length (join_with_byte (byte ".") (first ∷ text ∷ map natural_numeral ns))
    ≡ length first + suc (length (join_with_byte (byte ".") (text ∷ map natural_numeral ns))) =
    length-append first (byte "." ∷ join_with_byte (byte ".") (text ∷ map natural_numeral ns)) in
    omega (arith, joined, more, own, some, ap length whole, length-append s rest)

-- the text of components has at most four octets for each contents octet, and one
pub length-dotted_decimal_le : (ns v : List ℕ) → AreOctets v → ObjectIdentifierContents ns v →
    length (dotted_decimal ns) ≤ 4 * length v + 1
length-dotted_decimal_le [] v all h = absurd h
length-dotted_decimal_le (x ∷ []) v all h = absurd h
length-dotted_decimal_le (x ∷ y ∷ ns) v all (b, rest, whole, (number, low, side), others) =
    let octet : b < 256 = All-head (λ b. b < 256) b rest (subst AreOctets whole all) in
    let small : y < 10 ^ 3 = omega (arith, number, octet) in
    let one : length (natural_numeral x) ≤ 1 = length-numeral_le x 1 (omega arith) (omega (arith, low)) in
    let two : length (natural_numeral y) ≤ 3 = length-numeral_le y 3 (omega arith) small in
    let first = natural_numeral x in
    let text = natural_numeral y in
    let more = length-join_numerals_le text ns rest others in
    let joined : length (join_with_byte (byte ".") (first ∷ text ∷ map natural_numeral ns))
    ≡ length first + suc (length (join_with_byte (byte ".") (text ∷ map natural_numeral ns))) =
    length-append first (byte "." ∷ join_with_byte (byte ".") (text ∷ map natural_numeral ns)) in
    omega (arith, joined, more, one, two, ap length whole)

-- what is put of components is at most four octets for each contents octet, and one
pub count-dotted_le : (v before after : List ℕ) (o : Outcome) → AreOctets v → AnswersDotted v before after o →
    o.count ≤ 4 * length v + 1
count-dotted_le v before after o all (inl (few, mean_components ns is put)) =
    omega (arith, put.0, length-dotted_decimal_le ns v all is)
count-dotted_le v before after o all (inl (few, mean_no_components fault is put)) = omega (arith, put.2)
count-dotted_le v before after o all (inl (few, had_no_memory_for_components put)) = omega (arith, put.2)
count-dotted_le v before after o all (inr (many, put)) = omega (arith, put.2)

-- the contents octets of what stands at an offset are octets
AreOctets-contents_at : (octets : List ℕ) (offset tag : ℕ) (v : List ℕ) → AreOctets octets →
    UniversalAt octets offset tag v →
    AreOctets v
AreOctets-contents_at octets offset tag v all u =
    let whole = u.whole in
    let here : AreOctets (whole ++ u.at.rest) =
    subst AreOctets u.at.at_offset (All-drop (λ b. b < 256) offset octets all) in
    let front : AreOctets whole =
    subst AreOctets (take_at whole u.at.rest (length whole) refl)
    (All-take (λ b. b < 256) (length whole) (whole ++ u.at.rest) here) in
    subst AreOctets (drop-header whole Universal u.constructed tag v u.header u.encoding)
    (All-drop (λ b. b < 256) u.header whole front)

-- the text of an identifier has at most four octets for each of its contents octets, and one
pub count-identifier_le : (octets : List ℕ) (offset : ℕ) (before after : List ℕ) (o : Outcome) → AreOctets octets
    → AnswersIdentifier octets offset before after o → (tag : ℕ) (v : List ℕ) → UniversalAt octets offset tag v →
    o.count ≤ 4 * length v + 1
count-identifier_le octets offset before after o all (identifier_was_found ns is contents here few put) tag v u =
    let w = HasLeafAt-leaf octets offset (object_identifier ns) is in
    let same : w.contents ≡ v = (UniversalAt-unique octets offset 6 tag w.contents v w.universal u).1 in
    let means = subst (ObjectIdentifierContents ns) same w.meaning in
    omega (arith, put.0, length-dotted_decimal_le ns v (AreOctets-contents_at octets offset tag v all u) means)
count-identifier_le octets offset before after o all (identifier_is_too_long contents here many status place count same)
    tag v u =
    omega (arith, count)
count-identifier_le octets offset before after o all (identifier_is_missing missing place count same) tag v u =
    omega (arith, count)

-- the numeral of a tag number has at most three digits for each identifier octet
length-tag_numeral_le : (s : List ℕ) (c : ASN1Class) (k : Bool) (n : ℕ) → IsIdentifier s c k n →
    length (natural_numeral n) ≤ 3 * length s
length-tag_numeral_le [] c k n h = absurd h
length-tag_numeral_le (b ∷ []) c k n h = length-numeral_le n 3 (omega arith) (omega (arith, h.0))
length-tag_numeral_le (b ∷ d ∷ s) c k n h = omega (arith, length-base128_numeral_le (d ∷ s) n h.1)

-- the text of a tag number has at most three octets for each octet of the header
pub count-tag_le : (octets : List ℕ) (offset : ℕ) (before after : List ℕ) (o : Outcome) →
    AnswersTag octets offset before after o
    → (x : List ℕ) → (at : EncodingAt octets offset x) → o.count ≤ 3 * at.encoding.header
count-tag_le octets offset before after o
    (tag_was_found tag (y, there, class, constructed, contents, header, e) own_octets here few put) x at =
    let same : y ≡ x = EncodingAt-unique octets offset y x there at in
    let f = at.encoding.encoding in
    let own = at.encoding in
    let z = Encoding-unique y x class own.class constructed own.constructed tag own.tag contents own.contents header
    own.header [] [] e f
    (ap (λ w. w ++ []) same) in
    let room = length-tag_numeral_le e.identifier class constructed tag e.identifier_octets in
    omega (arith, put.0, room, e.size, z.header)
count-tag_le octets offset before after o (tag_is_too_long own_octets here many status place count same) x at =
    omega (arith, count)
count-tag_le octets offset before after o (no_tag_was_found none status place count same) x at = omega (arith, count)
count-tag_le octets offset before after o (had_no_memory_for_tag status place count same) x at = omega (arith, count)
