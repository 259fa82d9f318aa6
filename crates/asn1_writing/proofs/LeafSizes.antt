-- How many contents octets are written of a leaf, by those that came, for `leaf_size` and `size`.
use Rattle.std.proofs.Common.{◌≡◌, ◌≢◌, ℕ, suc, ◌+◌, ◌-◌, ◌<◌, ◌⊎◌, Bool, not, true, false, None, Some, Option, List, [], ◌∷◌, ◌++◌, inl, inr, length, drop, refl, sym, ap, ◌∙◌, subst, arith, length-append}
use Rattle.std.specs.Prelude.{◌==◌, ◌||◌, nat_lt, if◌then◌else◌, pos, negsuc, IfSome}
use Rattle.std.specs.List.{flat_map, slice_range}
use Rattle.std.specs.Bool.{then_some}
use Rattle.std.specs.Int.Digits.{number_from_digits}
use Rattle.std.proofs.lemmas.Bool.{false≢true, cases_eq, cases_lt, cond_below, cond_above, le-ltb, lt-ltb}
use Rattle.std.proofs.lemmas.List.Elements.{All-drop, All-take, recursion_from_All}
use Rattle.std.proofs.lemmas.Bool.Decides.{nat_tests}
use Rattle.asn1_numbers.specs.Octets.{AreOctets}
use Rattle.asn1_numbers.specs.Base128.{IsBase128, IsContinued, low_bits_number, shortest_base128}
use Rattle.asn1_numbers.specs.TwosComplement.{complement, shortest_octets, signed_number}
use Rattle.asn1_numbers.proofs.SignedNumbers.{IsShortestSigned-needed}
use Rattle.asn1_headers.specs.declared.header.ASN1Class.{ASN1Class}
use Rattle.asn1_headers.specs.declared.header.ASN1Class.TheVariants.{Universal}
use Rattle.asn1_headers.specs.Header.{Encoding}
use Rattle.asn1_headers.proofs.Prefixes.{Encoding-unique}
use Rattle.asn1_headers.proofs.Shortest.{shortest_base128-without_80}
use Rattle.asn1_leaves.specs.Contents.BitString.{bit_string_contents}
use Rattle.asn1_leaves.specs.Contents.Integer.{is_shortest_integer}
use Rattle.asn1_leaves.specs.Contents.ObjectIdentifier.{Subidentifiers}
use Rattle.asn1_leaves.specs.Contents.Text.{TextContents, text_contents, text_form}
use Rattle.asn1_leaves.specs.StringKind.{StringKind, bmp, ia5, printable, teletex, universal, utf8}
use Rattle.asn1_leaves.specs.declared.contents.text.TextForm.{TextForm}
use Rattle.asn1_leaves.specs.declared.contents.text.TextForm.TheVariants.{Octets, Printable, Utf8}
use Rattle.asn1_blocks.specs.Contents.{IsUnknownTag, LeafContents, group_tag, is_group_tag, is_known_tag, is_leaf_tag, leaf_tag, string_tag}
use Rattle.asn1_blocks.specs.Grammar.{Encodes}
use Rattle.asn1_blocks.specs.HeadersBegun.{IsReadInside}
use Rattle.asn1_blocks.specs.Tree.{Tree, explicit, group, leaf, text, unknown}
use Rattle.asn1_blocks.specs.Inner.OwnContents.{own_contents, own_fault}
use Rattle.asn1_blocks.proofs.Leaves.{IsUnknownTag-iff_not_known, is_group_tag-group_tag, leaf_write_fault-read}
use Rattle.asn1_writing.specs.Inner.Sizes.{AreWrittenOf, AreWrittenOfLeaf}
use Rattle.asn1_writing.proofs.Writable.{AreOctets-contents, AreOctets-first, AreOctets-second}

-- how many octets are left of subidentifiers without the octets 80 (hexadecimal) that they begin with, where the first
-- octet begins one, or goes on with one
abbrev pub left_of : Bool → List ℕ → ℕ
left_of begins [] = 0
left_of true (b ∷ octets) = if b == 128 then left_of true octets else suc (left_of (nat_lt b 128) octets)
left_of false (b ∷ octets) = suc (left_of (nat_lt b 128) octets)

-- an octet that is not left out is left
pub left_of-more : (begins : Bool) (b : ℕ) (octets : List ℕ) → (begins ≡ true → b ≢ 128) →
    left_of begins (b ∷ octets) ≡ suc (left_of (nat_lt b 128) octets)
left_of-more true b octets other = grind (arith, nat_tests, other refl)
left_of-more false b octets other = refl

-- of the octets of a number that do not begin with 80, all are left
left_of-all : (begins : Bool) (b : ℕ) (first rest : List ℕ) → IsContinued (b ∷ first) → (begins ≡ true → b ≢ 128) →
    left_of begins ((b ∷ first) ++ rest) ≡ length (b ∷ first) + left_of true rest
left_of-all begins b [] rest p other = omega (
  arith,
  left_of-more begins b rest other,
  ap (λ z. left_of z rest) (lt-ltb b 128 p),
)
left_of-all begins b (c ∷ first) rest p other = omega (
  arith,
  left_of-more begins b ((c ∷ first) ++ rest) other,
  ap (λ z. left_of z ((c ∷ first) ++ rest)) (le-ltb b 128 p.0),
  left_of-all false c first rest p.1 (λ e. absurd (false≢true e)),
)

-- of the octets of a number its shortest form is left
left_of-number : (first rest : List ℕ) (n : ℕ) → AreOctets first → IsBase128 first n →
    left_of true (first ++ rest) ≡ length (shortest_base128 n) + left_of true rest
left_of-number [] rest n all p = absurd p.continued
left_of-number (b ∷ []) rest n all p =
    let other : b ≢ 128 = λ e. omega (arith, e, p.continued) in
    left_of-all true b [] rest p.continued (λ _. other)
    ∙ ap (λ z. length z + left_of true rest)
    (shortest_base128-without_80 (b ∷ []) n all p (λ more e. other (cc)))
left_of-number (b ∷ c ∷ first) rest n all p = elim (cases_eq b 128) [
  | inr other ↦
      left_of-all true b (c ∷ first) rest p.continued (λ _. other)
      ∙ ap (λ z. length z + left_of true rest)
      (shortest_base128-without_80 (b ∷ c ∷ first) n all p (λ more e. other (cc)))
  | inl is ↦
      let value : n ≡ low_bits_number (c ∷ first) =
      p.value ∙ ap (λ z. low_bits_number (z ∷ c ∷ first)) is in
      ap (λ z. left_of true (z ∷ (c ∷ first) ++ rest)) is
      ∙ left_of-number (c ∷ first) rest n (All-drop (λ b. b < 256) 1 (b ∷ c ∷ first) all)
      (record { continued = p.continued.1; value = value })
]

-- of subidentifiers their shortest forms are left
pub left_of-subidentifiers : (ns octets : List ℕ) → AreOctets octets → Subidentifiers ns octets →
    left_of true octets ≡ length (flat_map shortest_base128 ns)
left_of-subidentifiers [] octets all s = ap (left_of true) s
left_of-subidentifiers (n ∷ ns) octets all (first, rest, whole, number, others) =
    let here = left_of-number first rest n (AreOctets-first octets first rest whole all) number in
    let after = left_of-subidentifiers ns rest (AreOctets-second octets first rest whole all) others in
    ap (left_of true) whole
    ∙ omega (arith, here, after, length-append (shortest_base128 n) (flat_map shortest_base128 ns))

-- not both of two are true if one of them is not
not-or : (a b : Bool) → not (a || b) ≡ true → a ≡ false
not-or true b e = absurd (false≢true e)
not-or false b e = refl

-- a tag without a rule is that of no leaf
is_leaf_tag-unknown : (n : ℕ) → IsUnknownTag n → is_leaf_tag n ≡ false
is_leaf_tag-unknown n none =
    not-or (is_leaf_tag n) (is_group_tag n) ((IsUnknownTag-iff_not_known n (is_known_tag n) refl).1 none)

-- a block that holds no others writes its own contents octets
pub AreWrittenOf-encoded : (o : ℕ) (y : List ℕ) (c : ASN1Class) (k : Bool) (n : ℕ) (v : List ℕ) (h size : ℕ)
    (t : Tree ℕ) → (IsReadInside c k n → ⊥) → Encoding y c k n v h → Encodes o y t →
    size ≡ length (own_contents t) → AreWrittenOf c n v size
AreWrittenOf-encoded o y c k n v h size (leaf p l) shut found (_, bit, w, i, own, means) is =
    let same = Encoding-unique y y c Universal k bit n (leaf_tag l) v w h i [] [] found own refl in
    inl (same.class, inr (l, same.tag, subst (LeafContents l) (sym same.contents) means, is))
AreWrittenOf-encoded o y c k n v h size (group p g bs) shut found (_, bit, w, i, own, items) is =
    let same = Encoding-unique y y c Universal k bit n (group_tag g) v w h i [] [] found own refl in
    absurd (shut (inl (same.class, ap is_group_tag same.tag ∙ is_group_tag-group_tag g)))
AreWrittenOf-encoded o y c k n v h size (explicit d p m b) shut found (_, other, w, i, own, item) is =
    let same = Encoding-unique y y c d k true n m v w h i [] [] found own refl in
    absurd (shut (inr (λ z. other (sym same.class ∙ z), same.constructed)))
AreWrittenOf-encoded o y c k n v h size (unknown d j p m w) shut found (_, i, own, stays) is =
    let same = Encoding-unique y y c d k j n m v w h i [] [] found own refl in
    let all : size ≡ length v = is ∙ sym (ap length same.contents) in
    elim stays [
      | inl (plain, none) ↦
          inl (same.class ∙ plain, inl (ap is_leaf_tag same.tag ∙ is_leaf_tag-unknown m none, all))
      | inr (other, _) ↦ inr (λ z. other (sym same.class ∙ z), all)
    ]

-- a block that was read writes its own contents octets without a fault
pub own_fault-read : (o : ℕ) (y : List ℕ) (t : Tree ℕ) → AreOctets y → Encodes o y t → own_fault t ≡ None
own_fault-read o y (leaf p l) all (_, _, contents, _, found, means) =
    leaf_write_fault-read l contents (AreOctets-contents y _ _ _ contents _ found all) means
own_fault-read o y (group p g bs) all s = refl
own_fault-read o y (explicit c p n b) all s = refl
own_fault-read o y (unknown c k p n v) all s = refl

-- a slice of octets is octets
pub AreOctets-slice_range : (x : List ℕ) (i j : ℕ) → AreOctets x → AreOctets (slice_range x i j)
AreOctets-slice_range x i j all = All-take (λ b. b < 256) (j - i) (drop i x) (All-drop (λ b. b < 256) i x all)

-- what holds of a value if it is given holds of it in the result
pub IfSome-then_some : (given : Bool) (size : ℕ) (P : ℕ → Type 0) (r : Option ℕ) → r ≡ then_some given size →
    (given ≡ true → P size) → IfSome r P
IfSome-then_some true size P r is holds = subst (λ z. IfSome z P) (sym is) (holds refl)
IfSome-then_some false size P r is holds = subst (λ z. IfSome z P) (sym is) tt

-- a tag that is none of these, and of no kind of string, is that of no leaf
is_leaf_tag-none : (n : ℕ) → n ≢ 1 → n ≢ 2 → n ≢ 3 → n ≢ 4 → n ≢ 5 → n ≢ 6 → n ≢ 23 → n ≢ 24 →
    ((kind : StringKind) → n ≡ string_tag kind → ⊥) → is_leaf_tag n ≡ false
is_leaf_tag-none n a b c d e f g h none =
    let i : n ≢ 12 = none utf8 in
    let j : n ≢ 19 = none printable in
    let k : n ≢ 20 = none teletex in
    let l : n ≢ 22 = none ia5 in
    let m : n ≢ 28 = none universal in
    let o : n ≢ 30 = none bmp in
    grind (arith, nat_tests, a, b, c, d, e, f, g, h, i, j, k, l, m, o)

-- octets that are not the shortest of an INTEGER begin with one that changes no number
pub is_shortest_integer-needless : (octets : List ℕ) → 0 < length octets → is_shortest_integer octets ≡ false →
    (1 < length octets) × (signed_number (drop 1 octets) ≡ signed_number octets)
is_shortest_integer-needless [] some is = absurd (omega (arith, some))
is_shortest_integer-needless (a ∷ []) some is = absurd (false≢true (sym is))
is_shortest_integer-needless (a ∷ b ∷ octets) some is = (
  omega arith,
  elim (cases_lt b 128) [
    | inl low ↦
        let zero_first : a ≡ 0 = grind (arith, nat_tests, low, is) in
        sym (ap (λ z. signed_number (z ∷ b ∷ octets)) zero_first
        ∙ cond_below b 128 (pos (number_from_digits 256 (b ∷ octets)))
        (negsuc (number_from_digits 256 (complement (b ∷ octets)))) low)
    | inr high ↦
        let ones_first : a ≡ 255 = grind (arith, nat_tests, high, is) in
        sym (ap (λ z. signed_number (z ∷ b ∷ octets)) ones_first
        ∙ cond_above b 128 (pos (number_from_digits 256 (b ∷ octets)))
        (negsuc (number_from_digits 256 (complement (b ∷ octets)))) _ high refl)
  ],
)

-- the shortest octets of an INTEGER are those that are written of their number
pub is_shortest_integer-written : (octets : List ℕ) → AreOctets octets → is_shortest_integer octets ≡ true →
    octets ≡ shortest_octets (signed_number octets)
is_shortest_integer-written [] all is = absurd (false≢true is)
is_shortest_integer-written (a ∷ []) all is =
    IsShortestSigned-needed a [] (recursion_from_All (λ b. b < 256) (a ∷ []) all) (λ more. absurd (omega (arith, more)))
is_shortest_integer-written (a ∷ b ∷ octets) all is =
    IsShortestSigned-needed a (b ∷ octets) (recursion_from_All (λ b. b < 256) (a ∷ b ∷ octets) all)
    (λ more e. grind (arith, nat_tests, e, is))

-- of bits, the octets that hold them are written behind one octet
pub length-bit_string_contents : (n : ℕ) (v : List ℕ) → (n ≡ 0 → ⊥) → length (bit_string_contents n v) ≡ suc (length v)
length-bit_string_contents n v some = grind (arith, nat_tests, some)

-- characters in each form have as many octets as are written of them
text_contents-same : (form : TextForm) (cs contents : List ℕ) → TextContents form cs contents →
    text_contents form cs ≡ contents
text_contents-same Utf8 cs contents p = p.1
text_contents-same Printable cs contents p = p.1
text_contents-same Octets cs contents p = p

-- as many octets are written of a string of characters, or of contents octets with the tag of no leaf, as came
pub AreWrittenOfLeaf-text : (n : ℕ) (v : List ℕ) (r : Option ℕ) → n ≢ 1 → n ≢ 2 → n ≢ 3 → n ≢ 4 → n ≢ 5 → n ≢ 6 →
    n ≢ 23 → n ≢ 24 → IfSome r (λ size. size ≡ length v) →
    IfSome r (λ _. ((kind : StringKind) → n ≡ string_tag kind → ⊥)
    ⊎ ((kind : StringKind) × (cs : List ℕ) × (n ≡ string_tag kind) × TextContents (text_form kind) cs v)) →
    IfSome r (AreWrittenOfLeaf n v)
AreWrittenOfLeaf-text n v None a b c d e f g h all meant = tt
AreWrittenOfLeaf-text n v (Some size) a b c d e f g h all (inl none) =
    inl (is_leaf_tag-none n a b c d e f g h none, all)
AreWrittenOfLeaf-text n v (Some size) a b c d e f g h all (inr (kind, cs, tag, means)) =
    inr (text kind cs, tag, means, all ∙ sym (ap length (text_contents-same (text_form kind) cs v means)))
