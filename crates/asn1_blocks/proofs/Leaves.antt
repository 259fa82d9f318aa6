-- What is known of leaves and groups by their tags, for all that reads or writes blocks: for each leaf a line that
-- names the facts of its own module. The other lemmas of the grammar build on these alone.
use Rattle.std.proofs.Common.{◌≡◌, ℕ, ◌<◌, ◌^◌, ◌==◌, ◌||◌, ◌↔◌, Bool, not, true, false, List, [], None, length, lit<, inl, inr, refl, sym, ap, ◌∙◌, subst, arith}
use Rattle.std.specs.Prelude.{pos, All, if◌then◌else◌}
use Rattle.std.proofs.lemmas.Bool.{false≢true, cases_Bool, or_cases, or_right, eqb-true}
use Rattle.asn1_blocks.specs.declared.block.GroupKind.{GroupKind}
use Rattle.asn1_blocks.specs.declared.block.GroupKind.TheVariants.{Sequence, Set}
use Rattle.asn1_headers.specs.Fault.{DecodeFault, IsOfReading}
use Rattle.asn1_headers.specs.declared.tags.TheConstants.{BIT_STRING, BMP_STRING, BOOLEAN, GENERALIZED_TIME, IA5_STRING, INTEGER, NULL, OBJECT_IDENTIFIER, OCTET_STRING, PRINTABLE_STRING, SEQUENCE, SET, TELETEX_STRING, UNIVERSAL_STRING, UTC_TIME, UTF8_STRING}
use Rattle.asn1_numbers.specs.Octets.{AreOctets}
use Rattle.asn1_numbers.specs.TwosComplement.{signed_number}
use Rattle.asn1_leaves.specs.StringKind.{StringKind, utf8, printable, teletex, ia5, universal, bmp}
use Rattle.asn1_blocks.specs.Tree.{Leaf, boolean, integer, bit_string, octet_string, null, object_identifier, text, utc_time, generalized_time}
use Rattle.asn1_blocks.specs.Contents.{string_tag, leaf_tag, group_tag, is_string_tag, is_leaf_tag, is_group_tag, is_known_tag, IsUnknownTag, IsFaithfulLeaf, LeafContents, LeafFault, leaf_contents, leaf_fault, leaf_write_fault, normalized_leaf}
use Rattle.asn1_leaves.specs.Contents.Boolean.{BooleanFault}
use Rattle.asn1_leaves.specs.Contents.BitString.{BitStringFault}
use Rattle.asn1_leaves.specs.Contents.GeneralizedTime.{GeneralizedTimeFault}
use Rattle.asn1_leaves.specs.Contents.Moment.{Moment}
use Rattle.asn1_leaves.specs.Contents.ObjectIdentifier.{ObjectIdentifierFault}
use Rattle.asn1_leaves.specs.Contents.UtcTime.{UtcTimeFault}
use Rattle.asn1_leaves.specs.Contents.Text.{text_form, TextContents, TextFault}
use Rattle.asn1_numbers.proofs.SignedNumbers.{signed_number-shortest_octets}
use Rattle.asn1_leaves.proofs.Leaves.Boolean.{BooleanContents-unique, BooleanContents-or_fault, BooleanFault-of_reading, BooleanContents-written}
use Rattle.asn1_leaves.proofs.Leaves.Integer.{IntegerContents-unique}
use Rattle.asn1_leaves.proofs.Leaves.BitString.{BitStringContents-unique, BitStringContents-or_fault, BitStringFault-of_reading, bit_string_write_fault-read, BitStringContents-written, bit_string_write_fault-faithful, IsFaithfulBitString-written, IsFaithfulBitString-read, bit_string_contents-written_bits}
use Rattle.asn1_leaves.proofs.Leaves.GeneralizedTime.{GeneralizedTimeContents-unique, GeneralizedTimeContents-or_fault, GeneralizedTimeFault-of_reading, moment_write_fault-generalized_time_read, GeneralizedTimeContents-written, moment_write_fault-faithful_generalized_time, IsFaithfulGeneralizedTime-written, IsFaithfulGeneralizedTime-read}
use Rattle.asn1_leaves.proofs.Leaves.ObjectIdentifier.{ObjectIdentifierContents-unique, ObjectIdentifierContents-or_fault, ObjectIdentifierFault-of_reading, object_identifier_write_fault-read, ObjectIdentifierContents-written, object_identifier_write_fault-faithful, IsFaithfulObjectIdentifier-written, IsFaithfulObjectIdentifier-read}
use Rattle.asn1_leaves.proofs.Leaves.UtcTime.{UtcTimeContents-unique, UtcTimeContents-or_fault, UtcTimeFault-of_reading, moment_write_fault-utc_time_read, UtcTimeContents-written, moment_write_fault-faithful_utc_time, IsFaithfulUtcTime-written, IsFaithfulUtcTime-read}
use Rattle.asn1_leaves.proofs.Leaves.Text.{TextContents-unique, TextContents-no_fault, TextContents-or_fault, TextFault-of_reading, text_write_fault-read, TextContents-written, text_write_fault-characters, HasCharacters-written, HasCharacters-read}

-- the tag of each kind of string is the tag of a string
is_string_tag-string_tag : (kind : StringKind) → is_string_tag (string_tag kind) ≡ true
is_string_tag-string_tag utf8 = refl
is_string_tag-string_tag printable = refl
is_string_tag-string_tag teletex = refl
is_string_tag-string_tag ia5 = refl
is_string_tag-string_tag universal = refl
is_string_tag-string_tag bmp = refl

-- the tag number of each kind of string is below 64
pub string_tag-lt : (kind : StringKind) → string_tag kind < 64
string_tag-lt utf8 = lit< tt
string_tag-lt printable = lit< tt
string_tag-lt teletex = lit< tt
string_tag-lt ia5 = lit< tt
string_tag-lt universal = lit< tt
string_tag-lt bmp = lit< tt

-- the kind of a string by its tag
kind_of_tag : ℕ → StringKind
kind_of_tag n =
    if n == UTF8_STRING then utf8 else if n == PRINTABLE_STRING then printable else if n == TELETEX_STRING then teletex
    else if n == IA5_STRING then ia5 else if n == UNIVERSAL_STRING then universal else bmp

-- the kind of a string is found again by its tag number
kind_of_tag-string_tag : (kind : StringKind) → kind_of_tag (string_tag kind) ≡ kind
unfolding kind_of_tag
kind_of_tag-string_tag utf8 = refl
kind_of_tag-string_tag printable = refl
kind_of_tag-string_tag teletex = refl
kind_of_tag-string_tag ia5 = refl
kind_of_tag-string_tag universal = refl
kind_of_tag-string_tag bmp = refl

-- strings of one tag are of one kind
string_tag-injective : (j k : StringKind) → string_tag j ≡ string_tag k → j ≡ k
string_tag-injective j k e = sym (kind_of_tag-string_tag j) ∙ (ap kind_of_tag e ∙ kind_of_tag-string_tag k)

-- a tag that is no string's is not that of a kind of string
is_string_tag-not_string_tag : (n : ℕ) (kind : StringKind) → is_string_tag n ≡ false → n ≡ string_tag kind → ⊥
is_string_tag-not_string_tag n kind other e =
    false≢true (sym other ∙ (ap is_string_tag e ∙ is_string_tag-string_tag kind))

-- the tag of each leaf is found to be one of leaves
pub is_leaf_tag-leaf_tag : (l : Leaf) → is_leaf_tag (leaf_tag l) ≡ true
is_leaf_tag-leaf_tag (boolean b) = refl
is_leaf_tag-leaf_tag (integer z) = refl
is_leaf_tag-leaf_tag (bit_string n v) = refl
is_leaf_tag-leaf_tag (octet_string v) = refl
is_leaf_tag-leaf_tag null = refl
is_leaf_tag-leaf_tag (object_identifier ns) = refl
is_leaf_tag-leaf_tag (text kind cs) = or_right _ (is_string_tag (string_tag kind)) (is_string_tag-string_tag kind)
is_leaf_tag-leaf_tag (utc_time m) = refl
is_leaf_tag-leaf_tag (generalized_time m) = refl

-- the tag of each group is found to be one of groups
pub is_group_tag-group_tag : (g : GroupKind) → is_group_tag (group_tag g) ≡ true
is_group_tag-group_tag Sequence = refl
is_group_tag-group_tag Set = refl

-- a group's tag is that of no leaf
is_leaf_tag-group_tag : (g : GroupKind) → is_leaf_tag (group_tag g) ≡ false
is_leaf_tag-group_tag Sequence = refl
is_leaf_tag-group_tag Set = refl

-- a tag that is found to be one of leaves is known
pub is_known_tag-is_leaf_tag : (n : ℕ) → is_leaf_tag n ≡ true → is_known_tag n ≡ true
is_known_tag-is_leaf_tag n e = ap (λ b. b || is_group_tag n) e

-- the tag of each leaf is known
pub is_known_tag-leaf_tag : (l : Leaf) → is_known_tag (leaf_tag l) ≡ true
is_known_tag-leaf_tag l = is_known_tag-is_leaf_tag (leaf_tag l) (is_leaf_tag-leaf_tag l)

-- the tag of each group is known
pub is_known_tag-group_tag : (g : GroupKind) → is_known_tag (group_tag g) ≡ true
is_known_tag-group_tag Sequence = refl
is_known_tag-group_tag Set = refl

-- a tag that is not known is unknown
IsUnknownTag-not_known : (n : ℕ) → is_known_tag n ≡ false → IsUnknownTag n
IsUnknownTag-not_known n e = (
  λ l t. false≢true (sym e ∙ (ap is_known_tag t ∙ is_known_tag-leaf_tag l)),
  λ g t. false≢true (sym e ∙ (ap is_known_tag t ∙ is_known_tag-group_tag g)),
)

-- the tag number of each leaf is below 64
leaf_tag-lt : (l : Leaf) → leaf_tag l < 64
leaf_tag-lt (boolean b) = lit< tt
leaf_tag-lt (integer n) = lit< tt
leaf_tag-lt (bit_string n v) = lit< tt
leaf_tag-lt (octet_string v) = lit< tt
leaf_tag-lt null = lit< tt
leaf_tag-lt (object_identifier ns) = lit< tt
leaf_tag-lt (text kind cs) = string_tag-lt kind
leaf_tag-lt (utc_time m) = lit< tt
leaf_tag-lt (generalized_time m) = lit< tt

-- the tag number of each group is below 64
group_tag-lt : (g : GroupKind) → group_tag g < 64
group_tag-lt Sequence = lit< tt
group_tag-lt Set = lit< tt

-- a tag number that does not fit 64 bits is unknown
pub IsUnknownTag-large : (n : ℕ) → (n < 2 ^ 64 → ⊥) → IsUnknownTag n
IsUnknownTag-large n large = (
  λ l t. large (omega (arith, t, leaf_tag-lt l)),
  λ g t. large (omega (arith, t, group_tag-lt g)),
)

-- no tag is that of a leaf and of a group
pub is_leaf_tag-not_group_tag : (n : ℕ) (g : GroupKind) → is_leaf_tag n ≡ true → n ≡ group_tag g → ⊥
is_leaf_tag-not_group_tag n g e d = false≢true (sym (is_leaf_tag-group_tag g) ∙ ap is_leaf_tag (sym d) ∙ e)

-- a leaf has the tag of no group
pub leaf_tag-not_group_tag : (l : Leaf) (g : GroupKind) → leaf_tag l ≡ group_tag g → ⊥
leaf_tag-not_group_tag l g e = is_leaf_tag-not_group_tag (leaf_tag l) g (is_leaf_tag-leaf_tag l) e

-- two leaves of one kind
abbrev AreAlike : Leaf → Leaf → Type 0
AreAlike (boolean a) (boolean b) = Unit {0}
AreAlike (integer m) (integer n) = Unit {0}
AreAlike (bit_string m v) (bit_string n w) = Unit {0}
AreAlike (octet_string v) (octet_string w) = Unit {0}
AreAlike null null = Unit {0}
AreAlike (object_identifier ms) (object_identifier ns) = Unit {0}
AreAlike (text j cs) (text k ds) = j ≡ k
AreAlike (utc_time m) (utc_time n) = Unit {0}
AreAlike (generalized_time m) (generalized_time n) = Unit {0}
AreAlike l m = ⊥

-- leaves of one tag are alike
AreAlike-same_tag : (l m : Leaf) → leaf_tag l ≡ leaf_tag m → AreAlike l m
AreAlike-same_tag (boolean a) (boolean b) e = tt
AreAlike-same_tag (integer m) (integer n) e = tt
AreAlike-same_tag (bit_string m v) (bit_string n w) e = tt
AreAlike-same_tag (octet_string v) (octet_string w) e = tt
AreAlike-same_tag null null e = tt
AreAlike-same_tag (object_identifier ms) (object_identifier ns) e = tt
AreAlike-same_tag (utc_time m) (utc_time n) e = tt
AreAlike-same_tag (generalized_time m) (generalized_time n) e = tt
AreAlike-same_tag (text j cs) (text k ds) e = string_tag-injective j k e
AreAlike-same_tag (text j cs) m e = is_string_tag-not_string_tag (leaf_tag m) j refl (sym e)
AreAlike-same_tag l (text k ds) e = is_string_tag-not_string_tag (leaf_tag l) k refl e
AreAlike-same_tag l m e = omega (arith, e)

-- contents octets of one tag mean at most one leaf
pub LeafContents-unique : (l m : Leaf) (contents : List ℕ) → leaf_tag l ≡ leaf_tag m → LeafContents l contents →
    LeafContents m contents → l ≡ m
LeafContents-unique (boolean a) (boolean b) contents e p q = ap boolean (BooleanContents-unique a b contents p q)
LeafContents-unique (integer m) (integer n) contents e p q = ap integer (IntegerContents-unique m n contents p q)
LeafContents-unique (bit_string m v) (bit_string n w) contents e p q =
    let r = BitStringContents-unique m n v w contents p q in
    cc
LeafContents-unique (octet_string v) (octet_string w) contents e p q = ap octet_string (p ∙ sym q)
LeafContents-unique null null contents e p q = refl
LeafContents-unique (object_identifier ms) (object_identifier ns) contents e p q =
    ap object_identifier (ObjectIdentifierContents-unique ms ns contents p q)
LeafContents-unique (utc_time m) (utc_time n) contents e p q = ap utc_time (UtcTimeContents-unique m n contents p q)
LeafContents-unique (generalized_time m) (generalized_time n) contents e p q =
    ap generalized_time (GeneralizedTimeContents-unique m n contents p q)
LeafContents-unique (text j cs) (text k ds) contents e p q =
    let f : j ≡ k = AreAlike-same_tag (text j cs) (text k ds) e in
    let g : cs ≡ ds = TextContents-unique (text_form j) cs ds contents p
    (subst (λ z. TextContents (text_form z) ds contents) (sym f) q) in
    cc
LeafContents-unique l m contents e p q = absurd (AreAlike-same_tag l m e)

-- the fault of contents octets of the tag of a leaf
abbrev pub FaultOf : Leaf → List ℕ → DecodeFault → Type 0
FaultOf (boolean b) contents e = BooleanFault contents e
FaultOf (integer n) contents e = ⊥
FaultOf (bit_string n v) contents e = BitStringFault contents e
FaultOf (octet_string v) contents e = ⊥
FaultOf null contents e = ⊥
FaultOf (object_identifier ns) contents e = ObjectIdentifierFault contents e
FaultOf (utc_time m) contents e = UtcTimeFault contents e
FaultOf (generalized_time m) contents e = GeneralizedTimeFault contents e
FaultOf (text kind cs) contents e = TextFault (text_form kind) contents e

-- contents octets that mean a leaf have no fault of a leaf with its tag
FaultOf-not_contents : (l m : Leaf) (contents : List ℕ) (e : DecodeFault) → leaf_tag l ≡ leaf_tag m →
    LeafContents l contents →
    FaultOf m contents e → ⊥
FaultOf-not_contents (boolean a) (boolean b) contents e t p f = f.0 a p
FaultOf-not_contents l (integer n) contents e t p f = f
FaultOf-not_contents (bit_string n v) (bit_string k w) contents e t p f = f.0 n v p
FaultOf-not_contents l (octet_string v) contents e t p f = f
FaultOf-not_contents l null contents e t p f = f
FaultOf-not_contents (object_identifier ms) (object_identifier ns) contents e t p f = f.1 ms p
FaultOf-not_contents (utc_time m) (utc_time n) contents e t p f = f.0 m p
FaultOf-not_contents (generalized_time m) (generalized_time n) contents e t p f = f.0 m p
FaultOf-not_contents (text j cs) (text k ds) contents e t p f =
    let s : j ≡ k = AreAlike-same_tag (text j cs) (text k ds) t in
    TextContents-no_fault (text_form j) cs contents e p (subst (λ z. TextFault (text_form z) contents e) (sym s) f)
FaultOf-not_contents l m contents e t p f = AreAlike-same_tag l m t

-- the fault of a string of characters by its tag
leaf_fault-text : (kind : StringKind) (contents : List ℕ) (e : DecodeFault) → TextFault (text_form kind) contents e →
    e ≡ leaf_fault (string_tag kind) contents
leaf_fault-text utf8 contents e f = f.1
leaf_fault-text printable contents e f = f.1
leaf_fault-text teletex contents e f = f.1
leaf_fault-text ia5 contents e f = absurd f
leaf_fault-text universal contents e f = f.1
leaf_fault-text bmp contents e f = f.1

-- the fault of the kind of a leaf is that of its tag
leaf_fault-kind : (l : Leaf) (contents : List ℕ) (e : DecodeFault) → FaultOf l contents e →
    e ≡ leaf_fault (leaf_tag l) contents
leaf_fault-kind (boolean b) contents e f = f.1
leaf_fault-kind (integer n) contents e f = absurd f
leaf_fault-kind (bit_string n v) contents e f = f.1
leaf_fault-kind (octet_string v) contents e f = absurd f
leaf_fault-kind null contents e f = absurd f
leaf_fault-kind (object_identifier ns) contents e f = f.0
leaf_fault-kind (utc_time m) contents e f = f.1
leaf_fault-kind (generalized_time m) contents e f = f.1
leaf_fault-kind (text kind cs) contents e f = leaf_fault-text kind contents e f

-- contents octets with the fault of the kind of a leaf have that of its tag
pub LeafFault-kind : (l : Leaf) (n : ℕ) (contents : List ℕ) (e : DecodeFault) → n ≡ leaf_tag l →
    FaultOf l contents e → LeafFault n contents e
LeafFault-kind l n contents e t f = record {
  kind = l;
  of_kind = t;
  none = λ m s p. FaultOf-not_contents m l contents e (sym s ∙ t) p f;
  is = leaf_fault-kind l contents e f ∙ ap (λ z. leaf_fault z contents) (sym t);
}

-- a moment for leaves of which the tag alone matters
pub some_moment : Moment
some_moment = record { year = pos 0; month = 1; day = 1; hour = 0; minute = 0; second = 0; nanosecond = 0 }

-- contents octets with a fault of a string of characters have that of its tag
pub LeafFault-text : (kind : StringKind) (n : ℕ) (contents : List ℕ) (e : DecodeFault) → n ≡ string_tag kind →
    TextFault (text_form kind) contents e → LeafFault n contents e
LeafFault-text kind = LeafFault-kind (text kind [])

-- contents octets with a fault of a UTCTime have that of its tag
pub LeafFault-utc_time : (n : ℕ) (contents : List ℕ) (e : DecodeFault) → n ≡ UTC_TIME → UtcTimeFault contents e →
    LeafFault n contents e
LeafFault-utc_time = LeafFault-kind (utc_time some_moment)

-- contents octets with a fault of a GeneralizedTime have that of its tag
pub LeafFault-generalized_time : (n : ℕ) (contents : List ℕ) (e : DecodeFault) → n ≡ GENERALIZED_TIME →
    GeneralizedTimeFault contents e → LeafFault n contents e
LeafFault-generalized_time = LeafFault-kind (generalized_time some_moment)

-- contents octets with the fault of a leaf have the tag of a leaf
pub LeafFault-is_leaf_tag : (n : ℕ) (contents : List ℕ) (e : DecodeFault) → LeafFault n contents e →
    is_leaf_tag n ≡ true
LeafFault-is_leaf_tag n contents e f = ap is_leaf_tag f.of_kind ∙ is_leaf_tag-leaf_tag f.kind

-- contents octets with a tag have at most one fault
pub LeafFault-unique : (n : ℕ) (contents : List ℕ) (e d : DecodeFault) → LeafFault n contents e →
    LeafFault n contents d → e ≡ d
LeafFault-unique n contents e d f g = f.is ∙ sym g.is

-- contents octets of a leaf's tag mean a leaf, or they are at fault
pub data LeafMeaning (n : ℕ) (contents : List ℕ) : Type 0 where
  means_leaf : (l : Leaf) → n ≡ leaf_tag l → LeafContents l contents → LeafMeaning n contents
  means_fault : (e : DecodeFault) → LeafFault n contents e → LeafMeaning n contents

-- contents octets mean a leaf of the leaf's kind, or have the fault of this kind
data KindMeaning (l : Leaf) (contents : List ℕ) : Type 0 where
  means_kind : (m : Leaf) → leaf_tag m ≡ leaf_tag l → LeafContents m contents → KindMeaning l contents
  means_fault_of : (e : DecodeFault) → FaultOf l contents e → KindMeaning l contents

-- contents octets mean a leaf of each kind, or are at fault
KindMeaning-total : (l : Leaf) (contents : List ℕ) → KindMeaning l contents
KindMeaning-total (boolean b) contents =
    elim (BooleanContents-or_fault contents)
    [ inl m ↦ means_kind (boolean m.0) refl m.1 | inr f ↦ means_fault_of f.0 f.1 ]
KindMeaning-total (integer z) contents = means_kind (integer (signed_number contents)) refl refl
KindMeaning-total (bit_string k v) contents =
    elim (BitStringContents-or_fault contents)
    [ inl m ↦ means_kind (bit_string m.0 m.1) refl m.2 | inr f ↦ means_fault_of f.0 f.1 ]
KindMeaning-total (octet_string v) contents = means_kind (octet_string contents) refl refl
KindMeaning-total null contents = means_kind null refl tt
KindMeaning-total (object_identifier ns) contents =
    elim (ObjectIdentifierContents-or_fault contents)
    [ inl m ↦ means_kind (object_identifier m.0) refl m.1 | inr f ↦ means_fault_of f.0 f.1 ]
KindMeaning-total (utc_time m) contents =
    elim (UtcTimeContents-or_fault contents)
    [ inl m ↦ means_kind (utc_time m.0) refl m.1 | inr f ↦ means_fault_of f.0 f.1 ]
KindMeaning-total (generalized_time m) contents =
    elim (GeneralizedTimeContents-or_fault contents)
    [ inl m ↦ means_kind (generalized_time m.0) refl m.1 | inr f ↦ means_fault_of f.0 f.1 ]
KindMeaning-total (text kind cs) contents =
    elim (TextContents-or_fault (text_form kind) contents)
    [ inl m ↦ means_kind (text kind m.0) refl m.1 | inr f ↦ means_fault_of f.0 f.1 ]

-- a fault of contents octets is that of the kind of its leaf
pub FaultOf-leaf_fault : (n : ℕ) (contents : List ℕ) (e : DecodeFault) (f : LeafFault n contents e) →
    FaultOf f.kind contents e
FaultOf-leaf_fault n contents e f = elim (KindMeaning-total f.kind contents) [
  | means_kind m t p ↦ absurd (f.none m (f.of_kind ∙ sym t) p)
  | means_fault_of d g ↦
      let same = LeafFault-unique n contents d e (LeafFault-kind f.kind n contents d f.of_kind g) f in
      subst (FaultOf f.kind contents) same g
]

-- the fault of the kind of a leaf is one of reading
FaultOf-of_reading : (l : Leaf) (contents : List ℕ) (e : DecodeFault) → FaultOf l contents e → IsOfReading e
FaultOf-of_reading (boolean b) contents e f = BooleanFault-of_reading contents e f
FaultOf-of_reading (integer n) contents e f = absurd f
FaultOf-of_reading (bit_string n v) contents e f = BitStringFault-of_reading contents e f
FaultOf-of_reading (octet_string v) contents e f = absurd f
FaultOf-of_reading null contents e f = absurd f
FaultOf-of_reading (object_identifier ns) contents e f = ObjectIdentifierFault-of_reading contents e f
FaultOf-of_reading (utc_time m) contents e f = UtcTimeFault-of_reading contents e f
FaultOf-of_reading (generalized_time m) contents e f = GeneralizedTimeFault-of_reading contents e f
FaultOf-of_reading (text kind cs) contents e f = TextFault-of_reading (text_form kind) contents e f

-- the fault of a leaf is one of reading
pub LeafFault-of_reading : (n : ℕ) (contents : List ℕ) (e : DecodeFault) → LeafFault n contents e → IsOfReading e
LeafFault-of_reading n contents e f = FaultOf-of_reading f.kind contents e (FaultOf-leaf_fault n contents e f)

-- contents octets with the tag of the leaf mean a leaf of its kind, or are at fault
LeafMeaning-same_tag : (l : Leaf) (n : ℕ) (contents : List ℕ) → n ≡ leaf_tag l → LeafMeaning n contents
LeafMeaning-same_tag l n contents t = elim (KindMeaning-total l contents) [
  | means_kind m s p ↦ means_leaf m (t ∙ sym s) p
  | means_fault_of e f ↦ means_fault e (LeafFault-kind l n contents e t f)
]

-- the tag of a string of characters is the tag of some leaf
is_string_tag-leaf : (n : ℕ) → is_string_tag n ≡ true → (l : Leaf) × (n ≡ leaf_tag l)
is_string_tag-leaf n e = elim (or_cases _ (n == BMP_STRING) e) [
  | inr a ↦ (text bmp [], eqb-true n BMP_STRING a)
  | inl e ↦ elim (or_cases _ (n == UNIVERSAL_STRING) e) [
    | inr a ↦ (text universal [], eqb-true n UNIVERSAL_STRING a)
    | inl e ↦ elim (or_cases _ (n == IA5_STRING) e) [
      | inr a ↦ (text ia5 [], eqb-true n IA5_STRING a)
      | inl e ↦ elim (or_cases _ (n == TELETEX_STRING) e) [
        | inr a ↦ (text teletex [], eqb-true n TELETEX_STRING a)
        | inl e ↦ elim (or_cases (n == UTF8_STRING) (n == PRINTABLE_STRING) e) [
          | inl a ↦ (text utf8 [], eqb-true n UTF8_STRING a)
          | inr a ↦ (text printable [], eqb-true n PRINTABLE_STRING a)
        ]
      ]
    ]
  ]
]

-- the first five of the tags of leaves are those of some leaf
leaf_tag-low : (n : ℕ) →
    ((n == BOOLEAN) || (n == INTEGER) || (n == BIT_STRING) || (n == OCTET_STRING) || (n == NULL)) ≡ true →
    (l : Leaf) × (n ≡ leaf_tag l)
leaf_tag-low n e = elim (or_cases _ (n == NULL) e) [
  | inr a ↦ (null, eqb-true n NULL a)
  | inl e ↦ elim (or_cases _ (n == OCTET_STRING) e) [
    | inr a ↦ (octet_string [], eqb-true n OCTET_STRING a)
    | inl e ↦ elim (or_cases _ (n == BIT_STRING) e) [
      | inr a ↦ (bit_string 0 [], eqb-true n BIT_STRING a)
      | inl e ↦ elim (or_cases (n == BOOLEAN) (n == INTEGER) e) [
        | inl a ↦ (boolean true, eqb-true n BOOLEAN a)
        | inr a ↦ (integer (pos 0), eqb-true n INTEGER a)
      ]
    ]
  ]
]

-- a tag of leaves is that of some leaf
is_leaf_tag-leaf : (n : ℕ) → is_leaf_tag n ≡ true → (l : Leaf) × (n ≡ leaf_tag l)
is_leaf_tag-leaf n e = elim (or_cases _ (is_string_tag n) e) [
  | inr a ↦ is_string_tag-leaf n a
  | inl e ↦ elim (or_cases _ (n == GENERALIZED_TIME) e) [
    | inr a ↦ (generalized_time some_moment, eqb-true n GENERALIZED_TIME a)
    | inl e ↦ elim (or_cases _ (n == UTC_TIME) e) [
      | inr a ↦ (utc_time some_moment, eqb-true n UTC_TIME a)
      | inl e ↦ elim (or_cases _ (n == OBJECT_IDENTIFIER) e) [
        | inr a ↦ (object_identifier [], eqb-true n OBJECT_IDENTIFIER a)
        | inl e ↦ leaf_tag-low n e
      ]
    ]
  ]
]

-- contents octets of a leaf's tag mean a leaf, or are at fault
pub LeafContents-or_fault : (n : ℕ) (contents : List ℕ) → is_leaf_tag n ≡ true → length contents < 2 ^ 64 →
    LeafMeaning n contents
LeafContents-or_fault n contents e small = let l = is_leaf_tag-leaf n e in LeafMeaning-same_tag l.0 n contents l.1

-- the tag number of a SEQUENCE or SET is that of a group
pub is_group_tag-group : (n : ℕ) → is_group_tag n ≡ true → (g : GroupKind) × (n ≡ group_tag g)
is_group_tag-group n is = elim (or_cases (n == SEQUENCE) (n == SET) is)
    [ inl b ↦ (Sequence, eqb-true n SEQUENCE b) | inr b ↦ (Set, eqb-true n SET b) ]

-- each tag is unknown, of a group or of a leaf
pub data TagKind (n : ℕ) : Type 0 where
  unknown_tag : IsUnknownTag n → TagKind n
  group_tag_of : (g : GroupKind) → n ≡ group_tag g → TagKind n
  leaf_tag_of : is_leaf_tag n ≡ true → TagKind n

-- the kind of each tag
pub TagKind-total : (n : ℕ) → TagKind n
TagKind-total n = elim (cases_Bool (is_known_tag n)) [
  | inr e ↦ unknown_tag (IsUnknownTag-not_known n e)
  | inl e ↦ elim (or_cases (is_leaf_tag n) (is_group_tag n) e) [
    | inl a ↦ leaf_tag_of a
    | inr a ↦ let (g, is) = is_group_tag-group n a in group_tag_of g is
  ]
]

-- an unknown tag is not known
pub is_known_tag-unknown : (n : ℕ) → IsUnknownTag n → is_known_tag n ≡ false
is_known_tag-unknown n u = elim (cases_Bool (is_known_tag n)) [
  | inr e ↦ e
  | inl e ↦ elim (or_cases (is_leaf_tag n) (is_group_tag n) e) [
    | inl a ↦ let l = is_leaf_tag-leaf n a in absurd (u.0 l.0 l.1)
    | inr a ↦ let (g, is) = is_group_tag-group n a in absurd (u.1 g is)
  ]
]

-- a tag is unknown exactly if the test says that it is not known
pub IsUnknownTag-iff_not_known : (n : ℕ) (known : Bool) → known ≡ is_known_tag n → (not known ≡ true) ↔ IsUnknownTag n
IsUnknownTag-iff_not_known n true e =
    (λ f. absurd (false≢true f), λ u. absurd (false≢true (sym (is_known_tag-unknown n u) ∙ sym e)))
IsUnknownTag-iff_not_known n false e = (λ t. IsUnknownTag-not_known n (sym e), λ u. refl)

-- a leaf that was read from octets can be written
pub leaf_write_fault-read : (l : Leaf) (contents : List ℕ) → All (λ b. b < 256) contents → LeafContents l contents →
    leaf_write_fault l ≡ None
leaf_write_fault-read (boolean b) contents all p = refl
leaf_write_fault-read (integer n) contents all p = refl
leaf_write_fault-read (bit_string n v) contents all p = bit_string_write_fault-read n v contents all p
leaf_write_fault-read (octet_string v) contents all p = refl
leaf_write_fault-read null contents all p = refl
leaf_write_fault-read (object_identifier ns) contents all p = object_identifier_write_fault-read ns contents all p
leaf_write_fault-read (utc_time m) contents all p = moment_write_fault-utc_time_read m contents p
leaf_write_fault-read (generalized_time m) contents all p = moment_write_fault-generalized_time_read m contents p
leaf_write_fault-read (text kind cs) contents all p = text_write_fault-read (text_form kind) cs contents all p

-- what is written of a faithful leaf means it
pub LeafContents-written : (l : Leaf) → IsFaithfulLeaf l → LeafContents l (leaf_contents l)
LeafContents-written (boolean b) f = BooleanContents-written b
LeafContents-written (integer n) f = sym (signed_number-shortest_octets n)
LeafContents-written (bit_string n v) f = BitStringContents-written n v f
LeafContents-written (octet_string v) f = refl
LeafContents-written null f = tt
LeafContents-written (object_identifier ns) f = ObjectIdentifierContents-written ns f
LeafContents-written (utc_time m) f = UtcTimeContents-written m f
LeafContents-written (generalized_time m) f = GeneralizedTimeContents-written m f
LeafContents-written (text kind cs) f = TextContents-written (text_form kind) cs f

-- a faithful leaf can be written
pub leaf_write_fault-faithful : (l : Leaf) → IsFaithfulLeaf l → leaf_write_fault l ≡ None
leaf_write_fault-faithful (boolean b) f = refl
leaf_write_fault-faithful (integer n) f = refl
leaf_write_fault-faithful (bit_string n v) f = bit_string_write_fault-faithful n v f
leaf_write_fault-faithful (octet_string v) f = refl
leaf_write_fault-faithful null f = refl
leaf_write_fault-faithful (object_identifier ns) f = object_identifier_write_fault-faithful ns f
leaf_write_fault-faithful (utc_time m) f = moment_write_fault-faithful_utc_time m f
leaf_write_fault-faithful (generalized_time m) f = moment_write_fault-faithful_generalized_time m f
leaf_write_fault-faithful (text kind cs) f = text_write_fault-characters (text_form kind) cs f

-- a leaf that can be written is faithful where what is written means it
pub IsFaithfulLeaf-written : (l : Leaf) → leaf_write_fault l ≡ None → LeafContents l (leaf_contents l) →
    IsFaithfulLeaf l
IsFaithfulLeaf-written (boolean b) w p = tt
IsFaithfulLeaf-written (integer n) w p = tt
IsFaithfulLeaf-written (bit_string n v) w p = IsFaithfulBitString-written n v w p
IsFaithfulLeaf-written (octet_string v) w p = tt
IsFaithfulLeaf-written null w p = tt
IsFaithfulLeaf-written (object_identifier ns) w p = IsFaithfulObjectIdentifier-written ns w p
IsFaithfulLeaf-written (utc_time m) w p = IsFaithfulUtcTime-written m w p
IsFaithfulLeaf-written (generalized_time m) w p = IsFaithfulGeneralizedTime-written m w p
IsFaithfulLeaf-written (text kind cs) w p = HasCharacters-written (text_form kind) cs w p

-- what is left of a leaf that was read from octets is faithful
pub IsFaithfulLeaf-read : (l : Leaf) (contents : List ℕ) → AreOctets contents → LeafContents l contents →
    IsFaithfulLeaf (normalized_leaf l)
IsFaithfulLeaf-read (boolean b) contents all p = tt
IsFaithfulLeaf-read (integer n) contents all p = tt
IsFaithfulLeaf-read (bit_string n v) contents all p = IsFaithfulBitString-read n v contents all p
IsFaithfulLeaf-read (octet_string v) contents all p = tt
IsFaithfulLeaf-read null contents all p = tt
IsFaithfulLeaf-read (object_identifier ns) contents all p = IsFaithfulObjectIdentifier-read ns contents all p
IsFaithfulLeaf-read (utc_time m) contents all p = IsFaithfulUtcTime-read m contents p
IsFaithfulLeaf-read (generalized_time m) contents all p = IsFaithfulGeneralizedTime-read m contents p
IsFaithfulLeaf-read (text kind cs) contents all p = HasCharacters-read (text_form kind) cs contents all p

-- octets of a leaf that are not left are not written
pub leaf_contents-normalized_leaf : (l : Leaf) → leaf_contents (normalized_leaf l) ≡ leaf_contents l
leaf_contents-normalized_leaf (boolean b) = refl
leaf_contents-normalized_leaf (integer n) = refl
leaf_contents-normalized_leaf (bit_string n v) = bit_string_contents-written_bits n v
leaf_contents-normalized_leaf (octet_string v) = refl
leaf_contents-normalized_leaf null = refl
leaf_contents-normalized_leaf (object_identifier ns) = refl
leaf_contents-normalized_leaf (utc_time m) = refl
leaf_contents-normalized_leaf (generalized_time m) = refl
leaf_contents-normalized_leaf (text kind cs) = refl

-- a normalized leaf has the same tag
pub leaf_tag-normalized_leaf : (l : Leaf) → leaf_tag (normalized_leaf l) ≡ leaf_tag l
leaf_tag-normalized_leaf (boolean b) = refl
leaf_tag-normalized_leaf (integer n) = refl
leaf_tag-normalized_leaf (bit_string n v) = refl
leaf_tag-normalized_leaf (octet_string v) = refl
leaf_tag-normalized_leaf null = refl
leaf_tag-normalized_leaf (object_identifier ns) = refl
leaf_tag-normalized_leaf (utc_time m) = refl
leaf_tag-normalized_leaf (generalized_time m) = refl
leaf_tag-normalized_leaf (text kind cs) = refl
