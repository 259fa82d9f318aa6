-- Octets that are DER have no first fault but that of a string, of too many bits or of second 60, for
-- `laws::law_der_is_read`.
use Rattle.std.proofs.Common.{◌≡◌, ℕ, ◌+◌, ◌-◌, ◌*◌, ◌<◌, ◌≤◌, ◌^◌, true, false, List, [], ◌∷◌, ◌++◌, inl, inr, length, refl, sym, ap, ◌∙◌, subst, arith, length-append, append_assoc}
use Rattle.std.proofs.lemmas.Bool.{cases_lt}
use Rattle.std.proofs.lemmas.Str.{IsUtf8-from_is_utf8}
use Rattle.asn1_headers.specs.Fault.{DecodeFault}
use Rattle.asn1_headers.specs.declared.header.ASN1Class.TheVariants.{Universal}
use Rattle.asn1_leaves.specs.Contents.BitString.{BitStringFault}
use Rattle.asn1_leaves.specs.Contents.GeneralizedTime.{GeneralizedTimeContents}
use Rattle.asn1_leaves.specs.Contents.Moment.{Moment}
use Rattle.asn1_leaves.specs.Contents.ObjectIdentifier.{ObjectIdentifierContents}
use Rattle.asn1_leaves.specs.StringKind.{StringKind, utf8, printable, teletex, ia5, universal, bmp}
use Rattle.asn1_leaves.proofs.Leaves.ObjectIdentifier.{ObjectIdentifierContents-ended}
use Rattle.asn1_leaves.proofs.Leaves.BitString.{BitStringFault-far}
use Rattle.asn1_leaves.proofs.Leaves.Boolean.{BooleanContents-one}
use Rattle.asn1_blocks.specs.Contents.{LeafFault, group_tag, leaf_tag, string_tag}
use Rattle.asn1_blocks.specs.Tree.{Leaf, boolean, integer, bit_string, octet_string, null, object_identifier, text, utc_time, generalized_time}
use Rattle.asn1_blocks.proofs.Leaves.{FaultOf, FaultOf-leaf_fault}
use Rattle.asn1_blocks.specs.Grammar.{AreBlocks, BlocksFaultAt, FirstFault, in_contents, in_header, in_item, more_blocks, no_blocks}
use Rattle.asn1_blocks.proofs.Faults.{IsEncoding-block}
use Rattle.asn1_der.specs.Contents.{HasDerContents, are_subidentifiers, is_bit_string, is_boolean}
use Rattle.asn1_der.specs.Der.{IsDer, is_constructed_type}
use Rattle.asn1_der.specs.Steps.{AreDer}
use Rattle.asn1_der.proofs.DerEncodings.{AreDer-first, AreDer-no_header_fault, IsWhole-der}
use Rattle.asn1_der.specs.Times.{IsMoment}
use Rattle.asn1_laws.specs.Refused.{IsFaultOfDer, of_bits, of_second_60, of_string}
use Rattle.asn1_laws.proofs.Encodings.{length-contents-le, length-contents-lt, IsRightAlone-group, IsRightAlone-primitive}
use Rattle.asn1_leaves.proofs.Fractions.{get_or-last_cons}
use Rattle.asn1_laws.proofs.Leaves.{EndUnpadded-subidentifiers, is_bit_string-few_unused}

-- a fault that octets of DER may have is one that longer octets may have
IsFaultOfDer-longer : (x y : List ℕ) (e : DecodeFault) → length x ≤ length y → IsFaultOfDer x e → IsFaultOfDer y e
IsFaultOfDer-longer x y e more (of_string kind contents other f) = of_string kind contents other f
IsFaultOfDer-longer x y e more (of_bits size many f) = of_bits size (omega (arith, many, more)) f
IsFaultOfDer-longer x y e more (of_second_60 contents second f) = of_second_60 contents second f

-- the contents octets of a BOOLEAN of DER are one octet
length-is_boolean : (contents : List ℕ) → is_boolean contents ≡ true → length contents ≡ 1
length-is_boolean [] t = absurd cc
length-is_boolean (b ∷ []) t = refl
length-is_boolean (b ∷ c ∷ more) t = absurd cc

-- a BIT STRING that is DER has no fault but that of too many bits
IsFaultOfDer-bit_string : (contents : List ℕ) (e : DecodeFault) → is_bit_string contents ≡ true →
    BitStringFault contents e →
    IsFaultOfDer contents e
IsFaultOfDer-bit_string [] e t f = absurd (f.0 0 [] (refl, refl))
IsFaultOfDer-bit_string (u ∷ []) e t f =
    let none : u ≡ 0 = grind (arith, t) in
    absurd (f.0 0 [] (refl, omega (arith, none), omega arith))
IsFaultOfDer-bit_string (u ∷ first ∷ more) e t f =
    let v = first ∷ more in
    elim (cases_lt (8 * length v) (2 ^ 64)) [
      | inl near ↦ absurd (f.0 (8 * length v - u) v
          (refl, omega (arith, is_bit_string-few_unused u first more t), near))
      | inr far ↦ of_bits (length (u ∷ v)) (omega (arith, far)) (f.1 ∙ sym (BitStringFault-far u v far).1)
    ]

-- subidentifiers that are DER are the contents octets of an OBJECT IDENTIFIER
are_subidentifiers-components : (contents : List ℕ) → are_subidentifiers contents ≡ true →
    (ns : List ℕ) × ObjectIdentifierContents ns contents
are_subidentifiers-components [] t = absurd cc
are_subidentifiers-components (b ∷ []) t = ObjectIdentifierContents-ended b [] (omega arith)
are_subidentifiers-components (b ∷ c ∷ more) t =
    ObjectIdentifierContents-ended b (c ∷ more)
    (omega (arith, (EndUnpadded-subidentifiers (b ∷ c ∷ more) t).last, get_or-last_cons b c more))

-- what follows from every moment that contents octets mean holds where they mean one
IsMoment-contents : (P : Type 0) (contents : List ℕ) → IsMoment contents →
    ((m : Moment) → GeneralizedTimeContents m contents → P) → P
unfolding IsMoment
IsMoment-contents P contents (m, h) f = f m h

-- a string that is DER has a fault only if it is read as UTF-8 and has another code in DER
IsFaultOfDer-text : (kind : StringKind) (contents : List ℕ) (e : DecodeFault) →
    HasDerContents (string_tag kind) contents → LeafFault (string_tag kind) contents e →
    IsFaultOfDer contents e
IsFaultOfDer-text utf8 contents e d f =
    let (cs, means) = IsUtf8-from_is_utf8 contents d.0 in
    absurd (f.none (text utf8 cs) refl means)
IsFaultOfDer-text printable contents e d f = absurd (f.none (text printable contents) refl (d.0, refl))
IsFaultOfDer-text teletex contents e d f = of_string teletex contents refl f
IsFaultOfDer-text ia5 contents e d f = absurd (f.none (text ia5 contents) refl refl)
IsFaultOfDer-text universal contents e d f = of_string universal contents refl f
IsFaultOfDer-text bmp contents e d f = of_string bmp contents refl f

-- contents octets of a kind that are DER have no fault but that of a string, of too many bits or of second 60
IsFaultOfDer-kind : (l : Leaf) (contents : List ℕ) (e : DecodeFault) → HasDerContents (leaf_tag l) contents →
    LeafFault (leaf_tag l) contents e → FaultOf l contents e → IsFaultOfDer contents e
IsFaultOfDer-kind (boolean b) contents e d f own =
    let (c, means) = BooleanContents-one contents (length-is_boolean contents d.0) in
    absurd (own.0 c means)
IsFaultOfDer-kind (integer n) contents e d f own = absurd own
IsFaultOfDer-kind (bit_string n v) contents e d f own = IsFaultOfDer-bit_string contents e d.0 own
IsFaultOfDer-kind (octet_string v) contents e d f own = absurd own
IsFaultOfDer-kind null contents e d f own = absurd own
IsFaultOfDer-kind (object_identifier ns) contents e d f own =
    let (ms, means) = are_subidentifiers-components contents d.0 in
    absurd (own.1 ms means)
IsFaultOfDer-kind (utc_time m) contents e d f own = let (n, means) = d.1 in absurd (own.0 n means)
IsFaultOfDer-kind (generalized_time m) contents e d f own = elim d.1.0 [
  | inl moment ↦ absurd (IsMoment-contents ⊥ contents moment own.0)
  | inr second ↦ of_second_60 contents second f
]
IsFaultOfDer-kind (text kind cs) contents e d f own = IsFaultOfDer-text kind contents e d f

-- contents octets that are DER have no fault but that of a string, of too many bits or of second 60
IsFaultOfDer-leaf : (n : ℕ) (contents : List ℕ) (e : DecodeFault) → HasDerContents n contents → LeafFault n contents e →
    IsFaultOfDer contents e
IsFaultOfDer-leaf n contents e d f =
    IsFaultOfDer-kind f.kind contents e (subst (λ z. HasDerContents z contents) f.of_kind d)
    (subst (λ z. LeafFault z contents e) f.of_kind f) (FaultOf-leaf_fault n contents e f)

-- the type of a string is not a constructed type
is_constructed_type-string_tag : (kind : StringKind) → is_constructed_type (string_tag kind) ≡ false
is_constructed_type-string_tag utf8 = refl
is_constructed_type-string_tag printable = refl
is_constructed_type-string_tag teletex = refl
is_constructed_type-string_tag ia5 = refl
is_constructed_type-string_tag universal = refl
is_constructed_type-string_tag bmp = refl

-- the type of a leaf is not a constructed type
is_constructed_type-leaf_tag : (l : Leaf) → is_constructed_type (leaf_tag l) ≡ false
is_constructed_type-leaf_tag (boolean b) = refl
is_constructed_type-leaf_tag (integer n) = refl
is_constructed_type-leaf_tag (bit_string n v) = refl
is_constructed_type-leaf_tag (octet_string v) = refl
is_constructed_type-leaf_tag null = refl
is_constructed_type-leaf_tag (object_identifier ns) = refl
is_constructed_type-leaf_tag (utc_time m) = refl
is_constructed_type-leaf_tag (generalized_time m) = refl
is_constructed_type-leaf_tag (text kind cs) = is_constructed_type-string_tag kind

-- a tag number is of no constructed type if contents octets have a fault of a leaf with it
is_constructed_type-leaf_fault : (n : ℕ) (contents : List ℕ) (e : DecodeFault) → LeafFault n contents e →
    is_constructed_type n ≡ false
is_constructed_type-leaf_fault n contents e f = ap is_constructed_type f.of_kind ∙ is_constructed_type-leaf_tag f.kind

-- what stands behind blocks in encodings of DER is encodings of DER
AreDer-behind_blocks : (x front rest : List ℕ) → AreBlocks front → x ≡ front ++ rest → length x < 2 ^ 64 → AreDer x →
    AreDer rest
AreDer-behind_blocks x front rest no_blocks whole small d = subst AreDer whole d
AreDer-behind_blocks x front rest (more_blocks {x = first} {rest = others} w b bs) whole small d =
    let F = IsEncoding-block first b in
    let e : x ≡ first ++ (others ++ rest) = whole ∙ (ap (λ z. z ++ rest) w ∙ append_assoc first others rest) in
    let s = AreDer-first x first (others ++ rest) F.class F.constructed F.tag F.contents F.header F.encoding e small
    d in
    AreDer-behind_blocks (others ++ rest) others rest bs refl
    (omega (arith, small, ap length e, length-append first (others ++ rest))) s.more

-- encodings of DER have no fault but that of a string, of too many bits or of second 60
IsFaultOfDer-blocks : (x : List ℕ) (e : DecodeFault) (o : ℕ) → length x < 2 ^ 64 → AreDer x → BlocksFaultAt x e o →
    IsFaultOfDer x e
IsFaultOfDer-blocks x e o small d (in_header front rest w bs some f) =
    absurd (AreDer-no_header_fault (length front) rest e (omega (arith, small, ap length w, length-append front rest))
    some f
    (AreDer-behind_blocks x front rest bs w small d))
IsFaultOfDer-blocks x e o small d
    (in_contents {contents = v} {constructed = k} {tag = n} {header = h} front y rest w bs F f) =
    let size = ap length w ∙ (length-append front (y ++ rest) ∙ ap (λ z. length front + z) (length-append y rest)) in
    let behind = AreDer-behind_blocks x front (y ++ rest) bs w small d in
    let s =
    AreDer-first (y ++ rest) y rest Universal k n v h F refl (omega (arith, small, size, length-append y rest))
    behind in
    let whole = IsWhole-der y Universal k n v h (omega (arith, small, size)) F s.der in
    let right = IsRightAlone-primitive n k v (is_constructed_type-leaf_fault n v e f) whole.alone.1 in
    IsFaultOfDer-longer v x e (omega (arith, size, length-contents-le y Universal k n v h F))
    (IsFaultOfDer-leaf n v e right.1 f)
IsFaultOfDer-blocks x e o small d
    (in_item {contents = v} {constructed = k} {header = h} {inside = i} front y rest w bs g F f) =
    let size = ap length w ∙ (length-append front (y ++ rest) ∙ ap (λ z. length front + z) (length-append y rest)) in
    let behind = AreDer-behind_blocks x front (y ++ rest) bs w small d in
    let s = AreDer-first (y ++ rest) y rest Universal k (group_tag g) v h F refl
    (omega (arith, small, size, length-append y rest)) behind in
    let part : length y < 2 ^ 64 = omega (arith, small, size) in
    let whole = IsWhole-der y Universal k (group_tag g) v h part F s.der in
    IsFaultOfDer-longer v x e (omega (arith, size, length-contents-le y Universal k (group_tag g) v h F))
    (IsFaultOfDer-blocks v e i (length-contents-lt y Universal k (group_tag g) v h F part)
    (whole.items (IsRightAlone-group g k v whole.alone.1)) f)

-- the first fault of octets that are DER, but no document, is one that DER has: of a string in another code, of a BIT
-- STRING of too many bits, or of a GeneralizedTime with second 60
pub IsFaultOfDer-document : (x : List ℕ) (e : DecodeFault) → length x < 2 ^ 64 → IsDer x → FirstFault x e →
    IsFaultOfDer x e
IsFaultOfDer-document x e small d (o, inl f) = absurd (omega (arith, d.some, ap length f.0))
IsFaultOfDer-document x e small d (o, inr f) = IsFaultOfDer-blocks x e o small (d.items, d.encodings) f
