-- For `frequent` and `in_place`: encodings of frequent tags with a header of two octets are canonical.
use Rattle.std.proofs.Common.{◌≡◌, ◌≢◌, ℕ, ℤ, ◌<◌, Bool, true, false, List, [], ◌∷◌, ◌++◌, ◌⊎◌, inl, inr, length, take, get_or, refl, sym, ap, ◌∙◌, subst, arith}
use Rattle.std.proofs.Math.ListN.{get_or-eq_default}
use Rattle.std.proofs.Math.Seq.{take-append_seam}
use Rattle.std.proofs.lemmas.Bool.{cases_lt}
use Rattle.std.proofs.lemmas.List.{get_or-take, length-take}
use Rattle.asn1_numbers.specs.TwosComplement.{shortest_octets}
use Rattle.asn1_numbers.proofs.SignedNumbers.{IsShortestSigned-drop, sign_before}
use Rattle.asn1_headers.specs.Header.{Encoding, leading_octet}
use Rattle.asn1_headers.specs.declared.header.ASN1Class.{ASN1Class}
use Rattle.asn1_headers.specs.declared.header.ASN1Class.TheVariants.{Universal}
use Rattle.asn1_headers.specs.declared.tags.TheConstants.{GENERALIZED_TIME, INTEGER, OCTET_STRING, SET, UTF8_STRING}
use Rattle.asn1_leaves.specs.Contents.Integer.{IntegerContents, integer_contents}
use Rattle.asn1_leaves.specs.StringKind.{bmp, ia5, printable, teletex, universal, utf8}
use Rattle.asn1_blocks.specs.declared.block.GroupKind.{GroupKind}
use Rattle.asn1_blocks.specs.declared.block.GroupKind.TheVariants.{Sequence, Set}
use Rattle.asn1_blocks.specs.Contents.{LeafContents, group_tag, leaf_contents, leaf_tag}
use Rattle.asn1_blocks.specs.Tree.{Leaf, bit_string, boolean, generalized_time, integer, null, object_identifier, octet_string, text, utc_time}
use Rattle.asn1_blocks.proofs.Leaves.{is_leaf_tag-not_group_tag, leaf_tag-not_group_tag}
use Rattle.asn1_writing.specs.Canonical.{shortest_encoding}
use Rattle.asn1_writing.specs.Inner.CanonicalEncoding.{BeginsCanonical, IsOfOneForm}
use Rattle.asn1_writing.specs.Inner.InPlace.{AreCanonicalContents}
use Rattle.asn1_writing.proofs.InPlace.{HasCanonicalFront, HasCanonicalFront-header, append-short_header, shortest_encoding-same_fields}

-- an encoding at the front of octets that begin with a header of two octets has this header
HasCanonicalFront-short :
    (x y r rest v : List ℕ) (c : ASN1Class) (j k : Bool) (n h b p m : ℕ) → p < 31 → b ≡ leading_octet Universal k p →
    m < 128 → x ≡ b ∷ m ∷ rest → x ≡ y ++ r → Encoding y c j n v h →
    HasCanonicalFront y v [] r rest c Universal j k n p m
HasCanonicalFront-short x y r rest v c j k n h b p m low is short e whole F =
    HasCanonicalFront-header x y r v [] rest c Universal j k n p h m whole F (omega (arith, short))
    (append-short_header x rest k b p m low is short e)

-- the contents octets of an encoding with a header of two octets stand behind the header
take-front : (y v r rest : List ℕ) (c : ASN1Class) (j k : Bool) (n p m : ℕ) →
    HasCanonicalFront y v [] r rest c Universal j k n p m → v ≡ take m rest
take-front y v r rest c j k n p m f =
    sym (take-append_seam v r) ∙ ap (λ z. take (length v) z) f.whole ∙ ap (λ z. take z rest) f.size

-- an encoding with a canonical header of two octets is the shortest encoding
shortest_encoding-front : (y v r rest : List ℕ) (c : ASN1Class) (j k : Bool) (n p m : ℕ) →
    HasCanonicalFront y v [] r rest c Universal j k n p m → y ≡ shortest_encoding c j n v
shortest_encoding-front y v r rest c j k n p m f =
    f.encoding ∙ sym (shortest_encoding-same_fields c Universal j k n p v v f.class f.constructed f.tag refl)

-- octets with a header of two octets of a leaf, and canonical contents octets, begin with a canonical encoding
pub BeginsCanonical-leaf : (x rest : List ℕ) (b m : ℕ) → b < 31 → m < 128 → x ≡ b ∷ m ∷ rest →
    AreCanonicalContents Universal false b (take m rest) → BeginsCanonical x
BeginsCanonical-leaf x rest b m low short e keeps y r c j n v h whole F =
    let f = HasCanonicalFront-short x y r rest v c j false n h b b m low (omega arith) short e whole F in
    let here = take-front y v r rest c j false n b m f in
    record {
      shortest = shortest_encoding-front y v r rest c j false n b m f;
      group = λ u g t. absurd (keeps.no_group refl g (sym f.tag ∙ t));
      primitive = λ u l t. f.constructed;
      leaf = λ u l t means. here ∙ keeps.leaf refl l (sym f.tag ∙ t) (subst (LeafContents l) here means);
    }

-- octets with a header of two octets of a SEQUENCE or SET begin with a canonical encoding
BeginsCanonical-group : (x rest : List ℕ) (g : GroupKind) (b m : ℕ) → group_tag g < 31 →
    b ≡ leading_octet Universal true (group_tag g) → m < 128 → x ≡ b ∷ m ∷ rest → BeginsCanonical x
BeginsCanonical-group x rest g b m low is short e y r c j n v h whole F =
    let f = HasCanonicalFront-short x y r rest v c j true n h b (group_tag g) m low is short e whole F in
    record {
      shortest = shortest_encoding-front y v r rest c j true n (group_tag g) m f;
      group = λ u k t. f.constructed;
      primitive = λ u l t. absurd (leaf_tag-not_group_tag l g (sym t ∙ f.tag));
      leaf = λ u l t means. absurd (leaf_tag-not_group_tag l g (sym t ∙ f.tag));
    }

-- contents octets that are written of whatever INTEGER they mean are written of whatever leaf of its tag they mean
LeafContents-integer :
    (contents : List ℕ) → ((n : ℤ) → IntegerContents n contents → contents ≡ integer_contents n) → (l : Leaf) →
    2 ≡ leaf_tag l → LeafContents l contents → contents ≡ leaf_contents l
LeafContents-integer contents written (integer n) e p = written n p
LeafContents-integer contents written (object_identifier ns) e p = absurd (omega (arith, e))
LeafContents-integer contents written (boolean b) e p = absurd (omega (arith, e))
LeafContents-integer contents written (bit_string n v) e p = absurd (omega (arith, e))
LeafContents-integer contents written (octet_string v) e p = absurd (omega (arith, e))
LeafContents-integer contents written null e p = absurd (omega (arith, e))
LeafContents-integer contents written (text utf8 cs) e p = absurd (omega (arith, e))
LeafContents-integer contents written (text printable cs) e p = absurd (omega (arith, e))
LeafContents-integer contents written (text teletex cs) e p = absurd (omega (arith, e))
LeafContents-integer contents written (text ia5 cs) e p = absurd (omega (arith, e))
LeafContents-integer contents written (text universal cs) e p = absurd (omega (arith, e))
LeafContents-integer contents written (text bmp cs) e p = absurd (omega (arith, e))
LeafContents-integer contents written (utc_time m) e p = absurd (omega (arith, e))
LeafContents-integer contents written (generalized_time m) e p = absurd (omega (arith, e))

-- octets at the front of octets are octets
take-octets : (x : List ℕ) (n : ℕ) → ((k : ℕ) → get_or x k 0 < 256) → (k : ℕ) → get_or (take n x) k 0 < 256
take-octets x n small k = elim (cases_lt k n) [
  | inl lt ↦ subst (λ z. z < 256) (sym (get_or-take n x k 0 lt)) (small k)
  | inr ge ↦
      subst (λ z. z < 256) (sym (get_or-eq_default (take n x) 0 (omega (arith, ge, length-take n x)))) (omega arith)
]

-- contents octets of an INTEGER are canonical where the first is needed before the second, if there are two
pub AreCanonicalContents-integer :
    (x : List ℕ) (n : ℕ) → ((k : ℕ) → get_or x k 0 < 256) → 0 < n → 0 < length x →
    (1 < n → get_or x 0 0 ≢ sign_before (get_or x 1 0)) → AreCanonicalContents Universal false INTEGER (take n x)
AreCanonicalContents-integer x n small some more needed =
    let v = take n x in
    let first : get_or v 0 0 ≡ get_or x 0 0 = get_or-take n x 0 0 some in
    let long : 0 < length v = omega (arith, length-take n x, some, more) in
    let own : 1 < length v → get_or v 0 0 ≢ sign_before (get_or v 1 0) = λ two e.
    let several : 1 < n = omega (arith, length-take n x, two) in
    let second : get_or v 1 0 ≡ get_or x 1 0 = get_or-take n x 1 0 several in
    needed several (sym first ∙ e ∙ ap sign_before second) in
    record {
      no_group = λ u g e. is_leaf_tag-not_group_tag 2 g refl e;
      primitive = λ u l e. refl;
      leaf = λ u l e p. LeafContents-integer v (λ m q. IsShortestSigned-drop v 0 long (take-octets x n small) own
          ∙ ap shortest_octets (sym q)) l e p;
      within = λ other e. absurd (other refl);
    }

-- tag numbers of leaves with one form alone
abbrev IsPlain : ℕ → Type 0
IsPlain tag = (tag ≡ OCTET_STRING) ⊎ (tag ≡ UTF8_STRING) ⊎ ((SET < tag) × (tag < GENERALIZED_TIME))

-- no tag number outside 4, 12 and 18 to 23 has one form alone
IsPlain-no_other : (tag n : ℕ) → IsPlain tag → tag ≡ n →
    (n < 4) ⊎ ((4 < n) × (n < 12)) ⊎ ((12 < n) × (n < 18)) ⊎ (23 < n) → ⊥
IsPlain-no_other tag n (inl a) e (inl o) = omega (arith, a, e, o)
IsPlain-no_other tag n (inl a) e (inr (inl o)) = omega (arith, a, e, o.0)
IsPlain-no_other tag n (inl a) e (inr (inr (inl o))) = omega (arith, a, e, o.0)
IsPlain-no_other tag n (inl a) e (inr (inr (inr o))) = omega (arith, a, e, o)
IsPlain-no_other tag n (inr (inl a)) e (inl o) = omega (arith, a, e, o)
IsPlain-no_other tag n (inr (inl a)) e (inr (inl o)) = omega (arith, a, e, o.1)
IsPlain-no_other tag n (inr (inl a)) e (inr (inr (inl o))) = omega (arith, a, e, o.0)
IsPlain-no_other tag n (inr (inl a)) e (inr (inr (inr o))) = omega (arith, a, e, o)
IsPlain-no_other tag n (inr (inr a)) e (inl o) = omega (arith, a.0, e, o)
IsPlain-no_other tag n (inr (inr a)) e (inr (inl o)) = omega (arith, a.0, e, o.1)
IsPlain-no_other tag n (inr (inr a)) e (inr (inr (inl o))) = omega (arith, a.0, e, o.1)
IsPlain-no_other tag n (inr (inr a)) e (inr (inr (inr o))) = omega (arith, a.1, e, o)

-- contents octets of a tag number of one form are those that are written of what they mean
LeafContents-plain :
    (contents : List ℕ) (tag : ℕ) → IsPlain tag → (l : Leaf) → tag ≡ leaf_tag l → LeafContents l contents →
    contents ≡ leaf_contents l
LeafContents-plain contents tag plain (octet_string v) e p = sym p
LeafContents-plain contents tag plain (text utf8 cs) e p = sym p.1
LeafContents-plain contents tag plain (text printable cs) e p = sym p.1
LeafContents-plain contents tag plain (text teletex cs) e p = sym p.1
LeafContents-plain contents tag plain (text ia5 cs) e p = sym p
LeafContents-plain contents tag plain (text universal cs) e p = sym p.1
LeafContents-plain contents tag plain (text bmp cs) e p = sym p.1
LeafContents-plain contents tag plain (utc_time m) e p = p.1
LeafContents-plain contents tag plain (integer n) e p = absurd (IsPlain-no_other tag 2 plain e (inl (omega arith)))
LeafContents-plain contents tag plain (boolean b) e p = absurd (IsPlain-no_other tag 1 plain e (inl (omega arith)))
LeafContents-plain contents tag plain (bit_string n v) e p = absurd (IsPlain-no_other tag 3 plain e (inl (omega arith)))
LeafContents-plain contents tag plain null e p =
    absurd (IsPlain-no_other tag 5 plain e (inr (inl (omega arith, omega arith))))
LeafContents-plain contents tag plain (object_identifier ns) e p =
    absurd (IsPlain-no_other tag 6 plain e (inr (inl (omega arith, omega arith))))
LeafContents-plain contents tag plain (generalized_time m) e p =
    absurd (IsPlain-no_other tag 24 plain e (inr (inr (inr (omega arith)))))

-- no tag number of one form is that of a SEQUENCE or SET
IsPlain-no_group : (tag : ℕ) → IsPlain tag → (g : GroupKind) → tag ≡ group_tag g → ⊥
IsPlain-no_group tag plain Sequence e =
    IsPlain-no_other tag 16 plain e (inr (inr (inl (omega arith, omega arith))))
IsPlain-no_group tag plain Set e = IsPlain-no_other tag 17 plain e (inr (inr (inl (omega arith, omega arith))))

-- contents octets of a tag number of one form are canonical
AreCanonicalContents-plain : (tag : ℕ) (contents : List ℕ) → IsPlain tag →
    AreCanonicalContents Universal false tag contents
AreCanonicalContents-plain tag contents plain = record {
  no_group = λ u g e. IsPlain-no_group tag plain g e;
  primitive = λ u l e. refl;
  leaf = λ u l e p. LeafContents-plain contents tag plain l e p;
  within = λ other e. absurd (other refl);
}

-- octets with a header of two octets of a tag number of one form begin with a canonical encoding
BeginsCanonical-plain : (x rest : List ℕ) (b m : ℕ) → m < 128 → x ≡ b ∷ m ∷ rest → IsPlain b → b < 31 →
    BeginsCanonical x
BeginsCanonical-plain x rest b m short e plain low =
    BeginsCanonical-leaf x rest b m low short e (AreCanonicalContents-plain b (take m rest) plain)

-- octets with a header of two octets, whose contents octets have one form alone, begin with a canonical encoding
pub BeginsCanonical-one_form : (x rest : List ℕ) (b m : ℕ) → IsOfOneForm b → m < 128 → x ≡ b ∷ m ∷ rest →
    BeginsCanonical x
BeginsCanonical-one_form x rest b m is short e = elim is [
  | inl at ↦ BeginsCanonical-group x rest Sequence b m (omega arith) (omega (arith, at)) short e
  | inr (inl at) ↦ BeginsCanonical-group x rest Set b m (omega arith) (omega (arith, at)) short e
  | inr (inr (inl at)) ↦ BeginsCanonical-plain x rest b m short e (inl at) (omega (arith, at))
  | inr (inr (inr (inl at))) ↦ BeginsCanonical-plain x rest b m short e (inr (inl at)) (omega (arith, at))
  | inr (inr (inr (inr (inl at)))) ↦
      BeginsCanonical-plain x rest b m short e (inr (inr (omega (arith, at), omega (arith, at)))) (omega (arith, at))
  | inr (inr (inr (inr (inr (inl at))))) ↦
      BeginsCanonical-plain x rest b m short e (inr (inr (omega (arith, at), omega (arith, at)))) (omega (arith, at))
  | inr (inr (inr (inr (inr (inr at))))) ↦
      BeginsCanonical-plain x rest b m short e (inr (inr (omega (arith, at), omega (arith, at)))) (omega (arith, at))
]
