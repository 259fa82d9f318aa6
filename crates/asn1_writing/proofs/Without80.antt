-- Contents octets of an OBJECT IDENTIFIER none of which is 80 (hexadecimal) are canonical, for
-- `in_place::begin_with_identifier`.
use Rattle.std.proofs.Common.{◌≡◌, ◌≢◌, ℕ, suc, ◌+◌, ◌-◌, ◌<◌, ◌≤◌, ◌%◌, ◌^◌, true, false, List, [], ◌∷◌, ◌∙◌, ap, eqb, get_or, length, map, not, refl, replicate, sym, arith, inl, inr}
use Rattle.std.proofs.lemmas.Bool.{both_ways, cases_lt, eqb-true, not-true}
use Rattle.std.proofs.lemmas.List.{get_or-map, length-map}
use Rattle.std.proofs.lemmas.List.Sums.{prefix_len_passes}
use Rattle.std.proofs.lemmas.Simd.{get_or-chunk, leading_from_mask_l, length-chunk, mask_l-mod, zip2_splat}
use lib.Lanes.{chunk, mask_l, top, zip2}
use Rattle.asn1_numbers.specs.Octets.{AreOctets}
use Rattle.asn1_headers.specs.declared.header.ASN1Class.TheVariants.{Universal}
use Rattle.asn1_headers.specs.declared.tags.TheConstants.{OBJECT_IDENTIFIER}
use Rattle.asn1_leaves.specs.Contents.ObjectIdentifier.{ObjectIdentifierContents, object_identifier_contents}
use Rattle.asn1_leaves.specs.StringKind.{bmp, ia5, printable, teletex, universal, utf8}
use Rattle.asn1_leaves.proofs.Leaves.ObjectIdentifier.{ObjectIdentifierContents-unended}
use Rattle.asn1_leaves.proofs.ShortSubidentifiers.{NoneLeads-object_identifier_contents, NoneLeads-without_80}
use Rattle.asn1_blocks.specs.Contents.{LeafContents, leaf_contents, leaf_tag}
use Rattle.asn1_blocks.specs.Tree.{Leaf, bit_string, boolean, generalized_time, integer, null, object_identifier, octet_string, text, utc_time}
use Rattle.asn1_blocks.proofs.Leaves.{leaf_tag-not_group_tag}
use Rattle.asn1_writing.specs.Inner.InPlace.{AreCanonicalContents}

-- none of the first 16 octets is 80, where no lane of their comparison with 80 is set
pub none_is_80-lanes :
    (octets : List ℕ) (hit : ℕ → ℕ → ℕ) → 16 ≤ length octets →
    eqb (mask_l (map (top 7) (zip2 hit (chunk 0 16 octets) (replicate 16 128))) % 2 ^ 64) 0 ≡ true →
    top 7 (hit 128 128) ≡ true → (k : ℕ) → k < 16 → get_or octets k 0 ≢ 128
none_is_80-lanes octets hit room none hits k small found =
    let here = chunk 0 16 octets in
    let long : length here ≡ 16 = length-chunk 0 16 octets (omega (arith, room)) in
    let lanes = map (λ x. hit x 128) here in
    let size : length lanes ≡ 16 = length-map here (λ x. hit x 128) ∙ long in
    let mask = ap (λ l. mask_l (map (top 7) l) % 2 ^ 64) (zip2_splat hit here 16 128 long)
    ∙ mask_l-mod (map (top 7) lanes) 64 (omega (arith, size, length-map lanes (top 7))) in
    let whole = leading_from_mask_l (top 7) lanes (sym mask ∙ eqb-true _ 0 none) in
    let clear : top 7 (get_or lanes k 0) ≡ false =
    not-true _ (prefix_len_passes (λ x. not (top 7 x)) lanes k 0 (omega (arith, small, size, whole))) in
    let here_is : 0 + k ≡ k = omega arith in
    let lane = get_or-map (λ x. hit x 128) here k 0 0 (omega (arith, small, long))
    ∙ ap (λ x. hit x 128) (get_or-chunk 0 16 octets k 0 (omega (arith, small))
    ∙ ap (λ i. get_or octets i 0) here_is ∙ found) in
    absurd (both_ways _ clear (ap (top 7) lane ∙ hits))

-- octets that mean components, and none of which is 80, are those that are written of them
ObjectIdentifierContents-without_80 :
    (contents : List ℕ) → AreOctets contents → ((k : ℕ) → k < length contents → get_or contents k 0 ≢ 128) →
    (ns : List ℕ) → ObjectIdentifierContents ns contents → contents ≡ object_identifier_contents ns
ObjectIdentifierContents-without_80 [] all none [] p = absurd p
ObjectIdentifierContents-without_80 [] all none (x ∷ []) p = absurd p
ObjectIdentifierContents-without_80 [] all none (x ∷ y ∷ ns) p = absurd (omega (arith, ap length p.2))
ObjectIdentifierContents-without_80 (b ∷ octets) all none ns p =
    elim (cases_lt (get_or octets (length octets - 1) 0) 128) [
      | inl low ↦
          NoneLeads-object_identifier_contents ns b octets all
          (NoneLeads-without_80 true octets (λ k h. none (suc k) (omega (arith, h))) (λ _. refl) (λ _. low)) p
      | inr high ↦ absurd (ObjectIdentifierContents-unended b octets high ns p)
    ]

-- contents octets that are written of whatever OBJECT IDENTIFIER they mean are written of whatever leaf of its tag they
-- mean
LeafContents-identifier :
    (contents : List ℕ) →
    ((ns : List ℕ) → ObjectIdentifierContents ns contents → contents ≡ object_identifier_contents ns) →
    (l : Leaf) → 6 ≡ leaf_tag l → LeafContents l contents → contents ≡ leaf_contents l
LeafContents-identifier contents written (object_identifier ns) e p = written ns p
LeafContents-identifier contents written (boolean b) e p = absurd (omega (arith, e))
LeafContents-identifier contents written (integer n) e p = absurd (omega (arith, e))
LeafContents-identifier contents written (bit_string n v) e p = absurd (omega (arith, e))
LeafContents-identifier contents written (octet_string v) e p = absurd (omega (arith, e))
LeafContents-identifier contents written null e p = absurd (omega (arith, e))
LeafContents-identifier contents written (text utf8 cs) e p = absurd (omega (arith, e))
LeafContents-identifier contents written (text printable cs) e p = absurd (omega (arith, e))
LeafContents-identifier contents written (text teletex cs) e p = absurd (omega (arith, e))
LeafContents-identifier contents written (text ia5 cs) e p = absurd (omega (arith, e))
LeafContents-identifier contents written (text universal cs) e p = absurd (omega (arith, e))
LeafContents-identifier contents written (text bmp cs) e p = absurd (omega (arith, e))
LeafContents-identifier contents written (utc_time m) e p = absurd (omega (arith, e))
LeafContents-identifier contents written (generalized_time m) e p = absurd (omega (arith, e))

-- contents octets of an OBJECT IDENTIFIER none of which is 80 are canonical
pub AreCanonicalContents-identifier :
    (contents : List ℕ) → AreOctets contents → ((k : ℕ) → k < length contents → get_or contents k 0 ≢ 128) →
    AreCanonicalContents Universal false OBJECT_IDENTIFIER contents
AreCanonicalContents-identifier contents all none = record {
  no_group = λ u g e. leaf_tag-not_group_tag (object_identifier []) g e;
  primitive = λ u l e. refl;
  leaf = λ u l e p. LeafContents-identifier contents (ObjectIdentifierContents-without_80 contents all none) l e p;
  within = λ other e. absurd (other refl);
}
