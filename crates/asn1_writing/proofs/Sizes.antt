-- The items of frames count what is written of their trees, for `size`.
use Rattle.std.proofs.Common.{◌≡◌, ◌≢◌, ℕ, ◌+◌, ◌-◌, ◌<◌, ◌≤◌, Bool, true, false, List, [], ◌∷◌, ◌++◌, inl, inr, length, refl, sym, ap, ◌∙◌, subst, arith, append-nil, length-append}
use Rattle.std.specs.List.{slice_range}
use Rattle.std.proofs.lemmas.Bool.{false≢true, cases_lt, cond_below, cond_above}
use Rattle.asn1_numbers.specs.Base128.{shortest_base128}
use Rattle.asn1_headers.specs.declared.header.ASN1Class.{ASN1Class}
use Rattle.asn1_headers.specs.declared.header.ASN1Class.TheVariants.{Universal}
use Rattle.asn1_headers.specs.Header.{Encoding, leading_octet, shortest_identifier, shortest_length}
use Rattle.asn1_headers.proofs.Prefixes.{Encoding-unique}
use Rattle.asn1_blocks.specs.declared.block.GroupKind.{GroupKind}
use Rattle.asn1_blocks.specs.declared.parsed.PlacedHeader.{PlacedHeader}
use Rattle.asn1_blocks.specs.declared.read_loop.Attempt as other
use Rattle.asn1_blocks.specs.declared.read_loop.Extent.{Extent}
use Rattle.asn1_blocks.specs.declared.read_loop.FrameKind.{FrameKind}
use Rattle.asn1_blocks.specs.declared.read_loop.FrameKind.TheVariants.{Attempt, Group, Whole}
use Rattle.asn1_blocks.specs.declared.read_loop.OpenFrame.{OpenFrame}
use Rattle.asn1_blocks.specs.Contents.{IsUnknownTag, group_tag, is_group_tag, leaf_contents, leaf_tag}
use Rattle.asn1_blocks.specs.Grammar.{Encodes}
use Rattle.asn1_blocks.specs.HeadersBegun.{IsReadInside}
use Rattle.asn1_blocks.specs.Places.{HeaderFound, IsEncodingBetween}
use Rattle.asn1_blocks.specs.Tree.{Tree, group, leaf, trees_of, unknown}
use Rattle.asn1_blocks.specs.Inner.OpenFrames.{IsAttemptAt, IsEnded, IsGroupAt, IsHeaded, as_it_came, attempt_tree}
use Rattle.asn1_blocks.specs.Inner.ReaderSteps.{EndsAs, HasEndedIn, HasKept, HasLeaf, HasOpened, in_frame}
use Rattle.asn1_blocks.proofs.Leaves.{TagKind-total, group_tag_of, is_group_tag-group_tag, leaf_tag_of, unknown_tag}
use Rattle.asn1_blocks.proofs.ReadSteps.{length-slice_range}
use Rattle.asn1_writing.specs.Canonical.{all_canonical, canonical, shortest_encoding}
use Rattle.asn1_writing.specs.Inner.Sizes.{AreCounted, AreWrittenOf, HasBlockMore, all_counted, sizes_hold}
use Rattle.asn1_writing.specs.declared.size.SizeBuilder.{SizeBuilder}
use Rattle.asn1_writing.specs.declared.size.WrittenItems.{WrittenItems}

-- the shortest encoding has the octets of its header and its contents octets
length-shortest_encoding : (c : ASN1Class) (k : Bool) (n : ℕ) (v : List ℕ) → length (shortest_encoding c k n v)
    ≡ length (shortest_identifier c k n) + (length (shortest_length (length v)) + length v)
length-shortest_encoding c k n v = omega (
  arith,
  length-append (shortest_identifier c k n) (shortest_length (length v) ++ v),
  length-append (shortest_length (length v)) v,
)

-- the same, where the sizes of its identifier octets and its contents octets are known
length-shortest_encoding-parts : (c : ASN1Class) (k : Bool) (n : ℕ) (v : List ℕ) (identifier contents : ℕ) →
    identifier ≡ length (shortest_identifier c k n) → contents ≡ length v →
    length (shortest_encoding c k n v) ≡ identifier + (length (shortest_length contents) + contents)
length-shortest_encoding-parts c k n v identifier contents i s =
    length-shortest_encoding c k n v ∙ (λ u. sym i u + (length (shortest_length (sym s u)) + sym s u))

-- how many identifier octets there are depends on the tag number alone
length-shortest_identifier-same_tag : (c d : ASN1Class) (j k : Bool) (n : ℕ) →
    length (shortest_identifier c j n) ≡ length (shortest_identifier d k n)
length-shortest_identifier-same_tag c d j k n =
    let short = leading_octet c j n ∷ [] in
    let long = leading_octet c j 31 ∷ shortest_base128 n in
    let other_short = leading_octet d k n ∷ [] in
    let other_long = leading_octet d k 31 ∷ shortest_base128 n in
    elim (cases_lt n 31) [
      | inl lt ↦ sym (ap length (cond_below n 31 short long lt)) ∙ ap length (cond_below n 31 other_short other_long lt)
      | inr ge ↦
          sym (ap length (cond_above n 31 short long long ge refl))
          ∙ ap length (cond_above n 31 other_short other_long other_long ge refl)
    ]

-- what is written of trees and one more
length-all_canonical-push : (ts : List (Tree ℕ)) (t : Tree ℕ) → length (all_canonical (trees_of (ts ++ t ∷ [])))
    ≡ length (all_canonical (trees_of ts)) + length (canonical t)
length-all_canonical-push [] t = omega (arith, length-append (canonical t) [])
length-all_canonical-push (u ∷ ts) t = omega (
  arith,
  length-append (canonical u) (all_canonical (trees_of (ts ++ t ∷ []))),
  length-append (canonical u) (all_canonical (trees_of ts)),
  length-all_canonical-push ts t,
)

-- the items of a frame with one block more count the tree of this block as well
AreCounted-push : (x : List ℕ) (e : Extent) (i j : WrittenItems) (identifier contents : ℕ) (ts : List (Tree ℕ))
    (t : Tree ℕ) → HasBlockMore i identifier contents j →
    length (canonical t) ≡ identifier + (length (shortest_length contents) + contents) →
    AreCounted x (in_frame e i) ts → AreCounted x (in_frame e j) (ts ++ t ∷ [])
AreCounted-push x e i j identifier contents ts t more written are = record {
  size = omega (arith, more.size, written, length-all_canonical-push ts t, are.size);
  blocks = omega (arith, more.blocks, are.blocks, length-append ts (t ∷ []));
  identifier = λ after c k n at. more.same ∙ are.identifier after c k n at;
}

-- the items of a new frame count no trees
pub HasOpened-sizes : (x : List ℕ) (h : PlacedHeader) (offset depth limit : ℕ) (a b : SizeBuilder) (i : WrittenItems) →
    i.size ≡ 0 → i.blocks ≡ 0 → i.identifier ≡ length (shortest_identifier h.class true h.tag) →
    HeaderFound x offset limit h → HasOpened sizes_hold x h offset depth a i b
HasOpened-sizes x h offset depth limit a b i size blocks identifier found = record {
  holds = λ kind f fs trees d is w. (
    record {
      size = size;
      blocks = blocks;
      identifier = λ after c k n at.
          let y = slice_range x offset h.end in
          let same = Encoding-unique y y h.class c h.constructed k h.tag n _ _ _ _ [] [] found.encoding at refl in
          identifier ∙ (λ u. length (shortest_identifier (same.class u) true (same.tag u)));
    },
    w,
  );
}

-- a block that the octets encode, of which so many identifier octets and contents octets are written
abbrev IsWrittenAt : ℕ → List ℕ → ℕ → ℕ → Type 0
IsWrittenAt o y identifier contents = (t : Tree ℕ) × Encodes o y t
    × (length (canonical t) ≡ identifier + (length (shortest_length contents) + contents))

-- what is written of an encoding whose contents octets are not read as blocks
Encodes-written : (o : ℕ) (y : List ℕ) (c : ASN1Class) (k : Bool) (n : ℕ) (v : List ℕ) (h size : ℕ) →
    (IsReadInside c k n → ⊥) → Encoding y c k n v h → AreWrittenOf c n v size →
    IsWrittenAt o y (length (shortest_identifier c k n)) size
Encodes-written o y c k n v h size shut found (inl (plain, inl (none, same))) =
    let stays : IsUnknownTag n = elim (TagKind-total n) [
      | unknown_tag t ↦ t
      | group_tag_of g e ↦ absurd (shut (inl (plain, ap is_group_tag e ∙ is_group_tag-group_tag g)))
      | leaf_tag_of e ↦ absurd (false≢true (sym none ∙ e))
    ] in (
      unknown c k o n v,
      (refl, h, found, inl (plain, stays)),
      length-shortest_encoding-parts c k n v (length (shortest_identifier c k n)) size refl same,
    )
Encodes-written o y c k n v h size shut found (inl (plain, inr (l, tag, means, same))) =
    let own : Encoding y Universal k (leaf_tag l) v h =
    subst (λ z. Encoding y z k (leaf_tag l) v h) plain (subst (λ z. Encoding y c k z v h) tag found) in
    let identifier : length (shortest_identifier c k n) ≡ length (shortest_identifier Universal false (leaf_tag l)) =
    length-shortest_identifier-same_tag c Universal k false n
    ∙ ap (λ z. length (shortest_identifier Universal false z)) tag in (
      leaf o l,
      (refl, k, v, h, own, means),
      length-shortest_encoding-parts Universal false (leaf_tag l) (leaf_contents l)
          (length (shortest_identifier c k n)) size identifier same,
    )
Encodes-written o y c k n v h size shut found (inr (other, same)) = (
  unknown c k o n v,
  (refl, h, found, inr (other, λ z. shut (inr (other, z.0)))),
  length-shortest_encoding-parts c k n v (length (shortest_identifier c k n)) size refl same,
)

-- the items of a frame with one block more, which holds no others
pub HasLeaf-sizes : (x : List ℕ) (h : PlacedHeader) (offset depth limit identifier size : ℕ) (a b : SizeBuilder)
    (i j : WrittenItems) → (IsReadInside h.class h.constructed h.tag → ⊥) → HeaderFound x offset limit h →
    AreWrittenOf h.class h.tag (slice_range x h.start h.end) size →
    identifier ≡ length (shortest_identifier h.class h.constructed h.tag) → HasBlockMore i identifier size j →
    HasLeaf sizes_hold x offset h.end depth a i b j
HasLeaf-sizes x h offset depth limit identifier size a b i j shut found are is more =
    let (t, encoded, written) =
    Encodes-written offset (slice_range x offset h.end) h.class h.constructed h.tag (slice_range x h.start h.end)
    (h.start - offset) size shut found.encoding are in
    let this = subst (λ z. length (canonical t) ≡ z + (length (shortest_length size) + size)) (sym is) written in
    record {
      tree = t;
      encoded = encoded;
      more = record {
        holds = λ e fs ts rest d (own, outer). (AreCounted-push x e i j identifier size ts t more this own, outer);
      };
    }

-- what is written of an attempt that ended
length-canonical-attempt : (x : List ℕ) (f : OpenFrame WrittenItems) (a : other.Attempt) (contents : ℕ)
    (ts : List (Tree ℕ)) → f.extent.start ≤ f.extent.end → f.extent.end ≤ length x →
    f.items.identifier ≡ length (shortest_identifier a.class true a.tag) →
    (f.items.blocks ≢ 1 → contents ≡ f.extent.end - f.extent.start) →
    (f.items.blocks ≡ 1 → contents ≡ f.items.size) → AreCounted x f ts →
    length (canonical (attempt_tree x a f.extent.start f.extent.end ts))
    ≡ f.items.identifier + (length (shortest_length contents) + contents)
length-canonical-attempt x f a contents [] order within identifier came one are =
    let size = came (λ e. omega (arith, e, are.blocks)) in
    length-shortest_encoding-parts a.class true a.tag (slice_range x f.extent.start f.extent.end) f.items.identifier
    contents identifier (size ∙ sym (length-slice_range x f.extent.start f.extent.end order within))
length-canonical-attempt x f a contents (t ∷ []) order within identifier came one are =
    length-shortest_encoding-parts a.class true a.tag (canonical t) f.items.identifier contents identifier
    (one are.blocks ∙ (are.size ∙ ap length (append-nil (canonical t))))
length-canonical-attempt x f a contents (t ∷ u ∷ ts) order within identifier came one are =
    let size = came (λ e. omega (arith, e, are.blocks)) in
    length-shortest_encoding-parts a.class true a.tag (slice_range x f.extent.start f.extent.end) f.items.identifier
    contents identifier (size ∙ sym (length-slice_range x f.extent.start f.extent.end order within))

-- a group is no attempt
Group-not_attempt : (g : GroupKind) → Group g ≡ Attempt → ⊥
Group-not_attempt g e = cc

-- the identifier octets of a frame that ended are those of the attempt
identifier-attempt : (x : List ℕ) (f : OpenFrame WrittenItems) (ts : List (Tree ℕ)) (a : other.Attempt) →
    f.extent.offset < f.extent.start → a.offset ≡ f.extent.offset →
    IsAttemptAt x a f.extent.start f.extent.end → AreCounted x f ts →
    f.items.identifier ≡ length (shortest_identifier a.class true a.tag)
identifier-attempt x f ts a after here at are = are.identifier after a.class true a.tag
    (subst (λ z. IsEncodingBetween x a.class true a.tag z f.extent.start f.extent.end) here at.encoding)

-- what is written of a frame that ended
length-canonical-ended : (x : List ℕ) (f : OpenFrame WrittenItems) (contents : ℕ) (ts : List (Tree ℕ)) (t : Tree ℕ) →
    f.extent.end ≤ length x →
    (f.extent.kind ≡ Attempt → f.items.blocks ≢ 1 → contents ≡ f.extent.end - f.extent.start) →
    ((f.extent.kind ≡ Attempt → f.items.blocks ≡ 1) → contents ≡ f.items.size) → EndsAs x f.extent ts t →
    AreCounted x f ts →
    length (canonical t) ≡ f.items.identifier + (length (shortest_length contents) + contents)
length-canonical-ended x f contents ts t within came of_blocks ends are = go f.extent.kind refl
  where
    -- what is written of a frame of whatever kind
    go : (kind : FrameKind) → f.extent.kind ≡ kind →
        length (canonical t) ≡ f.items.identifier + (length (shortest_length contents) + contents)
    go Whole k = absurd (subst (λ z. IsEnded x z f.extent.offset f.extent.start f.extent.end ts t) k ends.tree)
    go (Group g) k =
        let is : t ≡ group f.extent.offset g (trees_of ts) =
        subst (λ z. IsEnded x z f.extent.offset f.extent.start f.extent.end ts t) k ends.tree in
        let at : IsGroupAt x g f.extent.offset f.extent.start f.extent.end =
        subst (λ z. IsHeaded x z f.extent.offset f.extent.start f.extent.end) k ends.headed in
        let identifier = are.identifier ends.after Universal at.constructed (group_tag g) at.encoding in
        let size = of_blocks (λ e. absurd (Group-not_attempt g (sym k ∙ e))) ∙ are.size in
        ap (λ z. length (canonical z)) is
        ∙ length-shortest_encoding-parts Universal true (group_tag g) (all_canonical (trees_of ts)) f.items.identifier
        contents identifier size
    go Attempt k =
        let (a, here, at, is) =
        subst (λ z. IsEnded x z f.extent.offset f.extent.start f.extent.end ts t) k ends.tree in
        ap (λ z. length (canonical z)) is
        ∙ length-canonical-attempt x f a contents ts ends.order within
        (identifier-attempt x f ts a ends.after here at are) (came k) (λ one. of_blocks (λ _. one)) are

-- the items of a frame around one that ended count the tree of that one as well
pub HasEndedIn-sizes : (x : List ℕ) (a b : SizeBuilder) (f : OpenFrame WrittenItems) (i j : WrittenItems)
    (depth contents : ℕ) → f.extent.end ≤ length x →
    (f.extent.kind ≡ Attempt → f.items.blocks ≢ 1 → contents ≡ f.extent.end - f.extent.start) →
    ((f.extent.kind ≡ Attempt → f.items.blocks ≡ 1) → contents ≡ f.items.size) →
    HasBlockMore i f.items.identifier contents j → HasEndedIn sizes_hold x f depth a i b j
HasEndedIn-sizes x a b f i j depth contents within came of_blocks more = record {
  holds = λ e fs ts us rest t d ends (own, (around, outer)).
      let written = length-canonical-ended x f contents ts t within came of_blocks ends own in
      (AreCounted-push x e i j f.items.identifier contents us t more written around, outer);
}

-- the items of the frames around others count their trees, whatever those inside have
all_counted-around : (x : List ℕ) (inside fs : List (OpenFrame WrittenItems)) (lost trees : List (List (Tree ℕ))) →
    length inside ≡ length lost → all_counted x (inside ++ fs) (lost ++ trees) → all_counted x fs trees
all_counted-around x [] fs [] trees same are = are
all_counted-around x [] fs (us ∷ lost) trees same are = absurd (omega (arith, same))
all_counted-around x (g ∷ inside) fs [] trees same are = absurd (omega (arith, same))
all_counted-around x (g ∷ inside) fs (us ∷ lost) trees same (own, are) =
    all_counted-around x inside fs lost trees (omega (arith, same)) are

-- the items of a frame around an attempt that a fault ended count the encoding as it came
pub HasKept-sizes : (x : List ℕ) (a b : SizeBuilder) (f : OpenFrame WrittenItems) (i j : WrittenItems) (depth : ℕ) →
    f.extent.offset < f.extent.start → f.extent.start ≤ f.extent.end → f.extent.end ≤ length x →
    HasBlockMore i f.items.identifier (f.extent.end - f.extent.start) j → HasKept sizes_hold x f depth a i b j
HasKept-sizes x a b f i j depth after order within more = record {
  holds = λ inside lost e fs ts us rest k d m here tried none w.
      let (own, (around, outer)) =
      all_counted-around x inside (f ∷ in_frame e i ∷ fs) lost (ts ∷ us ∷ rest) m w in
      let contents = f.extent.end - f.extent.start in
      let t = as_it_came x k f.extent.start f.extent.end in
      let written =
      length-shortest_encoding-parts k.class true k.tag (slice_range x f.extent.start f.extent.end)
      f.items.identifier contents (identifier-attempt x f ts k after here tried own)
      (sym (length-slice_range x f.extent.start f.extent.end order within)) in
      (AreCounted-push x e i j f.items.identifier contents us t more written around, outer);
}
