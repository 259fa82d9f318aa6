-- What is no signed triple, and what follows where a document begins with one, for `convert::signed::parts_of` and
-- `convert::signed::read_signed`.
use Rattle.std.proofs.Common.{◌≡◌, ◌≢◌, ◌+◌, ◌-◌, ◌++◌, ℕ, List, [], ◌∷◌, length, get_or, drop, min, refl, sym, ap, subst, ◌∙◌, inl, inr, arith, length-append, Result, Ok, Err}
use Rattle.std.specs.Prelude.{◌⊎◌, MatchResult, IfOk, IfErr, IsErrAnd, slice_range}
use Rattle.std.proofs.lemmas.List.{length-take}
use Rattle.asn1_blocks.specs.declared.block.ASN1Block.{ASN1Block}
use Rattle.asn1_blocks.specs.declared.block.GroupKind.TheVariants.{Sequence}
use Rattle.simple_asn1.specs.declared.convert.signed.SignedTriple.{SignedTriple}
use Rattle.simple_asn1.specs.declared.convert.signed.TripleErr.{TripleErr}
use Rattle.simple_asn1.specs.declared.convert.signed.TripleErr.TheVariants.{Codec, Shape}
use Rattle.asn1_headers.specs.declared.error.ASN1DecodeErr.TheVariants.{OutOfMemory}
use Rattle.simple_asn1.specs.Conversions.{Decodes, DecodeFails}
use Rattle.asn1_headers.specs.Fault.{fault_of}
use Rattle.asn1_blocks.specs.Grammar.{IsDocument}
use Rattle.simple_asn1.specs.Laws.Unambiguous.{Unambiguous}
use Rattle.simple_asn1.specs.Laws.Slices.{BlockAlone}
use Rattle.asn1_numbers.specs.Octets.{FitInSlice}
use Rattle.asn1_blocks.specs.Places.{HasOctets, rebased, in_first, in_later, in_group, itself}
use Rattle.simple_asn1.specs.SignedTrees.{SignedParts, BeginWithSigned, HasTriple, IsOfAnotherShape, IsSigned, ReadsSigned, algorithm_tree, signed_tree, signed_trees}
use Rattle.simple_asn1.specs.Inner.Algorithm.{IsAlgorithm}
use Rattle.asn1_blocks.specs.Tree.{Tree, Trees, leaf, group, bit_string, object_identifier, no_trees, more_trees}
use Rattle.asn1_blocks.specs.View.{tree_offset, view, views}

-- a SEQUENCE of any other number of items than three is no signed triple
pub signed_tree-not_three_items : (t : Tree ℕ) (p : SignedParts) (o : ℕ) (items : List ASN1Block) → length items ≢ 3 →
    t ≡ group o Sequence (views items) → t ≢ signed_tree p
signed_tree-not_three_items t p o [] h e f = let g = sym e ∙ f in cc
signed_tree-not_three_items t p o (a ∷ []) h e f = let g = sym e ∙ f in cc
signed_tree-not_three_items t p o (a ∷ b ∷ []) h e f = let g = sym e ∙ f in cc
signed_tree-not_three_items t p o (a ∷ b ∷ c ∷ []) h e f = h refl
signed_tree-not_three_items t p o (a ∷ b ∷ c ∷ d ∷ items) h e f = let g = sym e ∙ f in cc

-- a SEQUENCE without a BIT STRING at its end is no triple
pub signed_tree-no_signature : (t : Tree ℕ) (p : SignedParts) (o : ℕ) (items : List ASN1Block) (z : ASN1Block) →
    length items ≡ 3 →
    z ≡ get_or items 2 z → t ≡ group o Sequence (views items) →
    ((a n : ℕ) (v : List ℕ) → view z ≢ leaf a (bit_string n v)) → t ≢ signed_tree p
signed_tree-no_signature t p o [] z h i e other f = cc
signed_tree-no_signature t p o (a ∷ []) z h i e other f = cc
signed_tree-no_signature t p o (a ∷ b ∷ []) z h i e other f = cc
signed_tree-no_signature t p o (a ∷ b ∷ c ∷ []) z h i e other f =
    let g = sym e ∙ f in
    let last : view c ≡ leaf p.signature_offset (bit_string p.bits p.signature) = cc in
    other p.signature_offset p.bits p.signature (ap view i ∙ last)
signed_tree-no_signature t p o (a ∷ b ∷ c ∷ d ∷ items) z h i e other f = let g = sym e ∙ f in cc

-- a SEQUENCE of a block, an algorithm and a BIT STRING is a signed triple of these parts
pub signed_tree-three_items :
    (t : Tree ℕ) (o : ℕ) (items : List ASN1Block) (x y z : ASN1Block) (algorithm : List ℕ) (n : ℕ) (v : List ℕ) →
    length items ≡ 3 →
    x ≡ get_or items 0 x → y ≡ get_or items 1 y → z ≡ get_or items 2 z → t ≡ group o Sequence (views items) →
    IsAlgorithm (view y) algorithm → view z ≡ leaf (tree_offset (view z)) (bit_string n v) →
    (p : SignedParts) × (t ≡ signed_tree p) × (view x ≡ p.content) × (tree_offset (view y) ≡ p.algorithm_offset)
    × (algorithm ≡ p.algorithm) × (n ≡ p.bits) × (v ≡ p.signature)
signed_tree-three_items t o [] x y z algorithm n v h i j k e a b = cc
signed_tree-three_items t o (l ∷ []) x y z algorithm n v h i j k e a b = cc
signed_tree-three_items t o (l ∷ m ∷ []) x y z algorithm n v h i j k e a b = cc
signed_tree-three_items t o (q ∷ r ∷ s ∷ []) x y z algorithm n v h i j k e (u, w, rest, a) b = (
  record {
    offset = o;
    content = view x;
    algorithm_offset = u;
    identifier_offset = w;
    algorithm = algorithm;
    parameters = rest;
    signature_offset = tree_offset (view z);
    bits = n;
    signature = v;
  },
  let first : view q ≡ view x = ap view (sym i) in
      let second : view r ≡ group u Sequence (more_trees (leaf w (object_identifier algorithm)) rest) =
      ap view (sym j) ∙ a in
      let third : view s ≡ leaf (tree_offset (view z)) (bit_string n v) = ap view (sym k) ∙ b in
      e ∙ cc,
  refl,
  ap tree_offset a,
  refl,
  refl,
  refl,
)
signed_tree-three_items t o (l ∷ m ∷ s ∷ d ∷ items) x y z algorithm n v h i j k e a b = cc

-- what was signed has the octets up to the algorithm
HasOctets-content : (octets : List ℕ) (p : SignedParts) (rest : Trees ℕ) (content : List ℕ) →
    content ≡ slice_range octets (tree_offset p.content) p.algorithm_offset →
    HasOctets octets (signed_trees p rest) p.content content
HasOctets-content octets p rest content e =
    record { end = p.algorithm_offset; place = in_first (in_group (in_first itself)); octets_are = e }

-- the algorithm has the octets up to the signature
HasOctets-algorithm : (octets : List ℕ) (p : SignedParts) (rest : Trees ℕ) →
    HasOctets octets (signed_trees p rest) (algorithm_tree p) (slice_range octets p.algorithm_offset p.signature_offset)
HasOctets-algorithm octets p rest =
    record { end = p.signature_offset; place = in_first (in_group (in_later (in_first itself))); octets_are = refl }

-- in a document the offsets of a triple stand in their order
BeginWithSigned-document : BlockAlone → (octets : List ℕ) (p : SignedParts) (rest : Trees ℕ) (bs : Trees ℕ) →
    IsDocument octets bs →
    bs ≡ signed_trees p rest → BeginWithSigned bs octets p rest
BeginWithSigned-document law octets p rest bs d e =
    let t = subst (IsDocument octets) e d in
    let o = tree_offset p.content in
    let alone = law.alone octets (signed_trees p rest) p.content (slice_range octets o p.algorithm_offset) t
    (HasOctets-content octets p rest _ refl) in
    let cut : length (slice_range octets o p.algorithm_offset) ≡ min (p.algorithm_offset - o) (length (drop o octets)) =
    length-take (p.algorithm_offset - o) (drop o octets) in
    let (before, behind, whole, at) =
    law.position octets (signed_trees p rest) (algorithm_tree p) _ t (HasOctets-algorithm octets p rest) in
    let some = alone.some in
    let all : length octets
    ≡ length before + length (slice_range octets p.algorithm_offset p.signature_offset ++ behind) =
    ap length whole ∙ length-append before _ in
    record {
      trees = e;
      ordered = omega (arith, cut, some);
      within = omega (arith, all, at);
    }

-- trees begin with one triple: what has the fields of one has the fields of the other
HasTriple-same_trees : (octets : List ℕ) (t : SignedTriple) (p q : SignedParts) (xs ys : Trees ℕ) →
    signed_trees p xs ≡ signed_trees q ys →
    HasTriple octets q t → HasTriple octets p t
HasTriple-same_trees octets t p q xs ys e h =
    let content : p.content ≡ q.content = cc in
    let end : p.algorithm_offset ≡ q.algorithm_offset = cc in
    let algorithm : p.algorithm ≡ q.algorithm = cc in
    let bits : p.bits ≡ q.bits = cc in
    let signature : p.signature ≡ q.signature = cc in
    record {
      content = h.content ∙ (ap (λ b. slice_range octets (tree_offset b) q.algorithm_offset) (sym content)
          ∙ ap (slice_range octets (tree_offset p.content)) (sym end));
      algorithm = h.algorithm ∙ sym algorithm;
      bits = h.bits ∙ sym bits;
      signature = h.signature ∙ sym signature;
    }

-- what der_decode says where the octets are read as a triple, and where they are refused
abbrev pub IsRead : List ℕ → SignedTriple → Type 0
IsRead octets t = Decodes (λ bs r. ReadsSigned bs octets r) octets t

abbrev pub IsRefused : List ℕ → TripleErr → Type 0
IsRefused octets e = DecodeFails (λ bs r. ReadsSigned bs octets r) (λ f e. e ≡ Codec f) octets e

-- a triple that was read has the fields of the triple that the octets are
HasTriple-read : Unambiguous → (octets : List ℕ) (t : SignedTriple) → IsRead octets t → (p : SignedParts) →
    IsSigned octets p → HasTriple octets p t
HasTriple-read law octets t is p (xs, e) =
    let (q, begin, fields) = is.is_read in
    HasTriple-same_trees octets t p q xs is.rest
    (law.one_document octets (signed_trees p xs) is.trees e is.document ∙ begin.trees) fields

-- a triple is refused for want of memory alone
IsRefused-out_of_memory : Unambiguous → BlockAlone → (octets : List ℕ) → FitInSlice octets → (e : TripleErr) →
    IsRefused octets e →
    (p : SignedParts) → IsSigned octets p →
    e ≡ Codec OutOfMemory
IsRefused-out_of_memory law parts octets small e (inl (bs, d, inl g)) p s = g
IsRefused-out_of_memory law parts octets small e (inl (bs, d, inr (g, other))) p (xs, s) =
    absurd
    (other p xs (BeginWithSigned-document parts octets p xs bs d (law.one_document octets bs (signed_trees p xs) d s)))
IsRefused-out_of_memory law parts octets small e (inr (f, inl m, g)) p s = g ∙ ap Codec m
IsRefused-out_of_memory law parts octets small e (inr (f, inr at, g)) p (xs, s) =
    absurd (law.not_both octets (signed_trees p xs) (fault_of f) small s at)

-- octets that are refused for their shape are a document of another shape
IsOfAnotherShape-refused : BlockAlone → (octets : List ℕ) → IsRefused octets Shape → IsOfAnotherShape octets
IsOfAnotherShape-refused law octets (inl (bs, d, inl e)) = cc
IsOfAnotherShape-refused law octets (inl (bs, d, inr (e, other))) =
    (bs, d, λ p rest e. other p rest (BeginWithSigned-document law octets p rest bs d e))
IsOfAnotherShape-refused law octets (inr (f, _, e)) = cc

-- a triple that was read has the octets of what was signed
pub HasOctets-read_content : Unambiguous → (octets : List ℕ) (r : Result SignedTriple TripleErr) →
    IfOk r (IsRead octets) →
    IfOk r (λ t. (p : SignedParts) (rest : Trees ℕ) → IsDocument octets (signed_trees p rest) →
    HasOctets octets (signed_trees p rest) p.content t.content.items)
HasOctets-read_content law octets (Ok t) is =
    λ p rest d. HasOctets-content octets p rest t.content.items (HasTriple-read law octets t is p (rest, d)).content
HasOctets-read_content law octets (Err e) is = tt

-- what was signed is a document by itself
pub IsDocument-rebased_content : Unambiguous → BlockAlone → (octets : List ℕ) (r : Result SignedTriple TripleErr) →
    IfOk r (IsRead octets) →
    IfOk r (λ t. (p : SignedParts) → IsSigned octets p →
    IsDocument t.content.items (more_trees (rebased p.content) no_trees))
IsDocument-rebased_content law parts octets (Ok t) is = λ p s.
    parts.alone octets (signed_trees p s.0) p.content t.content.items s.1
    (HasOctets-content octets p s.0 t.content.items (HasTriple-read law octets t is p s).content)
IsDocument-rebased_content law parts octets (Err e) is = tt

-- an error of shape says that the octets are a document of another shape
pub IfErr-another_shape : BlockAlone → (octets : List ℕ) (r : Result SignedTriple TripleErr) →
    IfErr r (IsRefused octets) →
    IfErr r (λ e. e ≡ Shape → IsOfAnotherShape octets)
IfErr-another_shape law octets (Ok t) is = tt
IfErr-another_shape law octets (Err e) is = λ s. IsOfAnotherShape-refused law octets (subst (IsRefused octets) s is)

-- a triple is read with its fields, or memory runs out
pub MatchResult-signed : Unambiguous → BlockAlone → (octets : List ℕ) → FitInSlice octets →
    (r : Result SignedTriple TripleErr) →
    IfOk r (IsRead octets) →
    IfErr r (IsRefused octets) → (p : SignedParts) → IsSigned octets p →
    MatchResult r (HasTriple octets p) (λ e. e ≡ Codec OutOfMemory)
MatchResult-signed law parts octets small (Ok t) is _ p s = HasTriple-read law octets t is p s
MatchResult-signed law parts octets small (Err e) _ is p s = IsRefused-out_of_memory law parts octets small e is p s

-- a document of another shape is refused for its shape
pub IsErrAnd-another_shape : Unambiguous → (octets : List ℕ) → FitInSlice octets → (r : Result SignedTriple TripleErr) →
    IfOk r (IsRead octets) →
    IfErr r (IsRefused octets) → IsOfAnotherShape octets → IsErrAnd r (λ e. (e ≡ Shape) ⊎ (e ≡ Codec OutOfMemory))
IsErrAnd-another_shape law octets small (Ok t) is _ (bs, d, other) =
    let (q, begin, fields) = is.is_read in
    absurd (other q is.rest (law.one_document octets bs is.trees d is.document ∙ begin.trees))
IsErrAnd-another_shape law octets small (Err e) _ (inl (xs, x, inl memory)) s = inr memory
IsErrAnd-another_shape law octets small (Err e) _ (inl (xs, x, inr (shape, none))) s = inl shape
IsErrAnd-another_shape law octets small (Err e) _ (inr (f, inl memory, from)) s = inr (from ∙ ap Codec memory)
IsErrAnd-another_shape law octets small (Err e) _ (inr (f, inr at, from)) (bs, d, other) =
    absurd (law.not_both octets bs (fault_of f) small d at)
