-- Octets are a canonical document or have one strict fault, for `strict` and `laws::law_strict`.
use Rattle.std.proofs.Common.{◌≡◌, ◌≢◌, ℕ, ◌+◌, ◌<◌, ◌≤◌, ◌^◌, Bool, true, false, List, [], ◌++◌, ◌⊎◌, ◌↔◌, inl, inr, length, refl, sym, ap, ◌∙◌, subst, arith, length-append, append_assoc, take, drop, length-drop, get_or, None, Result, Ok, Err, Vec, Global, IfOk, IfErr, IsErrAnd, MatchResult}
use Rattle.std.specs.List.{slice_range}
use Rattle.std.proofs.lemmas.List.{take-append-drop, length-take-le, drop_at, drop_more}
use Rattle.asn1_blocks.specs.declared.block.ASN1Block.{ASN1Block}
use Rattle.asn1_headers.specs.declared.error.ASN1DecodeErr.{ASN1DecodeErr}
use Rattle.asn1_headers.specs.declared.error.ASN1DecodeErr.TheVariants.{OutOfMemory}
use Rattle.asn1_headers.specs.declared.header.ASN1Class.{ASN1Class}
use Rattle.asn1_headers.specs.declared.header.ASN1Class.TheVariants.{Universal}
use Rattle.asn1_headers.specs.Fault.{DecodeFault, OutOfMemoryOr, fault_of, not_canonical}
use Rattle.asn1_blocks.specs.Tree.{Tree, Trees, leaf, group, explicit, unknown, no_trees, more_trees, shapes}
use Rattle.asn1_blocks.specs.View.{tree_offset, view, views}
use Rattle.asn1_blocks.specs.Contents.{group_tag, leaf_contents, leaf_tag}
use Rattle.asn1_writing.specs.Canonical.{shortest_encoding, canonical, all_canonical, first_write_fault, write_fault}
use Rattle.asn1_blocks.specs.Grammar.{EncodesAll, IsDocument}
use Rattle.asn1_blocks.specs.Places.{end_before, IsEncoding}
use Rattle.asn1_writing.specs.ReadBack.{CanonicalDocument}
use Rattle.asn1_writing.specs.Strict.{EqualByOctets, FirstNotCanonical, EachIsCanonical, StrictFault, StrictFaultAt, top_octets}
use Rattle.asn1_leaves.proofs.Leaves.Known.{Known-octets}
use Rattle.asn1_headers.proofs.Prefixes.{Encoding-unique}
use Rattle.asn1_blocks.proofs.OneReading.{IsBlock-encodes, EncodesAll-unique}
use Rattle.asn1_blocks.proofs.Faults.{IsEncoding-block}
use Rattle.asn1_blocks.proofs.FaultsAlone.{FirstFaultAt-unique}
use Rattle.asn1_writing.proofs.Totality.{IsDocument-or_fault}
use Rattle.asn1_blocks.proofs.Readings.{IsDocument-no_fault}
use Rattle.asn1_blocks.proofs.Slices.{tree_offset-encodes, end_before-encodes, slice_range-middle}
use Rattle.asn1_writing.proofs.WriteSteps.{first_of-none_of_both}
use Rattle.asn1_writing.proofs.Placed.{length-le_shortest_encoding, header_size, Encoding-shortest_encoding}
use Rattle.asn1_writing.proofs.Shapes.{all_canonical-shapes}
use Rattle.std.proofs.lemmas.List.Folds.{drop_split}

-- what is written of a tree is an encoding
IsEncoding-shortest_encoding :
    (c : ASN1Class) (k : Bool) (n : ℕ) (contents : List ℕ) → length (shortest_encoding c k n contents) < 2 ^ 64 →
    IsEncoding (shortest_encoding c k n contents)
IsEncoding-shortest_encoding c k n contents h = record {
  class = c;
  constructed = k;
  tag = n;
  contents = contents;
  header = header_size c k n contents;
  encoding = Encoding-shortest_encoding c k n contents (omega (arith, h, length-le_shortest_encoding c k n contents));
}

-- the canonical octets of a tree are an encoding
pub IsEncoding-canonical : (b : Tree ℕ) → length (canonical b) < 2 ^ 64 → IsEncoding (canonical b)
IsEncoding-canonical (leaf o l) h = IsEncoding-shortest_encoding Universal false (leaf_tag l) (leaf_contents l) h
IsEncoding-canonical (group o g bs) h = IsEncoding-shortest_encoding Universal true (group_tag g) (all_canonical bs) h
IsEncoding-canonical (explicit c o n b) h = IsEncoding-shortest_encoding c true n (canonical b) h
IsEncoding-canonical (unknown c k o n v) h = IsEncoding-shortest_encoding c k n v h

-- after u stand the octets of the first of trees, and then the rest
record IsFirstAt (i u : List ℕ) (b : Tree ℕ) (bs : Trees ℕ) (first rest : List ℕ) : Type 0 where
  pub octets : top_octets i b bs ≡ first
  pub at : tree_offset b ≡ length u
  pub end : end_before bs (length i) ≡ length u + length first
  pub whole : i ≡ (u ++ first) ++ rest
  pub after : EncodesAll (length (u ++ first)) rest bs

-- the octets of the first of trees stand behind u, and those of the others behind them
IsFirstAt-first :
    (i u x : List ℕ) (b : Tree ℕ) (bs : Trees ℕ) → i ≡ u ++ x → (s : EncodesAll (length u) x (more_trees b bs)) →
    IsFirstAt i u b bs s.first s.rest
IsFirstAt-first i u x b bs w s =
    let n = ap length w ∙ length-append u x in
    let m = ap length s.whole ∙ length-append s.first s.rest in
    let o = tree_offset-encodes (length u) s.first b s.item in
    let e = end_before-encodes (length u + length s.first) (length i) s.rest bs s.items (omega (arith, n, m)) in
    let d : i ≡ u ++ (s.first ++ s.rest) = w ∙ ap (λ z. u ++ z) s.whole in
    let k : length u + length s.first ≡ length (u ++ s.first) = omega (arith, length-append u s.first) in
    record {
      octets = slice_range-middle i u s.first s.rest (tree_offset b) (end_before bs (length i)) d o e;
      at = o;
      end = e;
      whole = d ∙ sym (append_assoc u s.first s.rest);
      after = subst (λ z. EncodesAll z s.rest bs) k s.items;
    }

-- one step over the octets of a document, from a place on
pub record ComparesFirst (i : List ℕ) (o : ℕ) (b : Tree ℕ) (bs : Trees ℕ) (e : ℕ) : Type 0 where
  pub from : o ≤ e
  pub to : e ≤ length i
  pub at : tree_offset b ≡ o
  pub left : EncodesAll e (drop e i) bs
  pub whole : drop o i ≡ slice_range i o e ++ drop e i
  -- the offset of the first tree that is not canonical, by whether the first tree is
  pub first_is : (n : ℕ) → slice_range i o e ≡ canonical b → FirstNotCanonical i bs n →
      FirstNotCanonical i (more_trees b bs) n
  pub first_here : slice_range i o e ≢ canonical b → FirstNotCanonical i (more_trees b bs) o

-- comparing the first of trees decides for it, or goes on behind it
pub ComparesFirst-at :
    (i : List ℕ) (o : ℕ) (b : Tree ℕ) (bs : Trees ℕ) (e : ℕ) → o ≤ length i → e ≡ end_before bs (length i) →
    EncodesAll o (drop o i) (more_trees b bs) → ComparesFirst i o b bs e
ComparesFirst-at i o b bs e h d s =
    let u = take o i in
    let l : length u ≡ o = length-take-le o i h in
    let w : i ≡ u ++ drop o i = sym (take-append-drop o i) in
    let t : EncodesAll (length u) (drop o i) (more_trees b bs) =
    subst (λ z. EncodesAll z (drop o i) (more_trees b bs)) (sym l) s in
    let p = IsFirstAt-first i u (drop o i) b bs w t in
    let n : e ≡ o + length t.first = omega (arith, d, p.end, l) in
    let k : length (u ++ t.first) ≡ e = omega (arith, n, l, length-append u t.first) in
    let at : tree_offset b ≡ o = p.at ∙ l in
    let len : length (drop o i) ≡ length t.first + length t.rest = ap length t.whole ∙ length-append t.first t.rest in
    let to : e ≤ length i = omega (arith, n, len, length-drop o i, h) in
    let r : drop e i ≡ t.rest = ap (drop e) p.whole ∙ drop_at (u ++ t.first) t.rest e k in
    let same : top_octets i b bs ≡ slice_range i o e =
    ap (λ z. slice_range i z (end_before bs (length i))) at ∙ ap (slice_range i o) (sym d) in
    let after : EncodesAll e t.rest bs = subst (λ z. EncodesAll z t.rest bs) k p.after in
    let ordered : o ≤ e = omega (arith, n) in
    record {
      from = ordered;
      to = to;
      at = at;
      left = subst (λ z. EncodesAll e z bs) (sym r) after;
      whole = drop_split i o e ordered;
      first_is = λ m c f. inr (same ∙ c, f);
      first_here = λ ne. inl (λ c. ne (sym same ∙ c), sym at);
    }

-- the trees of the blocks from a place on are that of the block there and those of the blocks after it
pub views-drop :
    (bs : List ASN1Block) (i : ℕ) (b : ASN1Block) → i < length bs → b ≡ get_or bs i b →
    views (drop i bs) ≡ more_trees (view b) (views (drop (i + 1) bs))
views-drop bs i b h e = ap views (drop_more bs i b h) ∙ ap (λ z. more_trees (view z) (views (drop (i + 1) bs))) (sym e)

-- where the blocks from a place on can be written, so can the block there and those behind it
pub first_write_fault-drop :
    (bs : List ASN1Block) (i : ℕ) (b : ASN1Block) → i < length bs → b ≡ get_or bs i b →
    first_write_fault (views (drop i bs)) ≡ None →
    (write_fault (view b) ≡ None) × (first_write_fault (views (drop (i + 1) bs)) ≡ None)
first_write_fault-drop bs i b h e f =
    first_of-none_of_both (write_fault (view b)) (first_write_fault (views (drop (i + 1) bs)))
    (sym (ap first_write_fault (views-drop bs i b h e)) ∙ f)

-- where the octets of trees are canonical, each tree stands in its canonical octets
EachIsCanonical-written : (bs : Trees ℕ) (i u x : List ℕ) → i ≡ u ++ x → length x < 2 ^ 64 → EncodesAll (length u) x bs
    → x ≡ all_canonical bs → EachIsCanonical i bs
EachIsCanonical-written no_trees i u x w small s e = tt
EachIsCanonical-written (more_trees b bs) i u x w small s e =
    let p = IsFirstAt-first i u x b bs w s in
    let l = ap length e ∙ length-append (canonical b) (all_canonical bs) in
    let F = IsEncoding-block s.first (IsBlock-encodes (length u) s.first b s.item) in
    let G = IsEncoding-canonical b (omega (arith, small, l)) in
    let h = Encoding-unique _ _ _ _ _ _ _ _ _ _ _ _ s.rest (all_canonical bs) F.encoding G.encoding (sym s.whole ∙ e)
    in (
      p.octets ∙ h.octets,
      EachIsCanonical-written bs i (u ++ s.first) s.rest p.whole
          (omega (arith, small, ap length s.whole, length-append s.first s.rest))
          p.after h.rest,
    )

-- a document each of whose blocks stands in its canonical octets is what is written of it
all_canonical-each_canonical : (bs : Trees ℕ) (i u x : List ℕ) → i ≡ u ++ x → EncodesAll (length u) x bs →
    EachIsCanonical i bs →
    x ≡ all_canonical bs
all_canonical-each_canonical no_trees i u x w s c = s
all_canonical-each_canonical (more_trees b bs) i u x w s c =
    let p = IsFirstAt-first i u x b bs w s in
    s.whole ∙ (ap (λ z. z ++ s.rest) (sym p.octets ∙ c.0)
    ∙ ap (λ z. canonical b ++ z) (all_canonical-each_canonical bs i (u ++ s.first) s.rest p.whole p.after c.1))

-- each tree stands in its canonical octets, or one is the first that does not
EachIsCanonical-or_first : (i : List ℕ) (bs : Trees ℕ) → EachIsCanonical i bs ⊎ ((n : ℕ) × FirstNotCanonical i bs n)
EachIsCanonical-or_first i no_trees = inl tt
EachIsCanonical-or_first i (more_trees b bs) = elim (Known-octets (top_octets i b bs) (canonical b)) [
  | inr ne ↦ inr (tree_offset b, inl (ne, refl))
  | inl e ↦ elim (EachIsCanonical-or_first i bs) [ inl s ↦ inl (e, s) | inr f ↦ inr (f.0, inr (e, f.1)) ]
]

-- no octets are canonical in each block and have a first block that is not
EachIsCanonical-no_first : (i : List ℕ) (bs : Trees ℕ) (n : ℕ) → EachIsCanonical i bs → FirstNotCanonical i bs n → ⊥
EachIsCanonical-no_first i no_trees n s f = f
EachIsCanonical-no_first i (more_trees b bs) n s (inl f) = f.0 s.0
EachIsCanonical-no_first i (more_trees b bs) n s (inr f) = EachIsCanonical-no_first i bs n s.1 f.1

-- at most one tree is the first that is not canonical
FirstNotCanonical-unique : (i : List ℕ) (bs : Trees ℕ) (m n : ℕ) → FirstNotCanonical i bs m → FirstNotCanonical i bs n →
    m ≡ n
FirstNotCanonical-unique i no_trees m n p q = absurd p
FirstNotCanonical-unique i (more_trees b bs) m n (inl p) (inl q) = p.1 ∙ sym q.1
FirstNotCanonical-unique i (more_trees b bs) m n (inl p) (inr q) = absurd (p.0 q.0)
FirstNotCanonical-unique i (more_trees b bs) m n (inr p) (inl q) = absurd (q.0 p.0)
FirstNotCanonical-unique i (more_trees b bs) m n (inr p) (inr q) = FirstNotCanonical-unique i bs m n p.1 q.1

-- a document is canonical exactly if each of its blocks is
pub EachIsCanonical-iff_canonical : (i : List ℕ) (bs : Trees ℕ) → length i < 2 ^ 64 → IsDocument i bs →
    (i ≡ all_canonical bs) ↔ EachIsCanonical i bs
EachIsCanonical-iff_canonical i bs small d = (
  λ e. EachIsCanonical-written bs i [] i refl small d.blocks e,
  λ s. all_canonical-each_canonical bs i [] i refl
      d.blocks s,
)

-- a canonical document has no tree that is not canonical
CanonicalDocument-no_first : (i : List ℕ) (bs cs : Trees ℕ) (n : ℕ) → length i < 2 ^ 64 → CanonicalDocument i bs →
    IsDocument i cs
    → FirstNotCanonical i cs n → ⊥
CanonicalDocument-no_first i bs cs n small d a f =
    let same : cs ≡ bs = EncodesAll-unique 0 i cs bs a.blocks d.0.blocks in
    EachIsCanonical-no_first i bs n ((EachIsCanonical-iff_canonical i bs small d.0).0 d.1)
    (subst (λ z. FirstNotCanonical i z n) same f)

-- octets are a canonical document or have a strict fault
pub CanonicalDocument-or_fault : (i : List ℕ) → length i < 2 ^ 64 →
    ((bs : Trees ℕ) × CanonicalDocument i bs) ⊎ ((e : DecodeFault) × StrictFault i e)
CanonicalDocument-or_fault i small = elim (IsDocument-or_fault i small) [
  | inr f ↦ inr (f.0, inl f.1)
  | inl d ↦ elim (EachIsCanonical-or_first i d.0) [
    | inl s ↦ inl (d.0, (d.1, (EachIsCanonical-iff_canonical i d.0 small d.1).1 s))
    | inr f ↦ inr (not_canonical f.0, inr (f.0, (d.0, d.1, f.1), refl))
  ]
]

-- a canonical document has no strict fault
pub CanonicalDocument-no_fault : (i : List ℕ) (bs : Trees ℕ) (e : DecodeFault) → length i < 2 ^ 64 →
    CanonicalDocument i bs →
    StrictFault i e → ⊥
CanonicalDocument-no_fault i bs e small d (inl f) = IsDocument-no_fault i bs e small d.0 f
CanonicalDocument-no_fault i bs e small d (inr (n, (cs, a, f), g)) = CanonicalDocument-no_first i bs cs n small d a f

-- a strict fault at a place is a strict fault
pub StrictFault-at : (i : List ℕ) (e : DecodeFault) (o : ℕ) → StrictFaultAt i e o → StrictFault i e
StrictFault-at i e o (inl f) = inl (o, f)
StrictFault-at i e o (inr (n, same)) = inr (o, n, same)

-- an error that is a strict fault at a place is a strict fault
pub StrictFault-without_place : (i : List ℕ) (e : ASN1DecodeErr) (o : ℕ) → OutOfMemoryOr (λ f. StrictFaultAt i f o) e →
    OutOfMemoryOr (StrictFault i) e
StrictFault-without_place i e o (inl memory) = inl memory
StrictFault-without_place i e o (inr f) = inr (StrictFault-at i (fault_of e) o f)

-- octets have one strict fault, at one place
pub StrictFaultAt-unique : (i : List ℕ) (e d : DecodeFault) (m n : ℕ) → length i < 2 ^ 64 → StrictFaultAt i e m →
    StrictFaultAt i d n → (e ≡ d) × (m ≡ n)
StrictFaultAt-unique i e d m n small (inl p) (inl q) = FirstFaultAt-unique i e d m n small p q
StrictFaultAt-unique i e d m n small (inl p) (inr ((bs, a, f), g)) =
    absurd (IsDocument-no_fault i bs e small a (m, p))
StrictFaultAt-unique i e d m n small (inr ((bs, a, f), g)) (inl q) =
    absurd (IsDocument-no_fault i bs d small a (n, q))
StrictFaultAt-unique i e d m n small (inr ((bs, a, f), g)) (inr ((cs, b, h), k)) =
    let same : cs ≡ bs = EncodesAll-unique 0 i cs bs b.blocks a.blocks in
    let at : m ≡ n = FirstNotCanonical-unique i bs m n f (subst (λ z. FirstNotCanonical i z n) same h) in
    (g ∙ (ap not_canonical at ∙ sym k), at)

-- a strict fault has a place
StrictFault-place : (i : List ℕ) (e : DecodeFault) → StrictFault i e → (o : ℕ) × StrictFaultAt i e o
StrictFault-place i e (inl (o, f)) = (o, inl f)
StrictFault-place i e (inr (o, n, same)) = (o, inr (n, same))

-- octets have one strict fault
pub StrictFault-unique : (i : List ℕ) (e d : DecodeFault) → length i < 2 ^ 64 → StrictFault i e → StrictFault i d →
    e ≡ d
StrictFault-unique i e d small p q =
    let (m, a) = StrictFault-place i e p in
    let (n, b) = StrictFault-place i d q in
    (StrictFaultAt-unique i e d m n small a b).0

-- blocks of canonical documents are equal exactly if their octets are
pub EqualByOctets-canonical : (i : List ℕ) (bs : Trees ℕ) → CanonicalDocument i bs → EqualByOctets i bs
EqualByOctets-canonical i bs d other cs e = (
  λ p. d.1 ∙ (sym (all_canonical-shapes bs) ∙ (ap all_canonical p ∙ (all_canonical-shapes cs ∙ sym e.1))),
  λ q. ap shapes (EncodesAll-unique 0 i bs cs d.0.blocks (subst (λ z. EncodesAll 0 z cs) (sym q) e.0.blocks)),
)

-- strict reading accepts a canonical document as its trees, unless memory runs out
pub CanonicalDocument-accepted :
    (i : List ℕ) (r : Result (Vec ASN1Block Global) ASN1DecodeErr) → length i < 2 ^ 64 →
    IfOk r (λ v. CanonicalDocument i (views v.items)) → IfErr r (OutOfMemoryOr (StrictFault i)) →
    (bs : Trees ℕ) → CanonicalDocument i bs → MatchResult r (λ v. views v.items ≡ bs) (λ e. e ≡ OutOfMemory)
CanonicalDocument-accepted i (Ok v) small ok err bs d = EncodesAll-unique 0 i (views v.items) bs ok.0.blocks d.0.blocks
CanonicalDocument-accepted i (Err e) small ok (inl memory) bs d = memory
CanonicalDocument-accepted i (Err e) small ok (inr fault) bs d =
    absurd (CanonicalDocument-no_fault i bs (fault_of e) small d fault)

-- strict reading refuses octets with a strict fault for it
pub StrictFault-refused :
    (i : List ℕ) (r : Result (Vec ASN1Block Global) ASN1DecodeErr) → length i < 2 ^ 64 →
    IfOk r (λ v. CanonicalDocument i (views v.items)) → IfErr r (OutOfMemoryOr (StrictFault i)) →
    (fault : DecodeFault) → StrictFault i fault → IsErrAnd r (OutOfMemoryOr (λ e. e ≡ fault))
StrictFault-refused i (Ok v) small ok err fault f = CanonicalDocument-no_fault i (views v.items) fault small ok f
StrictFault-refused i (Err e) small ok (inl memory) fault f = inl memory
StrictFault-refused i (Err e) small ok (inr first) fault f = inr (StrictFault-unique i (fault_of e) fault small first f)
