-- Octets are canonical where each header in them is, and the contents octets of each leaf, for `in_place` and
-- `canonical`.
use Rattle.std.proofs.Common.{◌≡◌, ◌≢◌, ℕ, ◌+◌, ◌-◌, ◌<◌, ◌≤◌, ◌^◌, Bool, true, false, List, [], ◌∷◌, ◌++◌, ◌⊎◌, inl, inr, length, take, drop, get_or, refl, sym, ap, ◌∙◌, subst, ap₂, arith, length-append, append_assoc, append-nil}
use Rattle.std.specs.Prelude.{All}
use Rattle.std.proofs.Math.Seq.{drop-append_seam, take-append_seam}
use Rattle.std.proofs.lemmas.List.{get_or_append_left, get_or_push, length-take-le, take-append-drop}
use Rattle.std.proofs.lemmas.List.Elements.{All-drop, All-take}
use Rattle.std.proofs.lemmas.Bool.{false≢true, cases_lt, cond_below, cond_above}
use Rattle.std.specs.Int.Digits.{digits_of}
use Rattle.asn1_blocks.specs.declared.block.GroupKind.{GroupKind}
use Rattle.asn1_blocks.specs.declared.block.GroupKind.TheVariants.{Sequence, Set}
use Rattle.asn1_headers.specs.declared.whole_header.Header.{Header}
use Rattle.asn1_headers.specs.declared.header.ASN1Class.{ASN1Class}
use Rattle.asn1_headers.specs.declared.header.ASN1Class.TheVariants.{Universal}
use Rattle.asn1_headers.specs.Front.{IsAtFront}
use Rattle.asn1_headers.specs.Header.{Encoding, IsLength, leading_octet, shortest_identifier, shortest_length}
use Rattle.asn1_numbers.specs.Base128.{shortest_base128}
use Rattle.asn1_blocks.specs.Tree.{Trees, leaf, group, explicit, unknown, no_trees, more_trees}
use Rattle.asn1_blocks.specs.Contents.{LeafContents, group_tag, is_known_tag, leaf_contents, leaf_tag}
use Rattle.asn1_writing.specs.Canonical.{shortest_encoding, canonical, all_canonical}
use Rattle.asn1_blocks.specs.Grammar.{Encodes, EncodesAll}
use Rattle.asn1_blocks.specs.Places.{joined}
use Rattle.asn1_writing.specs.Inner.InPlace.{AreCanonical, AreCanonicalContents, BeginsShortest, IsOfGroup, LeavesBoth}
use Rattle.asn1_headers.proofs.Prefixes.{Encoding-unique, IsIdentifier-unique, IsIdentifier-not_empty, IsLength-unique, append-injective, append_assoc-four}
use Rattle.asn1_blocks.proofs.OneReading.{IsBlock-not_empty, IsBlock-encodes, EncodesAll-single}
use Rattle.asn1_blocks.proofs.Faults.{IsEncoding-block}
use Rattle.asn1_blocks.proofs.Leaves.{is_known_tag-group_tag, is_known_tag-leaf_tag, leaf_tag-not_group_tag}
use Rattle.asn1_headers.proofs.Shortest.{IsIdentifier-shortest, length-shortest_identifier_le, shortest_identifier-only, IsLength-shortest, length-shortest_length_le, shortest_length-only}
use Rattle.asn1_blocks.proofs.Slices.{EncodesAll-joined}
use Rattle.asn1_writing.proofs.CanonicalDocuments.{IsEncoding-canonical}

-- the canonical octets of joined trees are the canonical octets of both parts, joined
all_canonical-joined : (xs ys : Trees ℕ) → all_canonical (joined xs ys) ≡ all_canonical xs ++ all_canonical ys
all_canonical-joined no_trees ys = refl
all_canonical-joined (more_trees b xs) ys =
    ap (λ z. canonical b ++ z) (all_canonical-joined xs ys)
    ∙ sym (append_assoc (canonical b) (all_canonical xs) (all_canonical ys))

-- an encoding s has a canonical header that announces m octets: its contents octets, which r follows, stand behind the
-- header as own and rest do
pub record HasCanonicalFront (s contents own r rest : List ℕ) (c d : ASN1Class) (j k : Bool) (n p m : ℕ) : Type 0 where
  pub encoding : s ≡ shortest_encoding d k p contents
  pub whole : contents ++ r ≡ own ++ rest
  pub size : length contents ≡ m
  pub class : c ≡ d
  pub constructed : j ≡ k
  pub tag : n ≡ p

-- an encoding at the front of octets that begin with a canonical header has this header
pub HasCanonicalFront-header :
    (x s r contents own rest : List ℕ) (c d : ASN1Class) (j k : Bool) (n p h m : ℕ) →
    x ≡ s ++ r → Encoding s c j n contents h → m < 2 ^ 64 →
    x ≡ shortest_identifier d k p ++ (shortest_length m ++ (own ++ rest)) →
    HasCanonicalFront s contents own r rest c d j k n p m
HasCanonicalFront-header x s r contents own rest c d j k n p h m w F small e =
    let e1 : F.identifier ++ (F.len ++ (contents ++ r)) ≡ shortest_identifier d k p
    ++ (shortest_length m ++ (own ++ rest)) =
    sym (append_assoc-four F.identifier F.len contents r) ∙ (ap (λ z. z ++ r) (sym F.whole) ∙ (sym w ∙ e)) in
    let t = IsIdentifier-unique F.identifier (shortest_identifier d k p) (F.len ++ (contents ++ r))
    (shortest_length m ++ (own ++ rest)) c d j k n p F.identifier_octets (IsIdentifier-shortest d k p) e1 in
    let l = IsLength-unique F.len (shortest_length m) (contents ++ r) (own ++ rest) (length contents) m F.length_octets
    (IsLength-shortest m small) t.rest in
    record {
      encoding = F.whole ∙ (ap (λ z. z ++ (F.len ++ contents)) t.octets
          ∙ (ap (λ z. shortest_identifier d k p ++ (z ++ contents)) l.octets ∙
          ap (λ z. shortest_identifier d k p ++ (shortest_length z ++ contents)) (sym l.number)));
      whole = l.rest;
      size = l.number;
      class = t.class;
      constructed = t.constructed;
      tag = t.tag;
    }

-- octets that encode trees, at the front of octets that begin with the trees' canonical octets, are these
all_canonical-front :
    (o : ℕ) (y z w : List ℕ) (bs : Trees ℕ) → length (y ++ z) < 2 ^ 64 → EncodesAll o y bs →
    y ++ z ≡ all_canonical bs ++ w → (y ≡ all_canonical bs) × (z ≡ w)
all_canonical-front o y z w no_trees small s e = (s, ap (λ q. q ++ z) (sym s) ∙ e)
all_canonical-front o y z w (more_trees b bs) small s e =
    let d : s.first ++ (s.rest ++ z) ≡ canonical b ++ (all_canonical bs ++ w) =
    sym (append_assoc s.first s.rest z) ∙ (ap (λ q. q ++ z) (sym s.whole) ∙
    (e ∙ append_assoc (canonical b) (all_canonical bs) w)) in
    let n : length (y ++ z) ≡ length s.first + length (s.rest ++ z) =
    ap length (ap (λ q. q ++ z) s.whole ∙ append_assoc s.first s.rest z) ∙ length-append s.first (s.rest ++ z) in
    let m : length s.first + length (s.rest ++ z) ≡ length (canonical b) + length (all_canonical bs ++ w) =
    sym (length-append s.first (s.rest ++ z)) ∙ (ap length d ∙ length-append (canonical b) (all_canonical bs ++ w)) in
    let F = IsEncoding-block s.first (IsBlock-encodes o s.first b s.item) in
    let G = IsEncoding-canonical b (omega (arith, small, n, m)) in
    let h = Encoding-unique _ _ _ _ _ _ _ _ _ _ _ _ (s.rest ++ z) (all_canonical bs ++ w) F.encoding G.encoding d in
    let r = all_canonical-front (o + length s.first) s.rest z w bs (omega (arith, small, n)) s.items h.rest in
    (s.whole ∙ (ap (λ q. q ++ s.rest) h.octets ∙ ap (λ q. canonical b ++ q) r.0), r.1)

-- octets of length 0 are canonical
pub AreCanonical-empty : (x : List ℕ) → length x ≡ 0 → AreCanonical x
AreCanonical-empty x none o no_trees s = s
AreCanonical-empty x none o (more_trees b bs) s =
    absurd (omega (
      arith,
      none,
      IsBlock-not_empty s.first (IsBlock-encodes o s.first b s.item),
      ap length s.whole,
      length-append s.first s.rest,
    ))

-- encodings of the same fields and contents octets are the same
pub shortest_encoding-same_fields : (c d : ASN1Class) (j k : Bool) (m n : ℕ) (v w : List ℕ) → c ≡ d → j ≡ k →
    m ≡ n → v ≡ w → shortest_encoding c j m v ≡ shortest_encoding d k n w
shortest_encoding-same_fields c d j k m n v w p q r s =
    ap (λ z. shortest_encoding z j m v) p ∙ (ap (λ z. shortest_encoding d z m v) q
    ∙ (ap (λ z. shortest_encoding d k z v) r ∙ ap (λ z. shortest_encoding d k n z) s))

-- a canonical encoding followed by canonical octets of trees is canonical octets
all_canonical-first_and_rest : (o : ℕ) (x s r rest written : List ℕ) (bs : Trees ℕ) → x ≡ s ++ r → EncodesAll o r bs →
    s ≡ written → r ≡ rest →
    AreCanonical rest
    → x ≡ written ++ all_canonical bs
all_canonical-first_and_rest o x s r rest written bs w t here then after =
    w ∙ (ap (λ z. z ++ r) here ∙ ap (λ z. written ++ z) (then ∙ after o bs (subst (λ z. EncodesAll o z bs) then t)))

-- contents octets fit in a slice where those around them do
length-contents_lt : (x own rest : List ℕ) (c : ASN1Class) (k : Bool) (n : ℕ) → length x < 2 ^ 64
    → x ≡ shortest_identifier c k n ++ (shortest_length (length own) ++ (own ++ rest)) → length own < 2 ^ 64
length-contents_lt x own rest c k n few e =
    let i = shortest_identifier c k n in
    let l = shortest_length (length own) in
    omega (
      arith,
      few,
      ap length e,
      length-append i (l ++ (own ++ rest)),
      length-append l (own ++ rest),
      length-append own rest,
    )

-- octets are canonical if those behind a canonical encoding of no SEQUENCE or SET are
AreCanonical-past : (x own rest : List ℕ) (c : ASN1Class) (k : Bool) (n : ℕ) → length x < 2 ^ 64 →
    AreCanonicalContents c k n own
    → x ≡ shortest_identifier c k n ++ (shortest_length (length own) ++ (own ++ rest)) → AreCanonical rest →
    AreCanonical x
AreCanonical-past x own rest c k n few keeps e after o no_trees s = s
AreCanonical-past x own rest c k n few keeps e after o (more_trees (leaf p l) bs) s =
    let (_, bit, contents, header, F, means) = s.item in
    let f =
    HasCanonicalFront-header x s.first s.rest contents own rest Universal c bit k (leaf_tag l) n header
    (length own) s.whole F (length-contents_lt x own rest c k n few e) e in
    let q = append-injective contents own s.rest rest f.size f.whole in
    let written = keeps.leaf (sym f.class) l (sym f.tag) (subst (LeafContents l) q.0 means) in
    let here =
    f.encoding ∙ shortest_encoding-same_fields c Universal k false n (leaf_tag l) contents (leaf_contents l)
    (sym f.class) (keeps.primitive (sym f.class) l (sym f.tag)) (sym f.tag) (q.0 ∙ written) in
    all_canonical-first_and_rest (o + length s.first) x s.first s.rest rest
    (canonical (leaf p l)) bs s.whole s.items here q.1 after
AreCanonical-past x own rest c k n few keeps e after o (more_trees (group p g held) bs) s =
    let (_, bit, contents, header, F, _) = s.item in
    let f =
    HasCanonicalFront-header x s.first s.rest contents own rest Universal c bit k (group_tag g) n header
    (length own) s.whole F (length-contents_lt x own rest c k n few e) e in
    absurd (keeps.no_group (sym f.class) g (sym f.tag))
AreCanonical-past x own rest c k n few keeps e after o (more_trees (explicit d p m b) bs) s =
    let (_, other, contents, header, F, encoded) = s.item in
    let f = HasCanonicalFront-header x s.first s.rest contents own rest d c true k m n header (length own) s.whole F
    (length-contents_lt x own rest c k n few e) e in
    let q = append-injective contents own s.rest rest f.size f.whole in
    let within = keeps.within (λ u. other (f.class ∙ u)) (sym f.constructed) in
    let place = o + header in
    let item : EncodesAll place own (more_trees b no_trees) =
    EncodesAll-single place own b (subst (λ z. Encodes place z b) q.0 encoded) in
    let written : own ≡ canonical b = within place (more_trees b no_trees) item ∙ append-nil (canonical b) in
    let here = f.encoding
    ∙ shortest_encoding-same_fields c d k true n m contents (canonical b) (sym f.class) (sym f.constructed) (sym f.tag)
    (q.0 ∙ written) in
    all_canonical-first_and_rest (o + length s.first) x s.first s.rest rest
    (canonical (explicit d p m b)) bs s.whole s.items here q.1 after
AreCanonical-past x own rest c k n few keeps e after o (more_trees (unknown d j p m v) bs) s =
    let (_, header, F, _) = s.item in
    let f = HasCanonicalFront-header x s.first s.rest v own rest d c j k m n header (length own) s.whole F
    (length-contents_lt x own rest c k n few e) e in
    let q = append-injective v own s.rest rest f.size f.whole in
    let here =
    f.encoding ∙ shortest_encoding-same_fields c d k j n m v v (sym f.class) (sym f.constructed) (sym f.tag) refl in
    all_canonical-first_and_rest (o + length s.first) x s.first s.rest rest
    (canonical (unknown d j p m v)) bs s.whole s.items here q.1 after

-- octets with the shortest header of a SEQUENCE or SET are canonical if those behind the header are
AreCanonical-into_group : (x rest : List ℕ) (g : GroupKind) (m : ℕ) → length x < 2 ^ 64 → m < 2 ^ 64
    → x ≡ shortest_identifier Universal true (group_tag g) ++ (shortest_length m ++ rest) → AreCanonical rest →
    AreCanonical x
AreCanonical-into_group x rest g m few small e after o no_trees s = s
AreCanonical-into_group x rest g m few small e after o (more_trees (leaf p l) bs) s =
    let (_, bit, contents, header, F, _) = s.item in
    let f =
    HasCanonicalFront-header x s.first s.rest contents [] rest Universal Universal bit true (leaf_tag l)
    (group_tag g) header m s.whole F small e in
    absurd (leaf_tag-not_group_tag l g f.tag)
AreCanonical-into_group x rest g m few small e after o (more_trees (explicit d p n b) bs) s =
    let (_, other, contents, header, F, _) = s.item in
    let f =
    HasCanonicalFront-header x s.first s.rest contents [] rest d Universal true true n
    (group_tag g) header m s.whole F small e in
    absurd (other f.class)
AreCanonical-into_group x rest g m few small e after o (more_trees (unknown d j p n v) bs) s =
    let (_, header, F, stays) = s.item in
    let f =
    HasCanonicalFront-header x s.first s.rest v [] rest d Universal j true n (group_tag g) header m s.whole F small e in
    absurd (elim stays [ inl (_, no_rule) ↦ no_rule.1 g f.tag | inr (class, _) ↦ class f.class ])
AreCanonical-into_group x rest g m few small e after o (more_trees (group p h held) bs) s =
    let (_, bit, contents, header, F, items) = s.item in
    let r = s.rest in
    let place = o + header in
    let f =
    HasCanonicalFront-header x s.first r contents [] rest Universal Universal bit true (group_tag h)
    (group_tag g) header m s.whole F small e in
    let size : o + length s.first ≡ place + length contents = omega (
      arith,
      F.size,
      ap length F.whole,
      length-append F.identifier (F.len ++ contents),
      length-append F.len contents,
    ) in
    let fits : length (contents ++ r) < 2 ^ 64 =
    omega (arith, few, size, ap length s.whole, length-append s.first r, length-append contents r) in
    let all : EncodesAll place (contents ++ r) (joined held bs) =
    EncodesAll-joined place contents r held bs items (subst (λ z. EncodesAll z r bs) size s.items) in
    let written = f.whole
    ∙ (after place (joined held bs) (subst (λ z. EncodesAll place z (joined held bs)) f.whole all)
    ∙ all_canonical-joined held bs) in
    let v = all_canonical-front place contents r (all_canonical bs) held fits items written in
    let here = f.encoding
    ∙ shortest_encoding-same_fields Universal Universal true true (group_tag g) (group_tag h) contents
    (all_canonical held) refl
    refl (sym f.tag) v.0 in
    s.whole ∙ (ap (λ z. z ++ r) here ∙ ap (λ z. canonical (group p h held) ++ z) v.1)

-- the shortest length octets are not empty
shortest_length-not_empty : (n : ℕ) → 0 < length (shortest_length n)
shortest_length-not_empty n =
    let ds = digits_of 256 n in
    let long = (128 + length ds) ∷ ds in
    elim (cases_lt n 128) [
      | inl lt ↦ subst (λ s. 0 < length s) (cond_below n 128 (n ∷ []) long lt) (omega arith)
      | inr ge ↦ subst (λ s. 0 < length s) (cond_above n 128 (n ∷ []) long long ge refl) (omega arith)
    ]

-- a header takes two octets or more
length-two_octets_fewer : (x own rest : List ℕ) (c : ASN1Class) (k : Bool) (n m : ℕ) →
    x ≡ shortest_identifier c k n ++ (shortest_length m ++ (own ++ rest))
    → length own + length rest + 2 ≤ length x
length-two_octets_fewer x own rest c k n m e =
    let i = shortest_identifier c k n in
    let l = shortest_length m in
    omega (
      arith,
      IsIdentifier-not_empty i c k n (IsIdentifier-shortest c k n),
      shortest_length-not_empty m,
      ap length e,
      length-append i (l ++ (own ++ rest)),
      length-append l (own ++ rest),
      length-append own rest,
    )

-- contents octets of a tag without a rule are canonical
pub AreCanonicalContents-no_rule : (c : ASN1Class) (k : Bool) (n : ℕ) (own : List ℕ) →
    (c ≡ Universal → is_known_tag n ≡ false) →
    (c ≢ Universal → k ≡ true → ⊥)
    → AreCanonicalContents c k n own
AreCanonicalContents-no_rule c k n own plain closed = record {
  no_group = λ u g e. false≢true (sym (plain u) ∙ ap is_known_tag e ∙ is_known_tag-group_tag g);
  primitive = λ u l e. absurd (false≢true (sym (plain u) ∙ ap is_known_tag e ∙ is_known_tag-leaf_tag l));
  leaf = λ u l e p. absurd (false≢true (sym (plain u) ∙ ap is_known_tag e ∙ is_known_tag-leaf_tag l));
  within = λ other e. absurd (closed other e);
}

-- an encoding with canonical contents octets leaves the octets after it
LeavesBoth-past : (x own rest : List ℕ) (c : ASN1Class) (k : Bool) (n : ℕ) → length x < 2 ^ 64
    → x ≡ shortest_identifier c k n ++ (shortest_length (length own) ++ (own ++ rest)) →
    AreCanonicalContents c k n own → LeavesBoth x [] rest
LeavesBoth-past x own rest c k n few e keeps = record {
  canonical = λ none after. AreCanonical-past x own rest c k n few keeps e after;
  fewer = omega (arith, length-two_octets_fewer x own rest c k n (length own) e);
}

-- an encoding of another class than Universal leaves its contents octets
LeavesBoth-within : (x own rest : List ℕ) (c : ASN1Class) (k : Bool) (n : ℕ) → length x < 2 ^ 64
    → x ≡ shortest_identifier c k n ++ (shortest_length (length own) ++ (own ++ rest)) → c ≢ Universal →
    LeavesBoth x own rest
LeavesBoth-within x own rest c k n few e other = record {
  canonical = λ inside after. AreCanonical-past x own rest c k n few (record {
    no_group = λ u. absurd (other u);
    primitive = λ u. absurd (other u);
    leaf = λ u. absurd (other u);
    within = λ not k. inside;
  }) e after;
  fewer = length-two_octets_fewer x own rest c k n (length own) e;
}

-- a SEQUENCE or SET leaves all octets after its header
LeavesBoth-into_group : (x rest : List ℕ) (g : GroupKind) (m : ℕ) → length x < 2 ^ 64 → m < 2 ^ 64
    → x ≡ shortest_identifier Universal true (group_tag g) ++ (shortest_length m ++ rest) → LeavesBoth x [] rest
LeavesBoth-into_group x rest g m few small e = record {
  canonical = λ none after. AreCanonical-into_group x rest g m few small e after;
  fewer = length-two_octets_fewer x [] rest Universal true (group_tag g) m e;
}

-- the last octet of a header whose length octets are 80 alone
get_or-last_of_header : (x i l : List ℕ) (size : ℕ) → size ≤ length x → take size x ≡ i ++ l → l ≡ 128 ∷ [] →
    get_or x (size - 1) 0 ≡ 128
get_or-last_of_header x i l size within HasCanonicalFront-header one =
    let f : take size x ≡ i ++ 128 ∷ [] = HasCanonicalFront-header ∙ ap (λ z. i ++ z) one in
    let n = length-take-le size x within in
    let m : length (take size x) ≡ length i + 1 = ap length f ∙ length-append i (128 ∷ []) in
    ap (λ z. get_or z (size - 1) 0) (sym (take-append-drop size x))
    ∙ get_or_append_left (take size x) (drop size x) 0 (size - 1) (omega (arith, n, m))
    ∙ ap (λ z. get_or z (size - 1) 0) f
    ∙ get_or_push i 128 0 (size - 1) (omega (arith, n, m))

-- length octets 80 announce no contents octets
IsLength-80 : (l : List ℕ) (n : ℕ) → IsLength l n → l ≡ 128 ∷ [] → n ≡ 0
IsLength-80 l n is one =
    elim (subst (λ z. IsLength z n) one is) [ inl q ↦ absurd (omega (arith, q.0)) | inr q ↦ q.2 ]

-- the octets of a header, all of them octets
pub record AreHeaderOctets (i l : List ℕ) : Type 0 where
  pub identifier : All (λ b. b < 256) i
  pub len : All (λ b. b < 256) l

-- the octets of a header at the front of octets are octets
pub AreHeaderOctets-front : (x i l : List ℕ) (size : ℕ) → All (λ b. b < 256) x → take size x ≡ i ++ l →
    AreHeaderOctets i l
AreHeaderOctets-front x i l size all whole =
    let octets : All (λ b. b < 256) (i ++ l) = subst (All (λ b. b < 256)) whole (All-take (λ b. b < 256) size x all) in
    record {
      identifier = subst (All (λ b. b < 256)) (take-append_seam i l)
          (All-take (λ b. b < 256) (length i) (i ++ l) octets);
      len = subst (All (λ b. b < 256)) (drop-append_seam i l) (All-drop (λ b. b < 256) (length i) (i ++ l) octets);
    }

-- a header has the octets of its identifier and its length
pub length-header_parts : (x i l : List ℕ) (size : ℕ) → size ≤ length x → take size x ≡ i ++ l →
    size ≡ length i + length l
length-header_parts x i l size within whole = sym (length-take-le size x within) ∙ (ap length whole ∙ length-append i l)

-- a header as long as the shortest, whose length octets are not 80, is the shortest
pub BeginsShortest-of_size : (x : List ℕ) (h : Header) → All (λ b. b < 256) x → IsAtFront x h →
    (h.announced ≡ 0 → get_or x (h.size - 1) 0 ≢ 128)
    → length (shortest_identifier h.class h.constructed h.tag) + length (shortest_length h.announced) ≡ h.size →
    BeginsShortest x h
BeginsShortest-of_size x h all f other same =
    let i = f.identifier in
    let l = f.len in
    let p = AreHeaderOctets-front x i l h.size all f.front_is in
    let size = length-header_parts x i l h.size f.within f.front_is in
    let a = length-shortest_identifier_le i h.class h.constructed h.tag f.fields in
    let b = length-shortest_length_le l h.announced p.len f.length_octets in
    let not : l ≢ 128 ∷ [] = λ one.
    other (IsLength-80 l h.announced f.length_octets one)
    (get_or-last_of_header x i l h.size f.within f.front_is one) in
    record {
      within = f.within;
      shortest = f.front_is ∙ ap₂ (λ s t. s ++ t)
          (shortest_identifier-only i h.class h.constructed h.tag p.identifier f.fields
          (omega (arith, size, a, b, same)))
          (shortest_length-only l h.announced p.len not f.length_octets (omega (arith, size, a, b, same)));
    }

-- octets that begin with a shortest header are this header and what follows it
pub append-shortest_header : (x rest : List ℕ) (h : Header) → BeginsShortest x h → rest ≡ drop h.size x
    → x ≡ shortest_identifier h.class h.constructed h.tag ++ (shortest_length h.announced ++ rest)
append-shortest_header x rest h f behind =
    let i = shortest_identifier h.class h.constructed h.tag in
    let l = shortest_length h.announced in
    sym (take-append-drop h.size x)
    ∙ (ap (λ z. z ++ drop h.size x) f.shortest ∙ (ap (λ z. (i ++ l) ++ z) (sym behind) ∙ append_assoc i l rest))

-- octets that begin with a shortest header and its contents octets are this encoding and what follows it
pub append-shortest_encoding : (x rest own after : List ℕ) (h : Header) → BeginsShortest x h → rest ≡ drop h.size x →
    rest ≡ own ++ after → length own ≡ h.announced
    → x ≡ shortest_identifier h.class h.constructed h.tag ++ (shortest_length (length own) ++ (own ++ after))
append-shortest_encoding x rest own after h f behind whole size =
    let i = shortest_identifier h.class h.constructed h.tag in
    append-shortest_header x rest h f behind
    ∙ (ap (λ z. i ++ (shortest_length h.announced ++ z)) whole
    ∙ ap (λ z. i ++ (shortest_length z ++ (own ++ after))) (sym size))

-- a SEQUENCE or SET leaves all octets after its header
pub LeavesBoth-group : (x rest : List ℕ) (h : Header) → length x < 2 ^ 64 → h.announced < 2 ^ 64 → BeginsShortest x h →
    rest ≡ drop h.size x
    → IsOfGroup h → LeavesBoth x [] rest
LeavesBoth-group x rest h few small f behind is = elim is.2 [ inl tag ↦ of Sequence tag | inr tag ↦ of Set tag ]
  where
    -- a header of a SEQUENCE or SET leaves all octets after it, whichever of the two tag numbers it has
    of : (g : GroupKind) → h.tag ≡ group_tag g → LeavesBoth x [] rest
    of g tag = LeavesBoth-into_group x rest g h.announced few small (append-shortest_header x rest h f behind ∙ (
        ap (λ z. shortest_identifier z h.constructed h.tag ++ (shortest_length h.announced ++ rest)) is.0
        ∙ (ap (λ z. shortest_identifier Universal z h.tag ++ (shortest_length h.announced ++ rest)) is.1
        ∙ ap (λ z. shortest_identifier Universal true z ++ (shortest_length h.announced ++ rest)) tag)
        ))

-- an encoding of class Universal whose contents octets are canonical leaves the octets after it
pub LeavesBoth-universal : (x rest own after : List ℕ) (h : Header) → length x < 2 ^ 64 → BeginsShortest x h →
    rest ≡ drop h.size x → rest ≡ own ++ after
    → length own ≡ h.announced → h.class ≡ Universal → AreCanonicalContents Universal h.constructed h.tag own →
    LeavesBoth x [] after
LeavesBoth-universal x rest own after h few f behind whole size class keeps =
    LeavesBoth-past x own after h.class h.constructed h.tag few
    (append-shortest_encoding x rest own after h f behind whole size)
    (subst (λ z. AreCanonicalContents z h.constructed h.tag own) (sym class) keeps)

-- a constructed encoding of another class than Universal leaves its contents octets
pub LeavesBoth-constructed : (x rest own after : List ℕ) (h : Header) → length x < 2 ^ 64 → BeginsShortest x h →
    rest ≡ drop h.size x → rest ≡ own ++ after
    → length own ≡ h.announced → h.class ≢ Universal → LeavesBoth x own after
LeavesBoth-constructed x rest own after h few f behind whole size other =
    LeavesBoth-within x own after h.class h.constructed h.tag few
    (append-shortest_encoding x rest own after h f behind whole size) other

-- a primitive encoding of another class than Universal leaves the octets after it
pub LeavesBoth-primitive : (x rest own after : List ℕ) (h : Header) → length x < 2 ^ 64 → BeginsShortest x h →
    rest ≡ drop h.size x → rest ≡ own ++ after
    → length own ≡ h.announced → h.class ≢ Universal → h.constructed ≡ false → LeavesBoth x [] after
LeavesBoth-primitive x rest own after h few f behind whole size other primitive =
    LeavesBoth-past x own after h.class h.constructed h.tag few
    (append-shortest_encoding x rest own after h f behind whole size)
    (AreCanonicalContents-no_rule h.class h.constructed h.tag own (λ u. absurd (other u))
    (λ not k. false≢true (sym primitive ∙ k)))

-- a header of class Universal in two octets is the shortest header
pub append-short_header : (x rest : List ℕ) (k : Bool) (b n m : ℕ) → n < 31 → b ≡ leading_octet Universal k n →
    m < 128 → x ≡ b ∷ m ∷ rest → x ≡ shortest_identifier Universal k n ++ (shortest_length m ++ rest)
append-short_header x rest k b n m low is short e =
    let ds = digits_of 256 m in
    e ∙ (ap (λ z. z ∷ m ∷ rest) is ∙ ap₂ (λ s t. s ++ (t ++ rest))
    (cond_below n 31 (leading_octet Universal k n ∷ []) (leading_octet Universal k 31 ∷ shortest_base128 n) low)
    (cond_below m 128 (m ∷ []) ((128 + length ds) ∷ ds) short))

-- a SEQUENCE or SET with a header of two octets leaves all octets after it
pub LeavesBoth-short_group : (x rest : List ℕ) (b m : ℕ) → length x < 2 ^ 64 → m < 128 → (b ≡ 48) ⊎ (b ≡ 49) →
    x ≡ b ∷ m ∷ rest →
    LeavesBoth x [] rest
LeavesBoth-short_group x rest b m few short is e = elim is [
  | inl at ↦
      LeavesBoth-into_group x rest Sequence m few (omega arith)
      (append-short_header x rest true b 16 m (omega arith) at short e)
  | inr at ↦
      LeavesBoth-into_group x rest Set m few (omega arith)
      (append-short_header x rest true b 17 m (omega arith) at short e)
]

-- a canonical leaf with a header of two octets leaves the octets after it
pub LeavesBoth-short_leaf : (x own after : List ℕ) (b m : ℕ) → length x < 2 ^ 64 → b < 31 → m < 128 → length own ≡ m →
    x ≡ b ∷ m ∷ (own ++ after)
    → AreCanonicalContents Universal false b own → LeavesBoth x [] after
LeavesBoth-short_leaf x own after b m few low short size e keeps =
    LeavesBoth-past x own after Universal false b few
    (append-short_header x (own ++ after) false b b m low (omega arith) short e
    ∙ ap (λ z. shortest_identifier Universal false b ++ (shortest_length z ++ (own ++ after))) (sym size)) keeps
