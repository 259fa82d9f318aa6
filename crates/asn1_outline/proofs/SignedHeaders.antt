-- The headers of a signed triple and its entries, for `signed::signed_content` and `signed::signed_in`.
use Rattle.std.proofs.Common.{◌≡◌, ℕ, Bor, None, Option, Some, suc, ◌+◌, ◌-◌, ◌<◌, ◌≤◌, ◌^◌, ◌++◌, List, [], ◌∷◌, length, min, refl, sym, ap, ◌∙◌, subst, arith, inl}
use Rattle.std.specs.List.{slice_range}
use Rattle.std.specs.Prelude.{MatchOption}
use Rattle.asn1_headers.specs.declared.tags.TheConstants.{BIT_STRING, OBJECT_IDENTIFIER, SEQUENCE}
use Rattle.asn1_blocks.specs.HeadersBegun.{IsReadInside}
use Rattle.asn1_blocks.specs.Places.{HeaderFound}
use Rattle.asn1_blocks.specs.declared.parsed.PlacedHeader.{PlacedHeader}
use Rattle.asn1_outline.specs.Shapes.{AreEntriesOfShapes, AreShapes, HasItems, HasShapes, Shapes, as_it_came, encoding_octets, entries_of, more_shapes, no_more, no_shapes, not_read, one_more, read_inside, shape_count, shape_entry}
use Rattle.asn1_outline.specs.Triple.{BeginWithTriple, IsUniversal, entry_at}
use Rattle.asn1_outline.specs.TripleHeaders.{HasNoTriple, HasTripleHeaders, IsSignedIn, IsUniversalHeader}
use Rattle.asn1_outline.specs.declared.entry.Entry.{Entry}
use Rattle.asn1_outline.proofs.ShapesAlone.{HeaderFound-unique}

-- an entry behind a front is found behind the front's length
entry_at-append : (front own more : List Entry) (k : ℕ) →
    entry_at ((front ++ own) ++ more) (length front + k) ≡ entry_at (own ++ more) k
entry_at-append [] own more k =
    let here : 0 + k ≡ k = omega arith in
    ap (entry_at (own ++ more)) here
entry_at-append (e ∷ front) own more k =
    let here : suc (length front) + k ≡ suc (length front + k) = omega arith in
    ap (entry_at ((e ∷ (front ++ own)) ++ more)) here ∙ entry_at-append front own more k

-- an encoding that holds three encodings, and what follows it
abbrev shapes_of_three : (w c a s : PlacedHeader) (m o p q : ℕ) (cs bs ss rest : Shapes) → Shapes
shapes_of_three w c a s m o p q cs bs ss rest =
    more_shapes m w (more_shapes o c cs (more_shapes p a bs (more_shapes q s ss no_shapes))) rest

-- the index of the second of the three
abbrev second_index : Shapes → ℕ
second_index cs = suc 1 + length (entries_of 2 2 cs)

-- the index of the third of the three
abbrev third_index : Shapes → Shapes → ℕ
third_index cs bs = suc (second_index cs) + length (entries_of (suc (second_index cs)) 2 bs)

module _ (w c a s : PlacedHeader) (m o p q : ℕ) (cs bs ss rest : Shapes) where
  -- the entries of an encoding that holds three, and of what follows it
  abbrev three_entries : List Entry
  three_entries = entries_of 0 0 (shapes_of_three w c a s m o p q cs bs ss rest)

  -- the entries of the second and third, and of those inside them
  abbrev behind_first : List Entry
  behind_first = entries_of (second_index cs) 1 (more_shapes p a bs (more_shapes q s ss no_shapes))

  -- the entries from the third of the three on
  abbrev behind_second : List Entry
  behind_second = entries_of (third_index cs bs) 1 (more_shapes q s ss no_shapes)

  -- the entries of what follows the encoding that holds three
  abbrev entries_after : List Entry
  entries_after = entries_of (suc
      0 + (length (entries_of 1 1 (more_shapes o c cs (more_shapes p a bs (more_shapes q s ss no_shapes)))))) 0 rest

  -- at or behind the index of the second of the three, entries are those from the second on
  entry_at-second_on : (k : ℕ) → entry_at three_entries (second_index cs + k) ≡ entry_at (behind_first ++ entries_after)
      k
  entry_at-second_on k =
      let here : second_index cs + k ≡ suc (suc (length (entries_of 2 2 cs) + k)) = omega arith in
      ap (entry_at three_entries) here ∙ entry_at-append (entries_of 2 2 cs) behind_first entries_after k

  -- at the index of the second of the three stands the entry of its header
  pub entry_at-second : entry_at three_entries (second_index cs) ≡ shape_entry p a (shape_count bs)
      (third_index cs bs) 1
  entry_at-second =
      let here : second_index cs ≡ second_index cs + 0 = omega arith in
      ap (entry_at three_entries) here ∙ entry_at-second_on 0

  -- at the index of the third of the three stands the entry of its header
  pub entry_at-third : (n : ℕ) → n ≡ third_index cs bs → entry_at three_entries n ≡ shape_entry q s (shape_count ss)
      (suc (third_index cs bs) + length (entries_of (suc (third_index cs bs)) 2 ss)) 1
  entry_at-third n is =
      let inner = entries_of (suc (second_index cs)) 2 bs in
      let here : n ≡ second_index cs + suc (length inner + 0) = omega (arith, is) in
      ap (entry_at three_entries) here ∙ entry_at-second_on (suc (length inner + 0))
      ∙ entry_at-append inner behind_second entries_after 0

-- behind the entry of the second of the three stands that of the first encoding inside it
pub entry_at-inside_second :
    (w c a s i : PlacedHeader) (m o p q r : ℕ) (cs is bs ss rest : Shapes) (n : ℕ) → n ≡ second_index cs + 1
    → entry_at (entries_of 0 0 (shapes_of_three w c a s m o p q cs (more_shapes r i is bs) ss rest)) n
    ≡ shape_entry r i (shape_count is)
    (suc (suc (second_index cs)) + length (entries_of (suc (suc (second_index cs))) 3 is)) 2
entry_at-inside_second w c a s i m o p q r cs is bs ss rest n at =
    let inner = more_shapes r i is bs in
    ap (entry_at (entries_of 0 0 (shapes_of_three w c a s m o p q cs inner ss rest))) at
    ∙ entry_at-second_on w c a s m o p q cs inner ss rest 1

-- a small tag number in an entry is that of the header
min-small_tag : (n tag : ℕ) → min n (2 ^ 64 - 1) ≡ tag → tag < 64 → n ≡ tag
min-small_tag n tag is small = omega (arith, is, small)

-- a small tag number of a header stands in its entry as it is
min-of_small_tag : (n tag : ℕ) → n ≡ tag → tag < 64 → min n (2 ^ 64 - 1) ≡ tag
min-of_small_tag n tag is small = omega (arith, is, small)

-- the header of a universal entry with a small tag number is universal with it
IsUniversalHeader-shape_entry : (o : ℕ) (h : PlacedHeader) (items next depth tag : ℕ) → tag < 64 →
    IsUniversal tag (shape_entry o h items next depth) → IsUniversalHeader tag h
IsUniversalHeader-shape_entry o h items next depth tag small (class, number) =
    (class, min-small_tag h.tag tag number small)

-- the entry of a universal header with a small tag number is universal with it
IsUniversal-shape_entry : (o : ℕ) (h : PlacedHeader) (items next depth tag : ℕ) (e : Entry) → tag < 64 →
    e ≡ shape_entry o h items next depth → IsUniversalHeader tag h
    → IsUniversal tag e
IsUniversal-shape_entry o h items next depth tag e small is (class, number) =
    subst (IsUniversal tag) (sym is) (class, min-of_small_tag h.tag tag number small)

-- the contents octets of a SEQUENCE are read as encodings
IsReadInside-sequence : (h : PlacedHeader) → IsUniversalHeader SEQUENCE h → IsReadInside h.class h.constructed h.tag
IsReadInside-sequence h (class, tag) = subst (λ z. IsReadInside h.class h.constructed z) (sym tag) (inl (class, refl))

-- the items of a SEQUENCE are the shapes of its contents octets
AreShapes-sequence : (x : List ℕ) (h : PlacedHeader) (items : Shapes) → IsUniversalHeader SEQUENCE h →
    HasItems x h items →
    AreShapes x h.start h.end items
AreShapes-sequence x h items u (read_inside i are) = are
AreShapes-sequence x h items u (as_it_came other c q) = absurd (other u.0)
AreShapes-sequence x h items u (not_read shut) = absurd (shut (IsReadInside-sequence h u))

-- shapes begin with the encoding whose header stands at the offset
record IsFirstHeader (x : List ℕ) (p e : ℕ) (all : Shapes) (h : PlacedHeader) : Type 0 where
  items : Shapes
  rest : Shapes
  is : all ≡ more_shapes p h items rest
  has : HasItems x h items
  more : AreShapes x h.end e rest

-- where a header is found, the shapes begin with it
IsFirstHeader-found : (x : List ℕ) (p e : ℕ) (all : Shapes) (h : PlacedHeader) → e ≤ length x → AreShapes x p e all →
    HeaderFound x p e h → IsFirstHeader x p e all h
IsFirstHeader-found x p e all h within (no_more end) f =
    absurd (omega (arith, end, f.starts_after, f.order, f.ends_within))
IsFirstHeader-found x p e all h within (one_more {header = g} {items = items} {rest = rest} f' has more) f =
    let same : g ≡ h = HeaderFound-unique x p e g h within f' f in
    record {
      items = items;
      rest = rest;
      is = ap (λ z. more_shapes p z items rest) same;
      has = subst (λ z. HasItems x z items) same has;
      more = subst (λ (z : PlacedHeader). AreShapes x z.end e rest) same more;
    }

-- where no octets are left, there are no shapes
AreShapes-at_end : (x : List ℕ) (p e : ℕ) (all : Shapes) → p ≡ e → AreShapes x p e all → all ≡ no_shapes
AreShapes-at_end x p e all at (no_more end) = refl
AreShapes-at_end x p e all at (one_more f has more) = absurd (omega (arith, at, f.starts_after, f.order, f.ends_within))

-- entries begin with a triple where shapes do
BeginWithTriple-shapes :
    (w c a i s : PlacedHeader) (m o p q r : ℕ) (cs is bs ss rest : Shapes) → IsUniversalHeader SEQUENCE w →
    IsUniversalHeader SEQUENCE a → IsUniversalHeader OBJECT_IDENTIFIER i
    → IsUniversalHeader BIT_STRING s →
    BeginWithTriple (entries_of 0 0 (shapes_of_three w c a s m o p q cs (more_shapes r i is bs) ss rest))
BeginWithTriple-shapes w c a i s m o p q r cs is bs ss rest uw ua ui us =
    let inner = more_shapes r i is bs in
    let rs = entries_of 0 0 (shapes_of_three w c a s m o p q cs inner ss rest) in
    let at_two = entry_at-second w c a s m o p q cs inner ss rest in
    let next : (entry_at rs (second_index cs)).next ≡ third_index cs inner = ap (λ (z : Entry). z.next) at_two in
    record {
      whole = IsUniversal-shape_entry m w 3 _ 0 SEQUENCE (entry_at rs 0) (omega arith) refl uw;
      three = refl;
      algorithm = IsUniversal-shape_entry p a _ _ 1 SEQUENCE (entry_at rs (second_index cs)) (omega arith) at_two ua;
      some = subst (λ (z : Entry). 0 < z.items) (sym at_two) (omega arith);
      identifier = IsUniversal-shape_entry r i _ _ 2 6 (entry_at rs (second_index cs + 1)) (omega arith)
          (entry_at-inside_second w c a s i m o p q r cs is bs ss rest (second_index cs + 1) refl) ui;
      signature = IsUniversal-shape_entry q s _ _ 1 3 (entry_at rs (entry_at rs (second_index cs)).next) (omega arith)
          (entry_at-third w c a s m o p q cs inner ss rest (entry_at rs (second_index cs)).next next) us;
    }

-- the entries of octets that begin with the headers of a triple begin with a triple of this content
pub BeginWithTriple-headers :
    (x content : List ℕ) (all : Shapes) (w c a i s : PlacedHeader) → HasShapes x all → HasTripleHeaders x w c a i s →
    content ≡ slice_range x w.start c.end
    → BeginWithTriple (entries_of 0 0 all) × (content ≡ encoding_octets x (entry_at (entries_of 0 0 all) 1))
BeginWithTriple-headers x content all w c a i s sh t same =
    let within = t.is_whole.0.ends_within in
    let b = IsFirstHeader-found x 0 (length x) all w (omega arith) sh.shapes t.is_whole.0 in
    let d =
    IsFirstHeader-found x w.start w.end b.items c within (AreShapes-sequence x w b.items t.is_whole.1 b.has)
    t.is_content in
    let e = IsFirstHeader-found x c.end w.end d.rest a within d.more t.is_algorithm.0 in
    let f = IsFirstHeader-found x a.start a.end e.items i (omega (arith, t.is_algorithm.0.ends_within, within))
    (AreShapes-sequence x a e.items t.is_algorithm.1 e.has) t.is_identifier.0 in
    let g = IsFirstHeader-found x a.end w.end e.rest s within e.more t.is_signature.0 in
    let none = AreShapes-at_end x s.end w.end g.rest t.to_the_end g.more in
    let inner = more_shapes a.start i f.items f.rest in
    let is : all ≡ shapes_of_three w c a s 0 w.start c.end a.end d.items inner g.items b.rest =
    b.is
    ∙ ap (λ z. more_shapes 0 w z b.rest) (d.is
    ∙ ap (more_shapes w.start c d.items) (e.is
    ∙ ap (λ z. more_shapes c.end a z e.rest) f.is
    ∙ ap (more_shapes c.end a inner) (g.is ∙ ap (more_shapes a.end s g.items) none))) in
    let own = BeginWithTriple-shapes w c a i s 0 w.start c.end a.end a.start d.items f.items f.rest g.items b.rest
    t.is_whole.1 t.is_algorithm.1 t.is_identifier.1 t.is_signature.1 in
    let end : c.end ≡ w.start + (c.start - w.start) + (c.end - c.start) =
    omega (arith, t.is_content.starts_after, t.is_content.order) in
    let first : content ≡ encoding_octets x
    (entry_at (entries_of 0 0 (shapes_of_three w c a s 0 w.start c.end a.end d.items inner g.items b.rest)) 1) =
    same ∙ ap (slice_range x w.start) end in (
      subst (λ z. BeginWithTriple (entries_of 0 0 z)) (sym is) own,
      subst (λ z. content ≡ encoding_octets x (entry_at (entries_of 0 0 z) 1)) (sym is) first,
    )

-- what shapes say of their first encoding
abbrev FirstOf : List ℕ → ℕ → ℕ → Shapes → Type 0
FirstOf x p e no_shapes = p ≡ e
FirstOf x p e (more_shapes o h items rest) = HeaderFound x p e h × HasItems x h items × AreShapes x h.end e rest

-- shapes begin with a header, or there are no octets
FirstOf-shapes : (x : List ℕ) (p e : ℕ) (all : Shapes) → AreShapes x p e all → FirstOf x p e all
FirstOf-shapes x p e all (no_more end) = end
FirstOf-shapes x p e all (one_more f has more) = (f, has, more)

-- the octets begin with the headers of a triple
abbrev pub HasSomeTriple : List ℕ → Type 0
HasSomeTriple x = (w : PlacedHeader) × (c : PlacedHeader) × (a : PlacedHeader) × (i : PlacedHeader) ×
    (s : PlacedHeader) × HasTripleHeaders x w c a i s

module _ (x : List ℕ) (m : ℕ) (w : PlacedHeader) (rest : Shapes) (found : HeaderFound x 0 (length x) w)
    (uw : IsUniversalHeader SEQUENCE w) where
  -- octets whose entries begin with a triple have its headers, by the items of the first
  HasSomeTriple-inside : (ms : Shapes) → AreShapes x w.start w.end ms → shape_count ms ≡ 3 →
      BeginWithTriple (entries_of 0 0 (more_shapes m w ms rest)) → HasSomeTriple x
  HasSomeTriple-inside no_shapes are three b = absurd (omega (arith, three))
  HasSomeTriple-inside (more_shapes o c cs no_shapes) are three b = absurd (omega (arith, three))
  HasSomeTriple-inside (more_shapes o c cs (more_shapes p a bs no_shapes)) are three b =
      absurd (omega (arith, three))
  HasSomeTriple-inside (more_shapes o c cs (more_shapes p a no_shapes (more_shapes q s ss no_shapes))) are three b =
      let none :
      (entry_at (entries_of 0 0 (shapes_of_three w c a s m o p q cs no_shapes ss rest)) (second_index cs)).items ≡ 0
      =
      ap (λ (z : Entry). z.items) (entry_at-second w c a s m o p q cs no_shapes ss rest) in
      absurd (omega (arith, none, b.some))
  HasSomeTriple-inside (more_shapes o c cs (more_shapes p a (more_shapes r i is bs) (more_shapes q s ss no_shapes)))
      are three
      b =
      let inner = more_shapes r i is bs in
      let rs = entries_of 0 0 (shapes_of_three w c a s m o p q cs inner ss rest) in
      let f = FirstOf-shapes x w.start w.end (more_shapes o c cs (more_shapes p a inner (more_shapes q s ss no_shapes)))
      are in
      let g = FirstOf-shapes x c.end w.end (more_shapes p a inner (more_shapes q s ss no_shapes)) f.2 in
      let h = FirstOf-shapes x a.end w.end (more_shapes q s ss no_shapes) g.2 in
      let ended : s.end ≡ w.end = FirstOf-shapes x s.end w.end no_shapes h.2 in
      let at_two = entry_at-second w c a s m o p q cs inner ss rest in
      let next : (entry_at rs (second_index cs)).next ≡ third_index cs inner = ap (λ (z : Entry). z.next) at_two in
      let ua = IsUniversalHeader-shape_entry p a 0 0 1 SEQUENCE (omega arith)
      (subst (IsUniversal SEQUENCE) at_two b.algorithm) in
      let ui = IsUniversalHeader-shape_entry r i 0 0 2 OBJECT_IDENTIFIER (omega arith)
      (subst (IsUniversal OBJECT_IDENTIFIER)
      (entry_at-inside_second w c a s i m o p q r cs is bs ss rest (second_index cs + 1) refl) b.identifier) in
      let us = IsUniversalHeader-shape_entry q s 0 0 1 BIT_STRING (omega arith)
      (subst (IsUniversal BIT_STRING)
      (entry_at-third w c a s m o p q cs inner ss rest (entry_at rs (second_index cs)).next next) b.signature) in
      let k = FirstOf-shapes x a.start a.end inner (AreShapes-sequence x a inner ua g.1) in (
        w,
        c,
        a,
        i,
        s,
        record {
          is_whole = (found, uw);
          is_content = f.0;
          is_algorithm = (g.0, ua);
          is_identifier = (k.0, ui);
          is_signature = (h.0, us);
          to_the_end = ended;
        },
      )
  HasSomeTriple-inside (more_shapes o c cs (more_shapes p a bs (more_shapes q s ss (more_shapes r i is more))))
      are three b =
      absurd (omega (arith, three))

-- octets whose entries begin with a triple have its headers
HasSomeTriple-shapes : (x : List ℕ) (all : Shapes) → AreShapes x 0 (length x) all →
    BeginWithTriple (entries_of 0 0 all) →
    HasSomeTriple x
HasSomeTriple-shapes x no_shapes are b = absurd (omega (arith, b.three))
HasSomeTriple-shapes x (more_shapes m w ms rest) are b =
    let f = FirstOf-shapes x 0 (length x) (more_shapes m w ms rest) are in
    let uw = IsUniversalHeader-shape_entry m w 0 0 0 SEQUENCE (omega arith) b.whole in
    HasSomeTriple-inside x m w rest f.0 uw ms (AreShapes-sequence x w ms uw f.1) b.three b

-- the entries of octets that begin with the headers of no triple begin with no triple
pub HasNoTriple-entries : (x : List ℕ) (all : Shapes) → HasShapes x all → HasNoTriple x →
    BeginWithTriple (entries_of 0 0 all) →
    ⊥
HasNoTriple-entries x all sh none b =
    let (w, c, a, i, s, t) = HasSomeTriple-shapes x all sh.shapes b in
    none w c a i s t

-- a triple's headers are those that were found
module _ (x : List ℕ) (w c a i s : PlacedHeader) (t : HasTripleHeaders x w c a i s) where
  -- the first header of a triple is the one that was found
  pub HasTripleHeaders-whole : (v : PlacedHeader) → HeaderFound x 0 (length x) v → HasTripleHeaders x v c a i s
  HasTripleHeaders-whole v found =
      let same : w ≡ v = HeaderFound-unique x 0 (length x) w v (omega arith) t.is_whole.0 found in
      subst (λ z. HasTripleHeaders x z c a i s) same t

  -- the header of what was signed is the one that was found
  pub HasTripleHeaders-content : (d : PlacedHeader) → HeaderFound x w.start w.end d → HasTripleHeaders x w d a i s
  HasTripleHeaders-content d found =
      let same : c ≡ d = HeaderFound-unique x w.start w.end c d t.is_whole.0.ends_within t.is_content found in
      subst (λ z. HasTripleHeaders x w z a i s) same t

  -- the header of the algorithm is the one that was found
  pub HasTripleHeaders-algorithm : (b : PlacedHeader) → HeaderFound x c.end w.end b → HasTripleHeaders x w c b i s
  HasTripleHeaders-algorithm b found =
      let same : a ≡ b = HeaderFound-unique x c.end w.end a b t.is_whole.0.ends_within t.is_algorithm.0 found in
      subst (λ z. HasTripleHeaders x w c z i s) same t

  -- the header of the signature is the one that was found
  pub HasTripleHeaders-signature : (r : PlacedHeader) → HeaderFound x a.end w.end r → HasTripleHeaders x w c a i r
  HasTripleHeaders-signature r found =
      let same : s ≡ r = HeaderFound-unique x a.end w.end s r t.is_whole.0.ends_within t.is_signature.0 found in
      subst (λ z. HasTripleHeaders x w c a i z) same t

-- what was found by headers is found by entries
pub MatchOption-signed_content :
    (x : List ℕ) (found : Option (Bor (List ℕ))) (all : Shapes) → HasShapes x all →
    MatchOption found (HasNoTriple x) (λ content. IsSignedIn x content.now)
    → (entries : List Entry) × AreEntriesOfShapes x entries × MatchOption found (BeginWithTriple entries → ⊥)
    (λ content. BeginWithTriple entries × (content.now ≡ encoding_octets x (entry_at entries 1)))
MatchOption-signed_content x None all sh none = (entries_of 0 0 all, (all, sh, refl), HasNoTriple-entries x all sh none)
MatchOption-signed_content x (Some content) all sh (w, c, a, i, s, t, same) =
    (entries_of 0 0 all, (all, sh, refl), BeginWithTriple-headers x content.now all w c a i s sh t same)
