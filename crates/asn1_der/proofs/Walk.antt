-- One turn of the list of departures, for `listing`.
use Rattle.std.proofs.Common.{◌≡◌, ℕ, ◌+◌, ◌-◌, ◌≤◌, Bool, true, false, List, [], ◌∷◌, ◌++◌, drop, inl, inr, length, refl, sym, take, ap, ◌∙◌, subst, arith, append-nil, append_assoc}
use Rattle.std.specs.List.{slice_range}
use Rattle.std.specs.Prelude.{suc, if◌then◌else◌, not}
use Rattle.std.proofs.lemmas.List.{drop-append-le, drop_all, drop_at, take-append-drop, take-append-le, take_all}
use Rattle.asn1_der.proofs.Fronts.{AreEncodings-behind_end, AreEncodings-behind_next, is_at_end-parts, is_at_end-none_in_front}
use Rattle.asn1_headers.proofs.IndefiniteForms.{begins_with_end-cons}
use Rattle.asn1_headers.specs.Fault.{DecodeFault}
use Rattle.asn1_blocks.specs.Places.{HeaderFound}
use Rattle.asn1_blocks.specs.declared.parsed.PlacedHeader.{PlacedHeader}
use Rattle.asn1_blocks.proofs.PlacedHeaders.{length-slice_range-at_header, slice_range-at_header, starts_before_end}
use Rattle.asn1_blocks.proofs.ReadSteps.{slice_range-append, length-slice_range}
use Rattle.asn1_der.specs.Departures.{AreEncodings, HeaderFaultBehind, IsNext, Lists, behind, behind_end_of_contents, ListsInside, OwnRules, encoding_listed, encodings_inside, end_listed, is_looked_into, is_open, no_encodings_inside, none_left, own_departures, unended_behind}
use Rattle.asn1_der.specs.Listing.{AreExtents, Completes, is_at_end}
use Rattle.asn1_headers.specs.Indefinite.{begins_with_end}
use Rattle.asn1_der.specs.declared.listing.Extent.{Extent}
use Rattle.asn1_der.specs.declared.rule.Departure.{Departure}
use Rattle.asn1_blocks.proofs.Frames.Slices.{slice_range-empty}

-- the last of extents that ascend from an index does not end before the index
pub AreExtents-le : (x : List ℕ) (i n : ℕ) (es : List Extent) → AreExtents x i n es → i ≤ length x
AreExtents-le x i n [] h = omega (arith, h)
AreExtents-le x i n (e ∷ es) h = omega (arith, h.order, AreExtents-le x e.end e.listed es h.around)

-- extents below which more departures are found stay extents
pub AreExtents-more : (x : List ℕ) (i m n : ℕ) (es : List Extent) → m ≤ n → AreExtents x i m es → AreExtents x i n es
AreExtents-more x i m n [] more h = h
AreExtents-more x i m n (e ∷ es) more h = record {
  order = h.order;
  room = h.room;
  among = omega (arith, h.among, more);
  first_fault = h.first_fault;
  around = h.around;
}

module _ (x : List ℕ) (i e : ℕ) (h : PlacedHeader) (f : HeaderFound x i e h) (within : e ≤ length x) (u : ℕ)
    (no_end : is_at_end u (slice_range x i e) ≡ false) where
  -- where no end-of-contents octets close an encoding, the encoding of a header stands before what follows it
  pub IsNext-at_header : IsNext u (slice_range x i e) (slice_range x i h.end) (slice_range x h.end e)
  IsNext-at_header = record {
    class = h.class;
    constructed = h.constructed;
    tag = h.tag;
    contents = slice_range x h.start h.end;
    header = h.start - i;
    encoding = f.encoding;
    whole = slice_range-at_header x i e h f within;
    no_end = is_at_end-none_in_front u (slice_range x i e) (slice_range x i h.end) (slice_range x h.end e)
        (slice_range-at_header x i e h f within) no_end;
  }

  -- what is listed is the departures of the encoding in front, those inside it, and those behind it
  pub Lists-at_header :
      (r : OwnRules f.encoding.identifier f.encoding.len h.class h.constructed h.tag (slice_range x h.start h.end))
      (inside later : List Departure) →
      ListsInside i h.start (is_looked_into h.constructed f.encoding.len) (slice_range x h.start h.end) inside →
      Lists (unended_behind u h.constructed f.encoding.len) h.end (slice_range x h.end e) later →
      Lists u i (slice_range x i e) (own_departures i r ++ (inside ++ later))
  unfolding IsNext-at_header
  Lists-at_header r inside later ins ls =
      let len = f.encoding.len in
      let at : i + (h.start - i) ≡ h.start = omega (arith, f.starts_after) in
      let to : i + length (slice_range x i h.end) ≡ h.end =
      omega (arith, length-slice_range-at_header x i e h f within, starts_before_end x i e h f within) in
      encoding_listed IsNext-at_header r
      (subst (λ z. ListsInside i z (is_looked_into h.constructed len) (slice_range x h.start h.end) inside) (sym at)
      ins)
      (subst (λ z. Lists (unended_behind u h.constructed len) z (slice_range x h.end e) later) (sym to) ls)
      refl

-- octets that begin with end-of-contents octets are these two and what is behind them
pub slice_range-end_of_contents :
    (x : List ℕ) (i e : ℕ) → i ≤ e → e ≤ length x → begins_with_end (slice_range x i e) ≡ true →
    (i + 2 ≤ e) × (slice_range x i e ≡ 0 ∷ 0 ∷ slice_range x (i + 2) e)
slice_range-end_of_contents x i e order within front =
    let y = slice_range x i e in
    let whole : y ≡ 0 ∷ 0 ∷ drop 2 y = begins_with_end-cons y front in
    let two : i + 2 ≤ e = omega (arith, ap length whole, length-slice_range x i e order within) in
    let join : y ≡ slice_range x i (i + 2) ++ slice_range x (i + 2) e =
    slice_range-append x i (i + 2) e (omega arith) two in
    let size : length (slice_range x i (i + 2)) ≡ 2 =
    length-slice_range x i (i + 2) (omega arith) (omega (arith, two, within)) ∙ omega arith in (
      two,
      whole ∙ ap (λ z. 0 ∷ 0 ∷ z)
          (ap (drop 2) join ∙ drop_at (slice_range x i (i + 2)) (slice_range x (i + 2) e) 2 size),
    )

-- what is listed, and what encodings are, from an index on is told by what is behind the next, after departures that
-- are listed between them
pub record StepsTo (x : List ℕ) (e u i v j : ℕ) (between : List Departure) : Type 0 where
  pub lists : (later : List Departure) → Lists v j (slice_range x j e) later
      → Lists u i (slice_range x i e) (between ++ later)
  pub encodings : AreEncodings u (slice_range x i e) → AreEncodings v (slice_range x j e)

module _ (x : List ℕ) (e u i : ℕ) (order : i ≤ e) (within : e ≤ length x)
    (t : is_at_end u (slice_range x i e) ≡ true) where
  -- end-of-contents octets that close an encoding, and the octets behind them
  pub slice_range-at_end : (i + 2 ≤ e) × (slice_range x i e ≡ 0 ∷ 0 ∷ slice_range x (i + 2) e)
  slice_range-at_end = slice_range-end_of_contents x i e order within (is_at_end-parts u (slice_range x i e) t).1

  -- one encoding fewer is open behind them
  one_fewer : u ≡ (u - 1) + 1
  one_fewer = omega (arith, (is_at_end-parts u (slice_range x i e) t).0)

  -- what is behind them tells what is from them on
  pub StepsTo-end : StepsTo x e u i (u - 1) (i + 2) []
  StepsTo-end = record {
    lists = λ later ls. end_listed one_fewer slice_range-at_end.1 ls;
    encodings = AreEncodings-behind_end u (u - 1) (slice_range x i e) (slice_range x (i + 2) e) one_fewer
        slice_range-at_end.1;
  }

  -- the header at fault behind them is the first from them on
  pub HeaderFaultBehind-end : (place : ℕ) (fault : DecodeFault)
      → HeaderFaultBehind (u - 1) (i + 2) (slice_range x (i + 2) e) place fault
      → HeaderFaultBehind u i (slice_range x i e) place fault
  HeaderFaultBehind-end place fault w = behind_end_of_contents one_fewer slice_range-at_end.1 w

module _ (x : List ℕ) (i e : ℕ) (h : PlacedHeader) (f : HeaderFound x i e h) (within : e ≤ length x) (u v : ℕ)
    (no_end : is_at_end u (slice_range x i e) ≡ false) (count : v ≡ unended_behind u h.constructed f.encoding.len) where
  -- what is behind an encoding tells what is from it on, with what it breaks and what is listed inside it
  pub StepsTo-next :
      (r : OwnRules f.encoding.identifier f.encoding.len h.class h.constructed h.tag (slice_range x h.start h.end))
      (inside : List Departure) →
      ListsInside i h.start (is_looked_into h.constructed f.encoding.len) (slice_range x h.start h.end) inside →
      StepsTo x e u i v h.end (own_departures i r ++ inside)
  unfolding IsNext-at_header
  StepsTo-next r inside ins = record {
    lists = λ later ls. subst (Lists u i (slice_range x i e)) (sym (append_assoc (own_departures i r) inside later))
        (Lists-at_header x i e h f within u no_end r inside later ins
        (subst (λ z. Lists z h.end (slice_range x h.end e) later) count ls));
    encodings = λ a. subst (λ z. AreEncodings z (slice_range x h.end e)) (sym count)
        (AreEncodings-behind_next u (slice_range x i e) (slice_range x i h.end) (slice_range x h.end e)
        (IsNext-at_header x i e h f within u no_end) a);
  }

  -- the header at fault behind it is the first from it on
  pub HeaderFaultBehind-next : (place : ℕ) (fault : DecodeFault)
      → HeaderFaultBehind v h.end (slice_range x h.end e) place fault
      → HeaderFaultBehind u i (slice_range x i e) place fault
  unfolding IsNext-at_header
  HeaderFaultBehind-next place fault w =
      let rest = slice_range x h.end e in
      let to : i + length (slice_range x i h.end) ≡ h.end =
      omega (arith, length-slice_range-at_header x i e h f within, starts_before_end x i e h f within) in
      behind (IsNext-at_header x i e h f within u no_end)
      (subst (λ z. HeaderFaultBehind (unended_behind u h.constructed f.encoding.len) z rest place fault) (sym to)
      (subst (λ z. HeaderFaultBehind z h.end rest place fault) count w))

-- the place behind a step is one among the same extents
pub AreExtents-step :
    (x : List ℕ) (o e u i v j l m n : ℕ) (es : List Extent) →
    AreExtents x i m (record { offset = o; end = e; unended = u; listed = l } ∷ es) →
    ((place : ℕ) (fault : DecodeFault) → HeaderFaultBehind v j (slice_range x j e) place fault
    → HeaderFaultBehind u i (slice_range x i e) place fault) → j ≤ e → v ≤ j → m ≤ n →
    AreExtents x j n (record { offset = o; end = e; unended = v; listed = l } ∷ es)
AreExtents-step x o e u i v j l m n es p step order room more = record {
  order = order;
  room = room;
  among = omega (arith, p.among, more);
  first_fault = λ none place fault w. p.first_fault none place fault (step place fault w);
  around = p.around;
}

-- what completes the departures behind a step does before it
pub Completes-step :
    (x : List ℕ) (o e u i v j l : ℕ) (between : List Departure) (es : List Extent) (found new all : List Departure) →
    StepsTo x e u i v j between → l ≤ length found → new ≡ found ++ between →
    Completes x j (record { offset = o; end = e; unended = v; listed = l } ∷ es) new all →
    Completes x i (record { offset = o; end = e; unended = u; listed = l } ∷ es) found all
Completes-step x o e u i v j l between es found new all s among is (inside, on, up) = (
  inside,
  elim on [
    | inl (later, ls, w) ↦ inl (
      between ++ later,
      s.lists later ls,
      w ∙ (ap (λ z. z ++ later) (ap (drop l) is ∙ drop-append-le l found between among)
          ∙ append_assoc (drop l found) between later),
    )
    | inr (some, never, w) ↦ inr (some, λ a. never (s.encodings a), w)
  ],
  subst (λ z. Completes x e es (z ++ inside) all) (ap (take l) is ∙ take-append-le l found between among) up,
)

-- what completes the departures inside an encoding that is opened completes those behind it, with one list inside it
pub Completes-opened :
    (x : List ℕ) (i s t e u o l : ℕ) (es : List Extent) (found all : List Departure) →
    Completes x s (record { offset = i; end = t; unended = 0; listed = length found }
    ∷ record { offset = o; end = e; unended = u; listed = l } ∷ es) found all →
    (inside : List Departure) × ListsInside i s true (slice_range x s t) inside
    × Completes x t (record { offset = o; end = e; unended = u; listed = l } ∷ es) (found ++ inside) all
Completes-opened x i s t e u o l es found all (inside, on, up) = (
  inside,
  elim on [
    | inl (later, ls, w) ↦ encodings_inside refl (subst (Lists 0 s (slice_range x s t))
        (sym (w ∙ ap (λ z. z ++ later) (drop_all (length found) found (omega arith)))) ls)
    | inr (some, never, w) ↦ no_encodings_inside refl never w
  ],
  subst (λ z. Completes x t (record { offset = o; end = e; unended = u; listed = l } ∷ es) (z ++ inside) all)
      (take_all (length found) found (omega arith)) up,
)

-- what completes the departures behind an encoding that has ended does at its end
pub Completes-ended :
    (x : List ℕ) (i e u o l : ℕ) (es : List Extent) (found all : List Departure) → u ≡ 0 → i ≡ e →
    Completes x e es found all →
    Completes x i (record { offset = o; end = e; unended = u; listed = l } ∷ es) found all
Completes-ended x i e u o l es found all none ended up = (
  drop l found,
  inl ([], none_left none (slice_range-empty x i e ended) refl, sym (append-nil (drop l found))),
  subst (λ z. Completes x e es z all) (sym (take-append-drop l found)) up,
)

-- behind an encoding that is not open as many encodings are open as before it
pub unended_behind-not_open : (u : ℕ) (k : Bool) (len : List ℕ) → is_open k len ≡ false → u ≡ unended_behind u k len
unended_behind-not_open u k len e = sym (ap (λ b. if b then suc u else u) e)

-- behind an encoding that is open one encoding more is open than before it
pub unended_behind-open : (u : ℕ) (k : Bool) (len : List ℕ) → is_open k len ≡ true → u + 1 ≡ unended_behind u k len
unended_behind-open u k len e =
    let more : (if is_open k len then suc u else u) ≡ suc u = ap (λ b. if b then suc u else u) e in
    omega (arith, more)

-- an encoding that is open up to its end-of-contents octets is not looked into
pub is_looked_into-open : (k : Bool) (len : List ℕ) → is_open k len ≡ true → is_looked_into k len ≡ false
is_looked_into-open true len e = ap not e
is_looked_into-open false len e = refl

-- a primitive encoding is not looked into
pub is_looked_into-primitive : (k : Bool) (len : List ℕ) → k ≡ false → is_looked_into k len ≡ false
is_looked_into-primitive true len e = absurd cc
is_looked_into-primitive false len e = refl

-- a constructed encoding that is not open is looked into
pub is_looked_into-constructed : (k : Bool) (len : List ℕ) → k ≡ true → is_open k len ≡ false →
    is_looked_into k len ≡ true
is_looked_into-constructed true len e f = ap not f
is_looked_into-constructed false len e f = absurd cc
