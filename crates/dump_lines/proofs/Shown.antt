-- What was put of octets, piece by piece, for `encodings`.
use Rattle.std.proofs.Common.{◌≡◌, inl, inr, ℕ, suc, ◌+◌, Bool, true, List, [], ◌∷◌, ◌++◌, slice_range, refl, sym, ap, ◌∙◌, subst, append_assoc, append-nil}
use Rattle.std.specs.Prelude.{Option, None, Some}
use Rattle.std.specs.List.{flat_map}
use Rattle.std.specs.Option.{option_or}
use Rattle.std.proofs.lemmas.Grind.{flat_map-append}
use Rattle.dump_lines.specs.Dump.{AreShown, AreTextsOf, Shown, marks_of, none_shown, one_shown, shown_at, string_shown}
use Rattle.dump_lines.specs.Steps.{AreInside, ArePut, IsInner, IsOwn, IsWhole, first_of, shown_piece}
use Rattle.dump_values.specs.declared.faults.Fault.{Fault}
use Rattle.dump_walk.specs.Fronts.{Front, StandAt}
use Rattle.dump_walk.specs.Pieces.{HasEnded, IsAt, Passes, fault_offset, front_of, kind_contents, kind_front, kind_header}
use Rattle.dump_walk.specs.declared.piece.Piece.{Piece}
use Rattle.dump_walk.specs.declared.place.Place.{Place}
use Rattle.dump_walk.specs.declared.walk.Walk.{Walk}
use Rattle.dump_walk.proofs.Positions.{StandAt-inside}
use Rattle.dump_walk.proofs.Walks.{StandAt-left}

-- the lines of encodings, and then of others, are those of all
AreTextsOf-append : (most : Option ℕ) (xs ys : List Shown) (a b : List ℕ) → AreTextsOf most xs a →
    AreTextsOf most ys b → AreTextsOf most (xs ++ ys) (a ++ b)
AreTextsOf-append most [] ys a b e more = rw e more
AreTextsOf-append most (x ∷ xs) ys a b (own, rest, e, is, others) more = (
  own,
  rest ++ b,
  ap (λ z. z ++ b) e ∙ append_assoc own rest b,
  is,
  AreTextsOf-append most xs ys rest b others more,
)

-- where encodings were put, and then others, all were put
ArePut-append :
    (strict : Bool) (most : Option ℕ) (xs ys : List Shown) (a b c s t : List ℕ) → ArePut strict most xs a b s →
    ArePut strict most ys b c t → ArePut strict most (xs ++ ys) a c (s ++ t)
ArePut-append strict most xs ys a b c s t (e, lines) (f, more) =
    let marks = flat_map (marks_of strict) in (
      f ∙ (ap (λ z. z ++ marks ys) e
          ∙ (append_assoc a (marks xs) (marks ys) ∙ ap (λ z. a ++ z) (sym (flat_map-append (marks_of strict) xs ys)))),
      AreTextsOf-append most xs ys s t lines more,
    )

-- the encodings of fronts, and then of others, are those of all
AreShown-append :
    (inside : Bool) (base depth : ℕ) (octets : List ℕ) (fs gs : List Front) (xs ys : List Shown) →
    AreShown inside base depth octets fs xs → AreShown inside base depth octets gs ys →
    AreShown inside base depth octets (fs ++ gs) (xs ++ ys)
AreShown-append inside base depth octets fs gs xs ys (none_shown p q) h = rw (p, q) h
AreShown-append inside base depth octets fs gs xs ys (one_shown f later others p q s) h =
    one_shown f (later ++ gs) (others ++ ys) (ap (λ z. z ++ gs) p) (ap (λ z. z ++ ys) q)
    (AreShown-append inside base depth octets later gs others ys s h)
AreShown-append inside base depth octets fs gs xs ys (string_shown f later inner others n part own faults p q a r i s)
    h =
    string_shown f (later ++ gs) inner (others ++ ys) n part own faults (ap (λ z. z ++ gs) p)
    (ap (λ z. z ++ ys) q ∙ ap (λ z. shown_at inside base depth f ∷ z) (append_assoc inner others ys)) a r i
    (AreShown-append inside base depth octets later gs others ys s h)

-- the first fault of octets, or else that of others behind them, is the first fault of both
fault_offset-or : (first next : Option Fault) (faults : List ℕ) → fault_offset first ≡ first_of faults →
    fault_offset (option_or first next) ≡ first_of (faults ++ fault_offset next)
fault_offset-or None None [] e = refl
fault_offset-or None (Some fault) [] e = refl
fault_offset-or None next (offset ∷ faults) e = absurd (cc e)
fault_offset-or (Some fault) next [] e = absurd (cc e)
fault_offset-or (Some fault) next (offset ∷ faults) e = e

-- what was put up to where a walk is
pub record ShownTo (strict : Bool) (place : Place) (octets : List ℕ) (walk : Walk) (first : Option Fault)
    (before after text : List ℕ) : Type 0 where
  pub fronts : List Front
  pub faults : List ℕ
  pub shown : List Shown
  pub at : IsAt octets fronts faults walk.cursor
  pub same_place : walk.place ≡ place
  pub first_is : fault_offset first ≡ first_of faults
  pub are : AreShown place.is_inside place.base place.depth octets fronts shown
  pub put : ArePut strict place.style.most_depth shown before after text

-- before the first step of a walk, nothing was put
pub ShownTo-none :
    (strict : Bool) (place : Place) (octets : List ℕ) (walk : Walk) (marks : List ℕ) →
    IsAt octets [] [] walk.cursor → walk.place ≡ place → ShownTo strict place octets walk None marks marks []
ShownTo-none strict place octets walk marks at p = record {
  fronts = [];
  faults = [];
  shown = [];
  at = at;
  same_place = p;
  first_is = refl;
  are = none_shown refl refl;
  put = (sym (append-nil marks), refl);
}

-- a walk passes a piece
module _ (strict : Bool) (place : Place) (octets : List ℕ) (old new : Walk) (piece : Piece)
    (p : Passes old new piece) (same : old.place ≡ place) (same_octets : old.cursor.octets.now ≡ octets) where
  base_is : piece.place.base ≡ place.base
  base_is = p.base ∙ ap (λ z. z.base) same

  depth_is : piece.place.depth ≡ place.depth + p.levels
  depth_is = p.depth ∙ ap (λ z. z.depth + p.levels) same

  abbrev shown_as : Bool → ℕ → ℕ → Shown
  shown_as inside base depth = record {
    front = kind_front (base + piece.offset) depth piece.breaches.rules.items piece.breaches.has_spare_bits piece.kind;
    inside = inside;
  }

  -- the piece is what the walk came to, at the place
  shown_piece-passed :
      shown_piece piece ≡ shown_at place.is_inside place.base place.depth (front_of p.levels piece)
  shown_piece-passed =
      ap (λ z. shown_as z piece.place.base piece.place.depth) (p.inside ∙ ap (λ z. z.is_inside) same)
      ∙ (ap (λ z. shown_as place.is_inside z piece.place.depth) base_is
      ∙ ap (λ z. shown_as place.is_inside place.base z) depth_is)

  -- it is shown, and what stands inside it, it may be
  AreShown-piece : (inner : List Shown) → AreInside p.left piece inner →
      AreShown place.is_inside place.base place.depth octets (front_of p.levels piece ∷ []) (shown_piece piece ∷ inner)
  AreShown-piece inner (inl none) =
      let f = front_of p.levels piece in
      let first = shown_at place.is_inside place.base place.depth f in
      one_shown f [] [] refl (ap (λ z. z ∷ inner) shown_piece-passed ∙ ap (λ z. first ∷ z) none)
      (none_shown refl refl)
  AreShown-piece inner (inr (before, part, own, faults, at, read, is)) =
      let f = front_of p.levels piece in
      let first = shown_at place.is_inside place.base place.depth f in
      let stands : StandAt octets piece.offset p.left =
      subst (λ z. StandAt z piece.offset p.left) same_octets
      (StandAt-left old.cursor.octets.now p.left piece.offset p.end.offset p.left_is) in
      let behind = piece.offset + (kind_header piece.kind + before) in
      let deep : AreShown true (piece.place.base + behind) (suc (place.depth + p.levels)) part own inner =
      subst (λ z. AreShown true (piece.place.base + behind) (suc z) part own inner) depth_is is in
      string_shown f [] inner [] before part own faults refl
      (ap (λ z. z ∷ inner) shown_piece-passed ∙ ap (λ z. first ∷ z) (sym (append-nil inner)))
      (StandAt-inside octets p.left part piece.offset (kind_header piece.kind + before) stands at) read
      (subst (λ z. AreShown true (z + behind) (suc (place.depth + p.levels)) part own inner) base_is deep)
      (none_shown refl refl)

-- with the line of one piece more, and the lines inside it, what was put goes up to the next place of the walk
pub ShownTo-append :
    (strict : Bool) (place : Place) (octets : List ℕ) (old new : Walk) (piece : Piece) (first : Option Fault)
    (before middle after text own : List ℕ) (p : Passes old new piece) →
    ShownTo strict place octets old first before middle text → IsOwn strict piece p.left middle after own →
    ShownTo strict place octets new (option_or first piece.fault) before after (text ++ own)
ShownTo-append strict place octets old new piece first before middle after text own p s (inner, inside, put) =
    let f = front_of p.levels piece in
    let faults = fault_offset piece.fault in
    let more = shown_piece piece ∷ inner in
    let most : piece.place.style.most_depth ≡ place.style.most_depth =
    ap (λ z. z.most_depth) p.style ∙ ap (λ z. z.style.most_depth) s.same_place in
    record {
      fronts = s.fronts ++ f ∷ [];
      faults = s.faults ++ faults;
      shown = s.shown ++ more;
      at = p.ahead octets s.fronts s.faults s.at;
      same_place = p.same_place ∙ s.same_place;
      first_is = fault_offset-or first piece.fault s.faults s.first_is;
      are = AreShown-append place.is_inside place.base place.depth octets s.fronts (f ∷ []) s.shown more s.are
          (AreShown-piece strict place octets old new piece p s.same_place s.at.same_octets inner inside);
      put = ArePut-append strict place.style.most_depth s.shown more before middle after text own s.put
          (subst (λ z. ArePut strict z more middle after own) most put);
    }

-- where the walk is at its end, what was put is all of the octets
pub IsWhole-shown :
    (strict : Bool) (place : Place) (octets : List ℕ) (walk : Walk) (first : Option Fault)
    (before after text : List ℕ) → HasEnded walk →
    ShownTo strict place octets walk first before after text →
    IsWhole strict place octets (fault_offset first) before after text
IsWhole-shown strict place octets walk first before after text ended s = record {
  fronts = s.fronts;
  faults = s.faults;
  shown = s.shown;
  read = ended octets s.fronts s.faults s.at;
  first_is = s.first_is;
  are = s.are;
  put = s.put;
}

-- where nothing stands inside a piece, nothing has to be put
pub IsInner-none : (strict : Bool) (piece : Piece) (left marks : List ℕ) → IsInner strict piece left marks marks []
IsInner-none strict piece left marks = ([], inl refl, (sym (append-nil marks), refl))

-- encodings of octets that stand inside the contents octets of a piece stand inside the piece
pub IsInner-whole :
    (strict : Bool) (piece : Piece) (inside : Place) (left octets first before after text : List ℕ) (n : ℕ) →
    StandAt (slice_range left (kind_header piece.kind) (kind_header piece.kind + kind_contents piece.kind)) n octets →
    inside.is_inside ≡ true → inside.base ≡ piece.place.base + (piece.offset + (kind_header piece.kind + n)) →
    inside.depth ≡ suc piece.place.depth → inside.style.most_depth ≡ piece.place.style.most_depth →
    IsWhole strict inside octets first before after text → IsInner strict piece left before after text
IsInner-whole strict piece inside left octets first before after text n stands i b d m s =
    let header = kind_header piece.kind in
    let end = header + kind_contents piece.kind in
    let slice = slice_range left header end in
    let base = piece.place.base + (piece.offset + (header + n)) in
    let one = subst (λ z. AreShown z inside.base inside.depth octets s.fronts s.shown) i s.are in
    let two = subst (λ z. AreShown true z inside.depth octets s.fronts s.shown) b one in
    let three = subst (λ z. AreShown true base z octets s.fronts s.shown) d two in (
      s.shown,
      inr (
        n,
        octets,
        s.fronts,
        s.faults,
        StandAt-inside left slice octets header n (StandAt-left left slice header end refl) stands,
        s.read,
        three,
      ),
      subst (λ z. ArePut strict z s.shown before after text) m s.put,
    )

-- the line of a piece, its mark, and what stands inside it were put
pub IsOwn-put :
    (strict : Bool) (piece : Piece) (left before middle after first rest : List ℕ) →
    middle ≡ before ++ marks_of strict (shown_piece piece) →
    AreTextsOf piece.place.style.most_depth (shown_piece piece ∷ []) first →
    IsInner strict piece left middle after rest →
    IsOwn strict piece left before after (first ++ rest)
IsOwn-put strict piece left before middle after first rest marked line (inner, inside, put) = (
  inner,
  inside,
  ArePut-append strict piece.place.style.most_depth (shown_piece piece ∷ []) inner before middle after first rest (
    marked ∙ ap (λ z. before ++ z) (sym (append-nil (marks_of strict (shown_piece piece)))),
    line,
  ) put,
)
