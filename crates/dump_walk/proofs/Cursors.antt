-- Steps of a cursor over octets, each of which leaves less, for `cursor`, `walk` and `segments`.
use Rattle.std.proofs.Common.{◌≡◌, ℕ, suc, ◌-◌, ◌<◌, ◌≤◌, min, Bool, false, List, [], ◌∷◌, drop, get_or, length, reverse, slice_range, refl, sym, ap, ◌∙◌, subst, arith}
use Rattle.std.proofs.lemmas.List.{get_or-reverse, length-drop, length-reverse, length-take}
use Rattle.dump_walk.specs.Steps.{Goes, GoesTo, HasGone, HasLeft, IsLeftOf, Takes, ends_after, ends_of, none_left, one_ended, one_left, one_more, to_go}
use Rattle.dump_walk.specs.declared.cursor.Cursor.{Cursor}
use Rattle.dump_walk.specs.declared.cursor.End.{End}
use Rattle.dump_walk.specs.declared.cursor.Left.{Left}
use Rattle.dump_walk.specs.declared.cursor.Step.{Step}
use Rattle.dump_walk.specs.declared.cursor.Step.TheVariants.{Into, Out, Past}

-- without the innermost end, the ends are those of the contents octets around
pub drop-ends_of : (m : Cursor) (left : Left) (at : IsLeftOf m left) → drop 1 (ends_of m) ≡ at.around
drop-ends_of m left at = ap (drop 1) at.ends_are

-- where contents octets were left, the next around them are left if they are of definite length and have ended
HasLeft-ended :
    (octets : List ℕ) (offset : ℕ) (old new : List End) (end : End) (around : List End) →
    HasLeft octets offset old new → new ≡ end ∷ around → end.is_indefinite ≡ false →
    slice_range octets offset end.offset ≡ [] → HasLeft octets offset old around
HasLeft-ended octets offset old new end around (none_left e) is form none =
    one_left end around (e ∙ is) form none (none_left refl)
HasLeft-ended octets offset old new end around (one_left first others e f n left) is form none =
    one_left first others e f n (HasLeft-ended octets offset others new end around left is form none)

-- a cursor without the innermost end has left these contents octets, if they are of definite length and have ended
pub HasLeft-left :
    (old : List End) (m n : Cursor) (end : End) (around : List End) → HasLeft m.octets.now m.offset old (ends_of m) →
    ends_of m ≡ end ∷ around → end.is_indefinite ≡ false → slice_range m.octets.now m.offset end.offset ≡ [] →
    n.octets.now ≡ m.octets.now → n.offset ≡ m.offset → ends_of n ≡ drop 1 (ends_of m) →
    HasLeft n.octets.now n.offset old (ends_of n)
HasLeft-left old m n end around left is form none o g ends =
    let more = HasLeft-ended m.octets.now m.offset old (ends_of m) end around left is form none in
    let last : around ≡ ends_of n = sym (ends ∙ ap (drop 1) is) in
    subst (λ z. HasLeft z n.offset old (ends_of n)) (sym o)
    (subst (λ z. HasLeft m.octets.now z old (ends_of n)) (sym g)
    (subst (λ z. HasLeft m.octets.now m.offset old z) last more))

-- ends that are not none are the first of them and then the others
cons-get_or_drop : (ends : List End) (d : End) → 0 < length ends → ends ≡ get_or ends 0 d ∷ drop 1 ends
cons-get_or_drop [] d some = absurd (omega (arith, some))
cons-get_or_drop (end ∷ ends) d some = refl

-- ends that are not none have the last of them at the front when reversed
pub reverse-innermost :
    (ends : List End) (d : End) → 0 < length ends →
    (around : List End) × (reverse ends ≡ get_or ends (length ends - 1) d ∷ around)
reverse-innermost ends d some =
    let head = cons-get_or_drop (reverse ends) d (omega (arith, length-reverse ends, some)) in
    let last : length ends - 1 - 0 ≡ length ends - 1 = omega arith in
    let is : get_or (reverse ends) 0 d ≡ get_or ends (length ends - 1) d =
    get_or-reverse ends 0 d some ∙ ap (λ n. get_or ends n d) last in
    (drop 1 (reverse ends), head ∙ ap (λ z. z ∷ drop 1 (reverse ends)) is)

-- after contents octets were left, no more are open than before
length-HasLeft_le :
    (octets : List ℕ) (offset : ℕ) (old new : List End) → HasLeft octets offset old new → length new ≤ length old
length-HasLeft_le octets offset old new (none_left e) = omega (arith, ap length e)
length-HasLeft_le octets offset old new (one_left end around e form none left) =
    omega (arith, ap length e, length-HasLeft_le octets offset around new left)

-- what is left of octets stands before their end
offset-before_end :
    (m : Cursor) (left : Left) → IsLeftOf m left → 0 < length left.octets.now → m.offset < length m.octets.now
offset-before_end m left at some =
    let octets = m.octets.now in
    let l : length left.octets.now ≡ min (at.end.offset - m.offset) (length (drop m.offset octets)) =
    ap length at.octets_are ∙ length-take (at.end.offset - m.offset) (drop m.offset octets) in
    let d : length (drop m.offset octets) ≡ length octets - m.offset = length-drop m.offset octets in
    omega (arith, l, d, some)

-- each step leaves less
pub to_go-step_lt :
    (m n : Cursor) (left : Left) (step : Step) → IsLeftOf m left → Takes step left → Goes step m n → to_go n < to_go m
to_go-step_lt m n left (Into header size indefinite) at (some, there) (o, g, ends) =
    let within = offset-before_end m left at there in
    let l : length n.octets.now ≡ length m.octets.now = ap length o in
    let d : length (ends_of n) ≡ suc (length (ends_of m)) = ap length ends in
    omega (arith, within, some, l, g, d, length-reverse n.ends.items, length-reverse m.ends.items)
to_go-step_lt m n left (Past size) at (some, there) (o, g, ends) =
    let within = offset-before_end m left at there in
    let l : length n.octets.now ≡ length m.octets.now = ap length o in
    let d : length (ends_of n) ≡ length (ends_of m) = ap length ends in
    omega (arith, within, some, l, g, d, length-reverse n.ends.items, length-reverse m.ends.items)
to_go-step_lt m n left (Out size) at any (o, g, ends) =
    let l : length n.octets.now ≡ length m.octets.now = ap length o in
    let d : length (ends_of n) ≡ length at.around = ap length (ends ∙ drop-ends_of m left at) in
    let e : length (ends_of m) ≡ suc (length at.around) = ap length at.ends_are in
    omega (arith, l, g, d, e, length-reverse n.ends.items, length-reverse m.ends.items)

-- a cursor that left contents octets that have ended has no more to go than before
pub to_go-left_le :
    (m n : Cursor) → n.octets.now ≡ m.octets.now → n.offset ≡ m.offset →
    HasLeft n.octets.now n.offset (ends_of m) (ends_of n) → to_go n ≤ to_go m
to_go-left_le m n o g left =
    let l : length n.octets.now ≡ length m.octets.now = ap length o in
    omega (
      arith,
      l,
      g,
      length-HasLeft_le n.octets.now n.offset (ends_of m) (ends_of n) left,
      length-reverse n.ends.items,
      length-reverse m.ends.items,
    )

-- the depth of a cursor is how many contents octets are open around the innermost
pub length-ends : (m : Cursor) (left : Left) (at : IsLeftOf m left) → length m.ends.items - 1 ≡ length at.around
length-ends m left at =
    let e : length (ends_of m) ≡ suc (length at.around) = ap length at.ends_are in
    omega (arith, e, length-reverse m.ends.items)

module _ {S : Type 0} (Adds : Bool → ℕ → ℕ → List ℕ → Step → S → S → Type 0) (octets : List ℕ) (indefinite : Bool)
    (first : S) where
  -- where contents octets that have ended are left, octets were gone over as far
  GoesTo-left : (offset : ℕ) (old new : List End) (result : S) → HasLeft octets offset old new →
      GoesTo Adds octets indefinite first offset old result → GoesTo Adds octets indefinite first offset new result
  GoesTo-left offset old new result (none_left same) h =
      subst (λ z. GoesTo Adds octets indefinite first offset z result) same h
  GoesTo-left offset old new result (one_left end around is form none left) h =
      GoesTo-left offset around new result left
      (one_ended end (subst (λ z. GoesTo Adds octets indefinite first offset z result) is h) form none)

  -- a cursor that left contents octets has gone as far
  pub HasGone-left :
      (k m : Cursor) (result : S) → m.octets.now ≡ k.octets.now → m.offset ≡ k.offset →
      HasLeft m.octets.now m.offset (ends_of k) (ends_of m) → HasGone Adds octets indefinite first k result →
      HasGone Adds octets indefinite first m result
  HasGone-left k m result same_octets offset left h =
      let same = same_octets ∙ h.same_octets in
      record {
        same_octets = same;
        to = GoesTo-left m.offset (ends_of k) (ends_of m) result
            (subst (λ z. HasLeft z m.offset (ends_of k) (ends_of m)) same left)
            (subst (λ z. GoesTo Adds octets indefinite first z (ends_of k) result) (sym offset) h.to);
      }

  module _ (m : Cursor) (left : Left) (at : IsLeftOf m left) (before : S)
      (h : HasGone Adds octets indefinite first m before) where
    -- it has gone into the innermost contents octets
    pub GoesTo-at : GoesTo Adds octets indefinite first m.offset (at.end ∷ at.around) before
    GoesTo-at = subst (λ z. GoesTo Adds octets indefinite first m.offset z before) at.ends_are h.to

    -- what is left is a slice of the octets
    pub slice_range-left : left.octets.now ≡ slice_range octets m.offset at.end.offset
    slice_range-left = at.octets_are ∙ ap (λ z. slice_range z m.offset at.end.offset) h.same_octets

    -- it goes one step on
    pub HasGone-next :
        (n : Cursor) (step : Step) (after : S) →
        Adds left.is_indefinite m.offset (length at.around) left.octets.now step before after → Goes step m n →
        HasGone Adds octets indefinite first n after
    HasGone-next n step after adds (same, offset, ends) = record {
      same_octets = same ∙ h.same_octets;
      to = one_more m.offset at.end at.around before step GoesTo-at
          (subst (λ z. Adds at.end.is_indefinite m.offset (length at.around) z step before after) slice_range-left
          (subst (λ z. Adds z m.offset (length at.around) left.octets.now step before after) at.form adds)) offset
          (ends ∙ ap (ends_after step m.offset) at.ends_are);
    }
