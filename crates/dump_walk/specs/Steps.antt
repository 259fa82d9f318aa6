-- How octets are gone over, step by step.
use Rattle.std.specs.Prelude.{◌≡◌, ℕ, ◌+◌, ◌<◌, Bool, true, false, List, [], ◌∷◌, drop, length, ⊤, ◌*◌, ◌-◌, reverse, slice_range}
use Rattle.asn1_headers.specs.declared.whole_header.Header.{Header}
use Rattle.dump_walk.specs.Headers.{is_opened}
use Rattle.dump_walk.specs.declared.cursor.Cursor.{Cursor}
use Rattle.dump_walk.specs.declared.cursor.End.{End}
use Rattle.dump_walk.specs.declared.cursor.Left.{Left}
use Rattle.dump_walk.specs.declared.cursor.Step.{Step}
use Rattle.dump_walk.specs.declared.cursor.Step.TheVariants.{Into, Out, Past}

-- contents octets end at the offset, if they are not of the indefinite form and end-of-contents octets end them before
abbrev pub end_at : ℕ → Bool → End
end_at offset indefinite = record { offset = offset; is_indefinite = indefinite }

-- where a step leads from an offset
abbrev pub offset_after : Step → ℕ → ℕ
offset_after (Into header size indefinite) offset = offset + header
offset_after (Past size) offset = offset + size
offset_after (Out size) offset = offset + size

-- where the contents octets end that are open after a step from an offset
abbrev pub ends_after : Step → ℕ → List End → List End
ends_after (Into header size indefinite) offset ends = end_at (offset + size) indefinite ∷ ends
ends_after (Past size) offset ends = ends
ends_after (Out size) offset ends = drop 1 ends

-- the step goes on after an encoding with the header that takes so many octets: into it, or past it
abbrev pub IsTaken : Header → ℕ → Step → Type 0
IsTaken header size (Into first all indefinite) =
    (is_opened header ≡ true) × (first ≡ header.size) × (all ≡ size) × (indefinite ≡ header.is_indefinite)
IsTaken header size (Past all) = (is_opened header ≡ false) × (all ≡ size)
IsTaken header size (Out all) = ⊥

-- octets were gone over to the offset, where contents octets that end so are open, the innermost first; and from the
-- first result this came. `Adds` says what each step adds to the result: by whether end-of-contents octets end the
-- innermost contents octets, the offset, how many others are around these, and what is left of them.
-- Contents octets of definite length that have ended are left. Those of the indefinite form are left by a step
pub data GoesTo {S : Type 0} (Adds : Bool → ℕ → ℕ → List ℕ → Step → S → S → Type 0)
    (octets : List ℕ) (indefinite : Bool) (first : S) : ℕ → List End → S → Type 0 where
  none_yet :
      {offset : ℕ} {ends : List End} {result : S} →
      offset ≡ 0 → ends ≡ end_at (length octets) indefinite ∷ [] → result ≡ first →
      GoesTo Adds octets indefinite first offset ends result
  one_ended :
      {offset : ℕ} {ends : List End} {result : S} (end : End) →
      GoesTo Adds octets indefinite first offset (end ∷ ends) result → end.is_indefinite ≡ false →
      slice_range octets offset end.offset ≡ [] → GoesTo Adds octets indefinite first offset ends result
  one_more :
      {offset : ℕ} {ends : List End} {result : S} (from : ℕ) (end : End) (around : List End) (before : S)
      (step : Step) →
      GoesTo Adds octets indefinite first from (end ∷ around) before →
      Adds end.is_indefinite from (length around) (slice_range octets from end.offset) step before result →
      offset ≡ offset_after step from → ends ≡ ends_after step from (end ∷ around) →
      GoesTo Adds octets indefinite first offset ends result

-- where the contents octets end that are open, the innermost first
abbrev pub ends_of : Cursor → List End
ends_of cursor = reverse cursor.ends.items

-- a cursor has gone over the octets so far
pub record HasGone {S : Type 0} (Adds : Bool → ℕ → ℕ → List ℕ → Step → S → S → Type 0)
    (octets : List ℕ) (indefinite : Bool) (first : S) (cursor : Cursor) (result : S) : Type 0 where
  pub same_octets : cursor.octets.now ≡ octets
  pub to : GoesTo Adds octets indefinite first cursor.offset (ends_of cursor) result

-- how far a cursor has still to go at most: twice for octets, since each of them may begin an encoding and leave it
abbrev pub to_go : Cursor → ℕ
to_go cursor = 2 * (length cursor.octets.now - cursor.offset) + length cursor.ends.items

-- what is left of the innermost contents octets that are open; where they are of definite length, some octets are
pub record IsLeftOf (cursor : Cursor) (left : Left) : Type 0 where
  pub end : End
  pub around : List End
  pub ends_are : ends_of cursor ≡ end ∷ around
  pub octets_are : left.octets.now ≡ slice_range cursor.octets.now cursor.offset end.offset
  pub form : left.is_indefinite ≡ end.is_indefinite
  pub some : left.is_indefinite ≡ false → 0 < length left.octets.now

-- contents octets of definite length that have ended at the offset were left
pub data HasLeft (octets : List ℕ) (offset : ℕ) : List End → List End → Type 0 where
  none_left : {old new : List End} → old ≡ new → HasLeft octets offset old new
  one_left :
      {old new : List End} (end : End) (around : List End) →
      old ≡ end ∷ around → end.is_indefinite ≡ false → slice_range octets offset end.offset ≡ [] →
      HasLeft octets offset around new → HasLeft octets offset old new

-- the cursor after a step
abbrev pub Goes : Step → Cursor → Cursor → Type 0
Goes step old new =
    (new.octets.now ≡ old.octets.now) × (new.offset ≡ offset_after step old.offset)
    × (ends_of new ≡ ends_after step old.offset (ends_of old))

-- the step takes some octets of what is left, or leaves contents octets
abbrev pub Takes : Step → Left → Type 0
Takes (Into header size indefinite) left = (0 < header) × (0 < length left.octets.now)
Takes (Past size) left = (0 < size) × (0 < length left.octets.now)
Takes (Out size) left = ⊤
