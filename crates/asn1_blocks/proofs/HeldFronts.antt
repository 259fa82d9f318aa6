-- What frames hold once those inside them were dropped, for the builders of trees and of entries.
use Rattle.std.proofs.Common.{◌≡◌, List, [], ◌∷◌, ◌++◌, length, sym, ap, ◌∙◌, arith, append_assoc, append-nil}

-- frames hold what their builder has made: each frame of the list so many trees
module _ {Made Frame Tree : Type 0} (AllHold : List Made → List Frame → List (List Tree) → Type 0) where
  -- the frames hold the first of what was made
  pub record HoldFront (made : List Made) (frames : List Frame) (trees : List (List Tree)) : Type 0 where
    pub front : List Made
    pub more : List Made
    pub whole : made ≡ front ++ more
    pub holds : AllHold front frames trees

  -- whatever a frame holds, the frames around it hold the first of what was made
  abbrev pub HoldAround : Type 0
  HoldAround = (made : List Made) (inner next : Frame) (outer : List Frame) (own items : List Tree)
      (rest : List (List Tree)) → AllHold made (inner ∷ next ∷ outer) (own ∷ items ∷ rest)
      → HoldFront made (next ∷ outer) (items ∷ rest)

  -- frames hold the first of what was made, whatever frames inside them have added
  pub HoldFront-inside : HoldAround → (made : List Made) (inside : List Frame) (f : Frame) (outer : List Frame)
      (lost : List (List Tree)) (own : List Tree) (rest : List (List Tree)) → length inside ≡ length lost
      → AllHold made (inside ++ f ∷ outer) (lost ++ own ∷ rest) → HoldFront made (f ∷ outer) (own ∷ rest)
  HoldFront-inside around made [] f outer [] own rest same held =
      record { front = made; more = []; whole = sym (append-nil made); holds = held }
  HoldFront-inside around made [] f outer (u ∷ lost) own rest same held = absurd (omega (arith, same))
  HoldFront-inside around made (k ∷ inside) f outer [] own rest same held = absurd (omega (arith, same))
  HoldFront-inside around made (k ∷ []) f outer (u ∷ []) own rest same held = around made k f outer u own rest held
  HoldFront-inside around made (k ∷ []) f outer (u ∷ v ∷ lost) own rest same held = absurd (omega (arith, same))
  HoldFront-inside around made (k ∷ x ∷ inside) f outer (u ∷ []) own rest same held = absurd (omega (arith, same))
  HoldFront-inside around made (k ∷ x ∷ inside) f outer (u ∷ v ∷ lost) own rest same held =
      let first = around made k x (inside ++ f ∷ outer) u v (lost ++ own ∷ rest) held in
      let w = HoldFront-inside around first.front (x ∷ inside) f outer (v ∷ lost) own rest (omega (arith, same))
      first.holds in
      let all = first.whole ∙ (ap (λ z. z ++ first.more) w.whole ∙ append_assoc w.front w.more first.more) in
      record { front = w.front; more = w.more ++ first.more; whole = all; holds = w.holds }
