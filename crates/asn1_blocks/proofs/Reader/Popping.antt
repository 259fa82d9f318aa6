-- What taking the last frame out of a list does to the frames from the innermost out, for `read_loop` and for crates
-- that keep open encodings in a list.
use Rattle.std.proofs.Common.{◌≡◌, List, [], ◌∷◌, ◌++◌, length, reverse, refl, ap, ◌∙◌, arith}
use Rattle.std.proofs.lemmas.List.{reverse-append}

-- a list that ends with an item begins with it when reversed, before the rest reversed
pub reverse-append_last : {X : Type 0} (old new : List X) (x : X) → old ≡ new ++ x ∷ [] → reverse old ≡ x ∷ reverse new
reverse-append_last old new x e = ap reverse e ∙ reverse-append new (x ∷ [])

-- a list of length 0 is empty when reversed
pub reverse-empty : {X : Type 0} (xs : List X) → length xs ≡ 0 → reverse xs ≡ []
reverse-empty [] e = refl
reverse-empty (x ∷ xs) e = absurd (omega (arith, e))
