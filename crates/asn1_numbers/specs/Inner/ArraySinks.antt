-- An array vector that octets are pushed to, while it has room.
use Rattle.std.specs.Prelude.{◌≡◌, ℕ, ◌+◌, ◌-◌, ◌≤◌, ◌++◌, List, [], length}
use Rattle.std.proofs.Common.{sym, ap, ◌∙◌, arith, append-nil, append_assoc, length-append}
use Rattle.arrayvec.specs.ArrayVec.{ArrayVec, array_vec_len}

abbrev pub array_room : ℕ → ArrayVec ℕ → ℕ
array_room n a = n - array_vec_len a

abbrev pub array_pushes : ArrayVec ℕ → List ℕ → ArrayVec ℕ → Type 0
array_pushes a xs b = b.items ≡ a.items ++ xs

pub array_pushes_none : (a : ArrayVec ℕ) → array_pushes a [] a
array_pushes_none a = sym (append-nil a.items)

pub array_pushes_more : (a b c : ArrayVec ℕ) (xs ys : List ℕ)
    → array_pushes a xs b → array_pushes b ys c → array_pushes a (xs ++ ys) c
array_pushes_more a b c xs ys p q = q ∙ ap (λ z. z ++ ys) p ∙ append_assoc a.items xs ys

pub array_room_after : (n : ℕ) (a b : ArrayVec ℕ) (xs : List ℕ)
    → array_pushes a xs b → array_room n a ≤ array_room n b + length xs
array_room_after n a b xs p = omega (arith, ap length p, length-append a.items xs)
