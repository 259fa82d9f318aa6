-- Lists that are made of others, for `encodings::texts_of`.
use Rattle.std.proofs.Common.{◌≡◌, ◌+◌, ◌<◌, ◌++◌, ◌∷◌, ℕ, List, [], map, sym, ap, ◌∙◌, get_or, length, take}
use Rattle.std.proofs.lemmas.List.{map-append, take_more}

-- where an item was made of the one at an index, items were made of all up to this one
pub map-more :
    {A B C : Type 0} (f : A → C) (g : B → C) (xs : List A) (i : ℕ) (d : A) (old new : List B) (y : B) →
    i < length xs → g y ≡ f (get_or xs i d) → new ≡ old ++ y ∷ [] → map g old ≡ map f (take i xs) →
    map g new ≡ map f (take (i + 1) xs)
map-more f g xs i d old new y within is e before =
    let x = get_or xs i d in
    ap (map g) e
    ∙ (map-append g old (y ∷ [])
    ∙ (ap (λ z. z ++ g y ∷ []) before
    ∙ (ap (λ z. map f (take i xs) ++ z ∷ []) is
    ∙ sym (ap (map f) (take_more xs i d within) ∙ map-append f (take i xs) (x ∷ [])))))
