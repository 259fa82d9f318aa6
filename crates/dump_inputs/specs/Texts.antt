-- Texts, one after another.
use Rattle.std.specs.Prelude.{◌≡◌, ℕ, List, [], ◌∷◌, ◌++◌}

-- the text is that of each with its result, one after another
abbrev pub AreTexts : {A B : Type 0} → (A → B → List ℕ → Type 0) → List A → List B → List ℕ → Type 0
AreTexts Is [] [] text = text ≡ []
AreTexts Is (one ∷ others) (result ∷ later) text =
    (own rest : List ℕ) × (text ≡ own ++ rest) × Is one result own × AreTexts Is others later rest
AreTexts Is _ _ text = ⊥
