-- What is written for characters, one after another, for `escape::push_escaped` and `escape::push_shown`.
use Rattle.std.proofs.Common.{◌≡◌, ℕ, List, [], ◌∷◌, ◌++◌, ap, append-nil, append_assoc, sym, ◌∙◌}
use Rattle.der_io.specs.Escaped.{all_escaped}

-- one character more is written behind those before it
pub all_escaped-append : (escape : ℕ → List ℕ) (xs : List ℕ) (x : ℕ) →
    all_escaped escape (xs ++ x ∷ []) ≡ all_escaped escape xs ++ escape x
all_escaped-append escape [] x = append-nil (escape x)
all_escaped-append escape (y ∷ xs) x =
    ap (λ z. escape y ++ z) (all_escaped-append escape xs x)
    ∙ sym (append_assoc (escape y) (all_escaped escape xs) (escape x))
