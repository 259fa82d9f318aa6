-- A test for UTF-8 by the call that reads it, for `input::are_words`.
use Rattle.std.proofs.Common.{◌≡◌, ℕ, List, MatchResult, sym}
use Rattle.std.specs.Prelude.{Result, Ok, Err}
use Rattle.std.specs.Result.{is_ok}
use Rattle.std.specs.Str.{IsUtf8, is_utf8}
use Rattle.std.proofs.lemmas.Bool.{false_from_ne_true}
use Rattle.std.proofs.lemmas.Str.{IsUtf8-from_is_utf8, is_utf8-from_IsUtf8}

-- a call that succeeds for UTF-8 and fails for other octets succeeds exactly if the octets are UTF-8
pub is_ok-utf8 : {A B : Type 0} (octets : List ℕ) (r : Result A B) (P : A → Type 0) (Q : B → Type 0)
    → MatchResult r (λ s. P s × IsUtf8 octets) (λ e. (IsUtf8 octets → ⊥) × Q e) → is_ok r ≡ is_utf8 octets
is_ok-utf8 octets (Ok s) P Q h = sym (is_utf8-from_IsUtf8 octets h.1)
is_ok-utf8 octets (Err e) P Q h = sym (false_from_ne_true (is_utf8 octets) (λ t. h.0 (IsUtf8-from_is_utf8 octets t)))
