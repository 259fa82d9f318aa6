-- For `escape::escaped`: what it returns is right.
use Rattle.std.proofs.Common.{◌≡◌, true, false, List, ℕ, refl, subst, ◌∙◌, string_bytes}
use Rattle.std.proofs.lemmas.Str.{IsUtf8-from_is_utf8, is_utf8-from_IsUtf8}
use Rattle.std.specs.Prelude.{IfOk, Result, Ok, Err}
use Rattle.std.specs.Str.{chars, is_utf8}
use Rattle.der_io.specs.Escaped.{all_escaped, escape_of, escape_of_octet, escaped}
use Rattle.std.proofs.lemmas.Bool.{false_from_ne_true}
use Rattle.der_io.proofs.escape.escaped.Goals as goal

-- text in UTF-8 is escaped by its characters
all_escaped-text : (octets : List ℕ) → is_utf8 octets ≡ true → all_escaped escape_of (chars octets) ≡ escaped octets
all_escaped-text octets h = rw h refl

-- octets that are no UTF-8 are escaped one by one
all_escaped-no_text : (octets : List ℕ) → is_utf8 octets ≡ false → all_escaped escape_of_octet octets ≡ escaped octets
all_escaped-no_text octets h = rw h refl

-- if a result, where it is `Ok`, holds some octets, it holds equal ones
IfOk-equal :
    {S E : Type 0} (bytes : S → List ℕ) (r : Result S E) (xs ys : List ℕ) → xs ≡ ys → IfOk r (λ out. bytes out ≡ xs) →
    IfOk r (λ out. bytes out ≡ ys)
IfOk-equal bytes (Ok out) xs ys e h = h ∙ e
IfOk-equal bytes (Err x) xs ys e h = tt

pub returns-in-Ok : goal.returns-in-Ok
returns-in-Ok c =
    let octets = c.args.octets.now in
    let text = c.in-Ok.ensures.cases in
    IfOk-equal string_bytes c.escaped_text.result _ _ (all_escaped-text octets (is_utf8-from_IsUtf8 octets text.1))
    (subst (λ z. IfOk c.escaped_text.result (λ out. string_bytes out ≡ all_escaped escape_of (chars z))) text.0
    c.escaped_text.ensures)

pub returns-in-Err : goal.returns-in-Err
returns-in-Err c =
    let octets = c.args.octets.now in
    IfOk-equal string_bytes c.escaped_octets.result _ _
    (all_escaped-no_text octets (false_from_ne_true (is_utf8 octets)
    (λ h. c.in-Err.ensures.cases.0 (IsUtf8-from_is_utf8 octets h)))) c.escaped_octets.ensures
