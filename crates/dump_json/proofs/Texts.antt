-- Texts that go on with others, and characters.
use Rattle.std.proofs.Common.{ℕ, List, [], ◌++◌, append_assoc, append-nil, subst, sym}
use Rattle.dump_json.specs.Grammar.{AreChars, IsChar}
use Rattle.dump_json.specs.Lines.{Turns}

pub Turns-then : (P Q R : List ℕ → Type 0) (s t : List ℕ) → Turns P Q s → Turns Q R t → Turns P R (s ++ t)
Turns-then P Q R s t turn again u h = subst R (append_assoc u s t) (again (u ++ s) (turn u h))

pub Turns-none : (P : List ℕ → Type 0) → Turns P P []
Turns-none P t h = subst P (sym (append-nil t)) h

pub AreChars-append : (s t : List ℕ) → AreChars s → AreChars t → AreChars (s ++ t)
AreChars-append s _ h AreChars.none = subst AreChars (sym (append-nil s)) h
AreChars-append s _ h (AreChars.more cs c k x) =
    subst AreChars (append_assoc s cs c) (AreChars.more (s ++ cs) c (AreChars-append s cs h k) x)

pub AreChars-one : (c : List ℕ) → IsChar c → AreChars c
AreChars-one c x = AreChars.more [] c AreChars.none x
