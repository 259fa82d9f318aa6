-- Whether a rule is found to be broken, by a test, for `own` and `single`.
use Rattle.std.proofs.Common.{◌≡◌, Bool, true, false, subst, sym, ◌∙◌}
use Rattle.std.proofs.lemmas.Bool.{false≢true}
use Rattle.std.specs.Prelude.{◌↔◌, IsTrue, MatchBool, Some}
use Rattle.asn1_der.specs.Departures.{Found, broken}
use Rattle.asn1_der.specs.declared.rule.Rule.{Rule}

-- what is asked where a condition holds is enough for a condition that holds
pub MatchBool-by_true : (b : Bool) (P Q : Type 0) → b ≡ true → P → MatchBool b P Q
MatchBool-by_true true P Q e p = p
MatchBool-by_true false P Q e p = absurd (false≢true e)

-- what is asked where a condition fails is enough for a condition that fails
pub MatchBool-by_false : (b : Bool) (P Q : Type 0) → b ≡ false → Q → MatchBool b P Q
MatchBool-by_false true P Q e q = absurd (false≢true (sym e))
MatchBool-by_false false P Q e q = q

-- a rule is found to be broken where a test of what it asks fails
pub Found-failed : (test : Bool) (Asked : Type 0) (rule found : Rule) → rule ≡ found → IsTrue test ↔ Asked →
    test ≡ false → Found Asked rule (Some found)
Found-failed test Asked rule found e both failed =
    subst (λ z. Found Asked rule (Some z)) e (broken (λ a. false≢true (sym failed ∙ both.1 a)))
