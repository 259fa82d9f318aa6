-- For `answers::answers`: its loop keeps its invariant and what it returns is right.
use Rattle.std.proofs.Common.{rules, ◌≡◌, ◌++◌, ℕ, List, [], ◌∷◌, length, refl, sym, ap, ◌∙◌, arith, subst, append_assoc, append-nil}
use Rattle.der_io.specs.Lines.{lines_of}
use Rattle.der_tool.specs.Answers.{AreLineAnswers}
use Rattle.der_tool.specs.declared.answers.Reading.{Reading}
use Rattle.der_tool.proofs.answers.answers.Goals as goal

-- the empty output answers the empty input
AreLineAnswers-empty :
    (reading : Reading) (input : List ℕ) → length input ≡ 0 → AreLineAnswers reading (lines_of input) []
AreLineAnswers-empty reading [] e = refl
AreLineAnswers-empty reading (b ∷ input) e = absurd (omega (arith, e))

-- an answer and its end go after the output so far
append-one_answer : (out mid new answer later : List ℕ) → mid ≡ out ++ answer → new ≡ mid ++ 10 ∷ [] →
    out ++ (answer ++ 10 ∷ later) ≡ new ++ later
append-one_answer out mid new answer later p q =
    sym (ap (λ l. l ++ later) (q ∙ ap (λ l. l ++ 10 ∷ []) p) ∙ append_assoc (out ++ answer) (10 ∷ []) later
    ∙ append_assoc out answer (10 ∷ later))

pub loop-rest-preserved : goal.loop-rest-preserved
loop-rest-preserved c = λ later h.
    let a = c.in_ok-append_answer.ensures in
    let now : AreLineAnswers c.args.reading (lines_of c.loop-rest.rest.now) (a.0 ++ 10 ∷ later) =
    subst (λ lines. AreLineAnswers c.args.reading lines (a.0 ++ 10 ∷ later)) (sym c.split_line.ensures.first)
    (a.0, later, refl, a.1, h) in
    subst (AreLineAnswers c.args.reading (lines_of c.args.input.now))
    (append-one_answer _ _ _ a.0 later a.2 c.in_ok-push.ensures.items) (c.loop-rest.invariant (a.0 ++ 10 ∷ later) now)

pub returns : goal.returns
returns c =
    let empty : length c.loop-rest.rest.now ≡ 0 = search rules in
    subst (AreLineAnswers c.args.reading (lines_of c.args.input.now)) (append-nil c.loop-rest.output.items)
    (c.loop-rest.invariant [] (AreLineAnswers-empty c.args.reading c.loop-rest.rest.now empty))
