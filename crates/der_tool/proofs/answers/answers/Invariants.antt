-- For `answers::answers`: what each turn of its loop keeps and what grows less, so that it ends.
use Rattle.std.proofs.Common.{◌++◌, ℕ, List, length}
use Rattle.der_io.specs.Lines.{lines_of}
use Rattle.der_tool.specs.Answers.{AreLineAnswers}
use Rattle.der_tool.proofs.answers.answers.Given as goal

-- what answers the rest of the lines, after the output so far, answers them all
abbrev pub invariant-loop-rest : goal.invariant-loop-rest
invariant-loop-rest l =
    (later : List ℕ) → AreLineAnswers l.reading (lines_of l.rest) later →
    AreLineAnswers l.reading (lines_of l.fn.input) (l.output.items ++ later)

abbrev pub decreases-loop-rest : goal.decreases-loop-rest
decreases-loop-rest l = length l.rest
