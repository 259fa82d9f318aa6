-- The exit status after inputs.
use Rattle.std.specs.Prelude.{ℕ, List, fold, max}
use Rattle.dump_lines.specs.declared.document.Verdict.TheVariants.{AllRead, Refused}
use Rattle.dump_inputs.specs.declared.outcome.Outcome.{Outcome}
use Rattle.dump_inputs.specs.declared.outcome.Outcome.TheVariants.{Lacking, Unread, Written}

-- the exit status that an input asks for: 0 where all that is wanted was written, 1 where some is rejected or not
-- there, 2 where it can't be read
abbrev pub status_of : Outcome → ℕ
status_of (Written AllRead) = 0
status_of (Written Refused) = 1
status_of (Lacking why) = 1
status_of Unread = 2

-- the greatest exit status that an input asks for
abbrev pub greatest_status : List Outcome → ℕ
greatest_status outcomes = fold (λ most one. max most (status_of one)) 0 outcomes
