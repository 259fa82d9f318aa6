-- For `members::Name::begin`: what it returns is right.
use Rattle.std.proofs.Common.{◌-◌, false, arith, drop, length, length-drop, subst, sym, take}
use Rattle.std.proofs.lemmas.List.{take_all}
use Rattle.dump_json.specs.Lines.{BeginsMember}
use Rattle.dump_json.proofs.Written.{BeginsMember-first}
use Rattle.dump_json.proofs.members.Name.begin.Goals as goal

pub returns-else-is_later : goal.returns-else-is_later
returns-else-is_later c =
    let s = c.later_begin-begin.result.now in
    subst (λ later. BeginsMember later (take (length s - 1) (drop 1 s))) (sym c.if-is_later.false)
    (subst (BeginsMember false) (sym (take_all (length s - 1) (drop 1 s) (omega (arith, length-drop 1 s))))
    (BeginsMember-first s c.later_begin-begin.ensures))
