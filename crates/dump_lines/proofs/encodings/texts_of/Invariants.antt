-- For `encodings::texts_of`: what each turn of its loop keeps.
use Rattle.std.proofs.Common.{◌≡◌, map, take}
use Rattle.dump_lines.proofs.encodings.texts_of.Given as goal

abbrev pub invariant-loop-rule : goal.invariant-loop-rule
invariant-loop-rule l =
    map (λ r. r.now) l.texts.items ≡ map (λ r. r.text.now) (take l.rule-index l.rule-items)
