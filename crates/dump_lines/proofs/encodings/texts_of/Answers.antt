-- For `encodings::texts_of`: its loop keeps its invariant, and what it returns is right.
use Rattle.std.proofs.Common.{ap, arith, map, refl, ◌∙◌}
use Rattle.std.proofs.lemmas.List.{take_all}
use Rattle.dump_walk.specs.Marks.{text_in}
use Rattle.dump_lines.proofs.Rules.{map-more}
use Rattle.dump_lines.proofs.encodings.texts_of.Goals as goal

pub loop-rule-preserved : goal.loop-rule-preserved
loop-rule-preserved c =
    map-more text_in (λ r. r.now) c.deref-rule-items.result.now c.loop-rule.rule-index _
    c.loop-rule.texts.items c.push.new.self.items _ c.loop-rule-test.true refl c.in_ok-push.ensures.items
    c.loop-rule.invariant

pub returns : goal.returns
returns c =
    let items = c.deref-rule-items.result.now in
    c.loop-rule.invariant
    ∙ (ap (map text_in) (take_all c.loop-rule.rule-index items (omega arith))
    ∙ (ap (map text_in) c.deref-rule-items.ensures.value ∙ c.in_ok-rules.ensures))
