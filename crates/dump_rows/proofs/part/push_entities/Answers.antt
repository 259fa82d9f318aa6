-- For `part::push_entities`: its loop keeps its invariant, and what it returns is right.
use Rattle.std.proofs.Common.{◌≡◌, ◌++◌, true, ap, append_assoc, string_bytes, sym, ◌∙◌}
use Rattle.std.proofs.lemmas.Iterator.{YieldsList-from_chars}
use Rattle.std.proofs.lemmas.Iterator.Consumers.{YieldsList-end}
use Rattle.std.proofs.lemmas.List.{map-id}
use Rattle.std.specs.List.{list_all}
use Rattle.der_io.specs.Escaped.{all_escaped}
use Rattle.dump_rows.specs.Parts.{entity, stands_raw}
use Rattle.dump_rows.proofs.Printed.{all_escaped-append, all_escaped-raw}
use Rattle.dump_rows.proofs.part.push_entities.Goals as goal

pub loop-c-preserved : goal.loop-c-preserved
loop-c-preserved c =
    let old = string_bytes c.args.out.now in
    let done = all_escaped entity c.loop-c.yielded in
    c.in_ok-push_entity.ensures
    ∙ (ap (λ z. z ++ entity c.in-Some.c) c.loop-c.invariant
    ∙ (append_assoc old done (entity c.in-Some.c)
    ∙ ap (λ z. old ++ z) (sym (all_escaped-append entity c.loop-c.yielded c.in-Some.c))))

pub returns : goal.returns
returns c =
    let t = YieldsList-end (YieldsList-from_chars c.args.text.now c.utf8.text cc) c.loop-c.yielded _ c.loop-c.yielded_by
    _ _ c.in-None.is c.next.ensures.steps in
    c.loop-c.invariant
    ∙ ap (λ z. string_bytes c.args.out.now ++ all_escaped entity z) (sym (map-id c.loop-c.yielded) ∙ t.0)

pub returns-then-is_raw : goal.returns-then-is_raw
returns-then-is_raw c =
    let text = c.args.text.now in
    let raw : list_all stands_raw text ≡ true =
    ap (list_all stands_raw) (sym c.as_bytes.ensures.value) ∙ (sym c.is_raw.ensures ∙ c.if-is_raw.true) in
    c.in_ok-push_str.ensures.bytes ∙ ap (λ z. string_bytes c.args.out.now ++ z) (sym (all_escaped-raw text raw))
