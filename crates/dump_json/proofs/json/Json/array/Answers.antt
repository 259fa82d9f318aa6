-- For `json::Json::array`: its loop keeps its invariant, and so does what it makes.
use Rattle.std.proofs.Common.{◌∙◌, ◌++◌, ap, append_assoc, false, subst, sym, true}
use Rattle.dump_json.specs.Grammar.{IsOpenArray, IsValue, comma_if}
use Rattle.dump_json.proofs.json.Json.array.Goals as goal

pub loop-item-init : goal.loop-item-init
loop-item-init c = subst (IsOpenArray false) (sym c.in_ok-text.ensures.items) IsOpenArray.begin_array

pub loop-item-preserved : goal.loop-item-preserved
loop-item-preserved c =
    let later = c.loop-item.is_later in
    let text = c.loop-item.text.items in
    let item = c.as_bytes.result.now in
    subst (IsOpenArray true)
    (sym (c.in_ok-extend_from_slice-2.ensures.items
    ∙ (ap (λ z. z ++ item) (c.in_ok-extend_from_slice.ensures.items ∙ ap (λ z. text ++ z) c.comma.ensures)
    ∙ append_assoc text (comma_if later) item)))
    (IsOpenArray.with_item later text item c.loop-item.invariant c.as_bytes.ensures)

pub invariant_of-result : goal.invariant_of-result
invariant_of-result c =
    subst IsValue (sym c.in_ok-push.ensures.items)
    (IsValue.array c.loop-item.is_later c.loop-item.text.items c.loop-item.invariant)
