-- For `json::Json::object`: its invariant holds.
use Rattle.std.proofs.Common.{false, subst, sym}
use Rattle.dump_json.specs.Grammar.{IsOpenObject, IsValue}
use Rattle.dump_json.proofs.Written.{IsWritten-turned}
use Rattle.dump_json.proofs.json.Json.object.Goals as goal

pub invariant_of-result : goal.invariant_of-result
invariant_of-result c =
    subst IsValue (sym c.in_ok-push.ensures.items)
    (IsValue.object _ _
    (IsWritten-turned (IsOpenObject false) (IsOpenObject _) _ _
    (subst (IsOpenObject false) (sym c.in_ok-text.ensures.items) IsOpenObject.begin_object)
    c.in-Ok.ensures))
