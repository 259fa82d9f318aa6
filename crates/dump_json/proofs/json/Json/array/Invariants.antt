-- For `json::Json::array`: what each turn of its loop keeps.
use Rattle.dump_json.specs.Grammar.{IsOpenArray}
use Rattle.dump_json.proofs.json.Json.array.Given as goal

abbrev pub invariant-loop-item : goal.invariant-loop-item
invariant-loop-item l = IsOpenArray l.is_later l.text.items
