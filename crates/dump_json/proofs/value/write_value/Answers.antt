-- For `value::write_value`: what it returns is right.
use Rattle.std.proofs.Common.{codes}
use Rattle.std.proofs.lemmas.Result.{on_ok_weaker}
use Rattle.dump_json.specs.Grammar.{IsInt, IsNumber, IsString, IsValue}
use Rattle.dump_json.proofs.Written.{IsWritten-map}
use Rattle.dump_json.proofs.value.write_value.Goals as goal

pub returns-in-Null : goal.returns-in-Null
returns-in-Null g c =
    on_ok_weaker c.write_part.result (λ a. (codes "null", a, IsValue.null_name)) c.write_part.ensures.written

pub returns-in-Boolean-true : goal.returns-in-Boolean-true
returns-in-Boolean-true g c =
    on_ok_weaker c.write_part-in-Boolean-true.result (λ a. (codes "true", a, IsValue.true_name))
    c.write_part-in-Boolean-true.ensures.written

pub returns-in-Boolean-false : goal.returns-in-Boolean-false
returns-in-Boolean-false g c =
    on_ok_weaker c.write_part-in-Boolean-false.result (λ a. (codes "false", a, IsValue.false_name))
    c.write_part-in-Boolean-false.ensures.written

pub returns-in-Natural : goal.returns-in-Natural
returns-in-Natural g c =
    on_ok_weaker c.write_natural.result
    (λ a. IsWritten-map IsInt IsValue (λ t h. IsValue.number t (IsNumber.positive t h)) _ _ a)
    c.write_natural.ensures

pub returns-in-Integer : goal.returns-in-Integer
returns-in-Integer g c =
    on_ok_weaker c.write_integer.result (λ a. IsWritten-map IsNumber IsValue IsValue.number _ _ a)
    c.write_integer.ensures

pub returns-in-Text : goal.returns-in-Text
returns-in-Text g c =
    on_ok_weaker c.write_string.result (λ a. IsWritten-map IsString IsValue IsValue.string _ _ a)
    c.write_string.ensures

pub returns-in-Made : goal.returns-in-Made
returns-in-Made g c =
    on_ok_weaker c.write_string-in-Made.result (λ a. IsWritten-map IsString IsValue IsValue.string _ _ a)
    c.write_string-in-Made.ensures

pub returns-in-Octets : goal.returns-in-Octets
returns-in-Octets g c =
    on_ok_weaker c.write_hex.result (λ a. IsWritten-map IsString IsValue IsValue.string _ _ a) c.write_hex.ensures

pub returns-in-Written : goal.returns-in-Written
returns-in-Written g c =
    on_ok_weaker c.write_part-in-Written.result (λ a. (_, a, c.as_bytes.ensures))
    c.write_part-in-Written.ensures.written
