-- For `number::write_integer`: what it returns is right.
use Rattle.std.proofs.Common.{◌++◌, codes}
use Rattle.std.proofs.KnownBytes.{Appends-trans}
use Rattle.dump_json.specs.Grammar.{IsInt, IsNumber}
use Rattle.dump_json.proofs.Written.{IsWritten-map}
use Rattle.dump_json.proofs.number.write_integer.Goals as goal

pub returns-then-number-lt0 : goal.returns-then-number-lt0
returns-then-number-lt0 g c =
    let (t, p, h) = c.in_ok-write_natural.ensures in (
      codes "-" ++ t,
      Appends-trans _ _ _ (codes "-") t c.in_ok-write_part.ensures.written p,
      IsNumber.negative t h,
    )

pub returns : goal.returns
returns g c = IsWritten-map IsInt IsNumber IsNumber.positive _ _ c.in_ok-write_natural-2.ensures
