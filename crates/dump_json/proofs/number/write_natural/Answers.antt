-- For `number::write_natural`: what it returns is right.
use Rattle.std.proofs.Common.{◌∙◌, subst}
use Rattle.std.specs.Io.KnownBytes.{Appends}
use Rattle.dump_json.proofs.Chars.{IsInt-decimal}
use Rattle.dump_json.proofs.number.write_natural.Goals as goal

pub returns : goal.returns
returns g c = (
  _,
  subst (Appends _ _) (c.as_bytes.ensures.value ∙ c.format.ensures.text) c.in_ok-write_part.ensures.written,
  IsInt-decimal c.args.number c.ranges.number.fits,
)
