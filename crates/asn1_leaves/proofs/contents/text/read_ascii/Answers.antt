-- For `contents::text::read_ascii`: what it returns is right and `text` may be called.
use Rattle.std.proofs.Common.{arith}
use Rattle.std.proofs.lemmas.Grind.{common_steps}
use Rattle.std.proofs.lemmas.Str.{chars-IsAscii, IsUtf8-from_ascii}
use Rattle.asn1_leaves.proofs.contents.text.read_ascii.Goals as goal

pub from_utf8_unchecked-text-requires : goal.from_utf8_unchecked-text-requires
from_utf8_unchecked-text-requires c = IsUtf8-from_ascii c.args.contents.now c.requires

pub returns : goal.returns
returns c = let e = chars-IsAscii c.args.contents.now c.requires in grind (arith, common_steps, e)
