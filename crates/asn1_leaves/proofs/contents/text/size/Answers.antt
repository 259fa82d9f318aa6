-- For `contents::text::size`: what it returns is right (`size`).
use Rattle.std.proofs.Common.{arith, ap, length}
use Rattle.std.proofs.lemmas.Grind.{common_steps}
use Rattle.std.proofs.lemmas.Str.{encodes-chars}
use Rattle.asn1_leaves.proofs.contents.text.size.Goals as goal

pub returns-in-Utf8-clause-size : goal.returns-in-Utf8-clause-size
returns-in-Utf8-clause-size c =
    grind (arith, common_steps, ap length (encodes-chars c.args.text.now c.utf8.text))
