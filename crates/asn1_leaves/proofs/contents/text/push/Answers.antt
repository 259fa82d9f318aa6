-- For `contents::text::push`: what it returns is right and `push_octets` may be called.
use Rattle.std.proofs.Common.{arith, ap, length}
use Rattle.std.proofs.lemmas.Grind.{common_steps}
use Rattle.std.proofs.lemmas.Str.{encodes-chars}
use Rattle.asn1_leaves.proofs.contents.text.push.Goals as goal

pub push_octets-requires : goal.push_octets-requires
push_octets-requires g c = grind (arith, common_steps, ap length (encodes-chars c.args.text.now c.utf8.text))

pub returns-in-Utf8 : goal.returns-in-Utf8
returns-in-Utf8 g c = grind (arith, common_steps, encodes-chars c.args.text.now c.utf8.text, c.push_octets.ensures)
