-- For `string::write_chars`: its loop keeps its invariant and what it returns is right.
use Rattle.std.proofs.Common.{[]}
use Rattle.std.proofs.KnownBytes.{Appends-nil}
use Rattle.dump_json.specs.Grammar.{AreChars}
use Rattle.dump_json.proofs.Chars.{AreChars-each}
use Rattle.dump_json.proofs.Texts.{AreChars-append}
use Rattle.dump_json.proofs.Written.{IsWritten-trans}
use Rattle.dump_json.proofs.string.write_chars.Goals as goal

pub loop-c-init : goal.loop-c-init
loop-c-init g c = ([], Appends-nil (g.W.Write.contents c.args.out.now), AreChars.none)

pub loop-c-preserved : goal.loop-c-preserved
loop-c-preserved g c =
    IsWritten-trans AreChars AreChars-append _ _ _ c.loop-c.invariant c.in_ok-write_char.ensures

pub returns-then-are_plain : goal.returns-then-are_plain
returns-then-are_plain g c =
    (_, c.in_ok-write_part.ensures.written, AreChars-each _ (c.are_plain.ensures.0 c.if-are_plain.true))
