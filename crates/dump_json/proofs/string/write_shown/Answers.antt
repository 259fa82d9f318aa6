-- For `string::write_shown`: what it returns is right.
use Rattle.std.proofs.Common.{◌∙◌, arith, subst}
use Rattle.std.specs.Io.KnownBytes.{Appends}
use Rattle.dump_json.specs.Grammar.{IsChar}
use Rattle.dump_json.proofs.Chars.{least-shown}
use Rattle.dump_json.proofs.Texts.{AreChars-one}
use Rattle.dump_json.proofs.string.write_shown.Goals as goal

pub returns : goal.returns
returns g c =
    let (shown, quote, backslash) = c.requires in (
      _,
      subst (Appends _ _) (c.as_bytes.ensures.value ∙ c.encode_utf8.ensures.value) c.in_ok-write_part.ensures.written,
      AreChars-one _
          (IsChar.unescaped c.args.c (least-shown c.args.c shown, quote, backslash, omega arith, shown)),
    )
