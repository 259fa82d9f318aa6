-- For `unknown_values::ascii_text`: what it returns is right and `text_of_ascii` may be called.
use Rattle.std.proofs.Common.{◌≡◌, true, Some, None, sym, ap, ◌∙◌, arith}
use Rattle.std.specs.Prelude.{if◌then◌else◌}
use Rattle.std.specs.List.{list_all}
use Rattle.std.proofs.lemmas.Bool.{and_from}
use Rattle.std.proofs.lemmas.Grind.{common_steps}
use Rattle.asn1_blocks.specs.UnknownValues.{is_ascii_character, is_ascii_tag}
use Rattle.asn1_blocks.proofs.AsciiTexts.{IsAscii-characters}
use Rattle.asn1_blocks.proofs.unknown_values.ascii_text.Goals as goal

pub text_of_ascii-requires : goal.text_of_ascii-requires
text_of_ascii-requires c =
    let all : list_all (is_ascii_character c.args.tag) c.args.contents.now ≡ true = grind (arith, common_steps) in
    IsAscii-characters c.args.tag c.args.contents.now all

pub returns : goal.returns
returns c =
    let all : list_all (is_ascii_character c.args.tag) c.args.contents.now ≡ true = grind (arith, common_steps) in
    let tag : is_ascii_tag c.args.tag ≡ true = grind (arith, common_steps) in
    ap (λ z. if z then Some c.args.contents.now else None) (and_from _ _ tag all)
    ∙ ap Some (sym c.text_of_ascii.ensures)
