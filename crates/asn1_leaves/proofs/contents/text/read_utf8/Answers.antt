-- For `contents::text::read_utf8`: what it returns is right (`found`).
use Rattle.std.proofs.Common.{◌≡◌, ap, ◌∙◌, string_bytes, arith}
use Rattle.std.specs.Prelude.{encode_utf8_all}
use Rattle.std.specs.Str.{all_scalars, chars}
use Rattle.std.proofs.lemmas.Grind.{common_steps}
use Rattle.std.proofs.lemmas.Str.{encodes-chars, scalars-chars}
use Rattle.asn1_leaves.proofs.contents.text.read_utf8.Goals as goal

pub returns-clause-found : goal.returns-clause-found
returns-clause-found c =
    let e : string_bytes c.in_ok-from_str.field-0 ≡ c.args.contents.now = grind (arith, common_steps) in
    let u = c.in_ok-text.ensures.found.1 in (
      ap (λ z. all_scalars (chars z)) e ∙ scalars-chars c.args.contents.now u,
      ap (λ z. encode_utf8_all (chars z)) e ∙ encodes-chars c.args.contents.now u,
    )
