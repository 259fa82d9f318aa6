-- For `contents::same_text`: what it returns is right.
use Rattle.std.proofs.Common.{sym, ap, ◌∙◌}
use Rattle.std.specs.Prelude.{encode_utf8_all}
use Rattle.std.specs.Str.{chars}
use Rattle.std.proofs.lemmas.Slice.Eq.{bytes_eq-Decides}
use Rattle.std.proofs.lemmas.Str.{encodes-chars}
use Rattle.asn1_blocks.proofs.contents.same_text.Goals as goal

pub returns : goal.returns
returns c =
    let d = bytes_eq-Decides c.args.s.now c.args.t.now in (
      λ h. ap chars (d.0 (sym c.eq.ensures ∙ h)),
      λ e. c.eq.ensures ∙ d.1
          (sym (encodes-chars c.args.s.now c.utf8.s) ∙ (ap encode_utf8_all e ∙ encodes-chars c.args.t.now c.utf8.t)),
    )
