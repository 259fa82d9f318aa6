-- For `faithful::is_unknown_tag`: what it returns is right.
use Rattle.std.proofs.Common.{◌∙◌, ap, refl}
use Rattle.asn1_blocks.specs.Contents.{is_known_tag}
use Rattle.asn1_blocks.proofs.Leaves.{IsUnknownTag-iff_not_known, IsUnknownTag-large}
use Rattle.asn1_blocks.proofs.faithful.is_unknown_tag.Goals as goal

pub returns-in-Some : goal.returns-in-Some
returns-in-Some c =
    IsUnknownTag-iff_not_known c.args.tag.now c.is_known.result
    (c.is_known.ensures ∙ ap is_known_tag c.in-Some.ensures.1)

pub returns-in-None : goal.returns-in-None
returns-in-None c = (λ _. IsUnknownTag-large c.args.tag.now c.in-None.ensures, λ _. refl)
