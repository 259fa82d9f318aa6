-- For `strict::check_blocks`: what it returns is right (`canonical`).
use Rattle.asn1_blocks.specs.View.{views}
use Rattle.asn1_outline.proofs.StrictOutlines.{all_canonical-only_reading}
use Rattle.asn1_outline.proofs.strict.check_blocks.Goals as goal

pub returns-in-Ok-clause-canonical : goal.returns-in-Ok-clause-canonical
returns-in-Ok-clause-canonical c bs d =
    all_canonical-only_reading c.args.octets.now (views c.in-Ok.blocks.items) bs c.in-Ok.ensures.document d
