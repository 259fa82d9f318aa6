-- For `spelling::prepend_record`: what it returns is right (`refused`).
use Rattle.asn1_records.specs.declared.spelling.SpellErr.{SpellErr}
use Rattle.asn1_records.specs.declared.spelling.SpellErr.TheVariants.{Record}
use Rattle.asn1_records.proofs.Spellings.{IsUnspellable-too_many}
use Rattle.asn1_records.proofs.spelling.prepend_record.Goals as goal

pub returns-then-block-gt0-clause-refused : goal.returns-then-block-gt0-clause-refused
returns-then-block-gt0-clause-refused c =
    IsUnspellable-too_many c.args.octets.now c.args.block.now c.args.out.now.octets c.args.starts.now.items
    c.args.canonical.now SpellErr Record c.prepend_items.result c.prepend_items.ensures.refused
