-- For `items::items_of`: what it returns is right (`found`).
use Rattle.asn1_blocks.specs.View.{view}
use Rattle.simple_asn1.proofs.HeldItems.{IsSomeAnd-held_items}
use Rattle.simple_asn1.proofs.items.items_of.Goals as goal

pub returns-clause-found : goal.returns-clause-found
returns-clause-found c = IsSomeAnd-held_items (view c.args.block.now) c.held_items.result c.held_items.ensures
