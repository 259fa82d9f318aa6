-- For `entry_builder::EntryBuilder::set_items`: what it returns is right.
use Rattle.std.proofs.Common.{◌<◌, ◌≤◌, length, refl, arith, ◌∙◌}
use Rattle.std.proofs.lemmas.Grind.{common_steps}
use Rattle.std.proofs.lemmas.List.{get_or_default}
use Rattle.asn1_outline.specs.Entries.{no_entry}
use Rattle.asn1_outline.proofs.Fronts.{KeepsOf-with_items_behind, KeepsOf-with_items_within}
use Rattle.asn1_outline.proofs.entry_builder.EntryBuilder.set_items.Goals as goal

pub returns-then-items-len : goal.returns-then-items-len
returns-then-items-len c all w =
    let b = c.args.self.now in
    let own : length b.kept.items ≤ c.args.items.entry = grind (arith, common_steps) in
    KeepsOf-with_items_behind b all c.args.items.entry c.args.items.count own w

pub returns : goal.returns
returns c all w =
    let b = c.args.self.now in
    let own : c.args.items.entry < length b.kept.items = grind (arith, common_steps) in
    let r = c.index_mut-entry.result.now in
    KeepsOf-with_items_within b _ all c.args.items.entry c.args.items.count c.count-next.result r own w
    (c.index_mut-entry.ensures.value ∙ get_or_default b.kept.items c.args.items.entry r no_entry own)
    (c.count-next.ensures.count all w) refl refl
