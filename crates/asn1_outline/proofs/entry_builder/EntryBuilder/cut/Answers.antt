-- For `entry_builder::EntryBuilder::cut`: what it returns is right.
use Rattle.std.proofs.Common.{◌≡◌, suc, length, refl, arith}
use Rattle.std.proofs.lemmas.Grind.{common_steps}
use Rattle.asn1_outline.proofs.Fronts.{KeepsOf-take_behind, KeepsOf-take_all}
use Rattle.asn1_outline.proofs.entry_builder.EntryBuilder.cut.Goals as goal

pub returns-then-entry-kept-2 : goal.returns-then-entry-kept-2
returns-then-entry-kept-2 c all w =
    let b = c.args.self.now in
    let own : c.len-kept.result ≡ length b.kept.items = grind (arith, common_steps) in
    KeepsOf-take_behind b _ all (suc c.args.entry) (omega (arith, own)) (omega (arith, own)) w refl (omega (arith, own))

pub returns-else-entry-kept-2 : goal.returns-else-entry-kept-2
returns-else-entry-kept-2 c all w =
    let b = c.args.self.now in
    let own : c.len-kept.result ≡ length b.kept.items = grind (arith, common_steps) in
    KeepsOf-take_all b all (suc c.args.entry) (omega (arith, own)) w
