-- For `read::TreeBuilderBuilder::open`: what it returns is right.
use Rattle.std.proofs.Common.{◌≡◌, length, refl, ap, arith}
use Rattle.std.proofs.lemmas.Grind.{common_steps}
use Rattle.asn1_blocks.specs.declared.read.TreeBuilder.{TreeBuilder}
use Rattle.asn1_blocks.proofs.TreeBuilding.Ending.{HasOpened-tree_builder}
use Rattle.asn1_blocks.proofs.read.TreeBuilderBuilder.open.Goals as goal
use Rattle.asn1_blocks.proofs.read.TreeBuilderBuilder.open.Goals.{else-not-matches, then-not-matches+then-is_none}

pub returns : goal.returns
returns c =
    let b = c.if-not-matches.self in
    let same : b.postponed ≡ c.args.self.now.postponed = elim c.if-not-matches.branch [
      | then-not-matches+then-is_none w ↦ ap (λ (z : TreeBuilder). z.postponed) w.self-is
      | else-not-matches w ↦ ap (λ (z : TreeBuilder). z.postponed) w.self-is
    ] in
    let (limit, found, within) = c.requires.found in
    let before : c.len.result ≡ length b.postponed.items = grind (arith, common_steps) in
    HasOpened-tree_builder c.args.octets.now c.args.header.now c.args._offset c.args.depth c.args.self.now b
    (record {
      first = c.in_ok-first.first;
      class = c.args.header.now.class;
      tag = c.in_ok-tag.tag;
      postponed_before = c.len.result;
      postponed_count = 0;
    }) same before refl c.in_ok-first.ensures refl c.in_ok-tag.ensures limit found
