-- For `building::block_around`: what it returns is right.
use Rattle.std.proofs.Common.{◌≡◌, true, sym, ap, ◌∙◌, rules, arith}
use Rattle.std.proofs.lemmas.Grind.{common_steps}
use Rattle.std.proofs.lemmas.Result.{IfOk-weaker}
use Rattle.asn1_headers.specs.declared.tags.TheConstants.{SEQUENCE, SET}
use Rattle.asn1_blocks.specs.declared.block.GroupKind.TheVariants.{Sequence, Set}
use Rattle.asn1_blocks.specs.Tree.{group, trees_of}
use Rattle.asn1_blocks.specs.View.{view, views}
use Rattle.asn1_outline.specs.Structure.{node_items, nodes_trees}
use Rattle.asn1_outline.proofs.Built.{node_tree-group, node_tree-leaf, node_tree-not_universal}
use Rattle.asn1_outline.proofs.Roots.{trees_of-listed}
use Rattle.asn1_outline.proofs.building.block_around.Goals as goal

pub returns-in-Some-eq16 : goal.returns-in-Some-eq16
returns-in-Some-eq16 c n at own =
    let g = c.args.header in
    let tag : g.tag ≡ SEQUENCE = grind (arith, common_steps) in
    let items : views c.args.inside ≡ nodes_trees (node_items n) =
    ap trees_of own ∙ trees_of-listed (nodes_trees (node_items n)) in
    c.group_block.ensures ∙ ap (group c.args.offset Sequence) items
    ∙ sym (node_tree-group c.args.octets.now c.args.offset n g c.requires at Sequence c.in-Universal.is tag)

pub returns-in-Some-eq17 : goal.returns-in-Some-eq17
returns-in-Some-eq17 c n at own =
    let g = c.args.header in
    let tag : g.tag ≡ SET = grind (arith, common_steps) in
    let items : views c.args.inside ≡ nodes_trees (node_items n) =
    ap trees_of own ∙ trees_of-listed (nodes_trees (node_items n)) in
    c.group_block-in-Some-eq17.ensures ∙ ap (group c.args.offset Set) items
    ∙ sym (node_tree-group c.args.octets.now c.args.offset n g c.requires at Set c.in-Universal.is tag)

pub returns-in_default-to_u64 : goal.returns-in_default-to_u64
returns-in_default-to_u64 c n at own =
    IfOk-weaker c.leaf_block.result _ _
    (λ block means. node_tree-leaf c.args.octets.now c.args.offset n c.args.header c.requires at (view block) means)
    c.leaf_block.ensures.encoded

pub returns-then-not-header : goal.returns-then-not-header
returns-then-not-header c n at own =
    IfOk-weaker c.leaf_block-then-not-header.result _ _
    (λ block means. node_tree-leaf c.args.octets.now c.args.offset n c.args.header c.requires at (view block) means)
    c.leaf_block-then-not-header.ensures.encoded

pub returns-in_ok-tagged_block-in_default : goal.returns-in_ok-tagged_block-in_default
returns-in_ok-tagged_block-in_default c n at own =
    let block = c.in_ok-tagged_block-in_default.field-0 in
    let ensured = c.in_ok-tagged_block-in_default.ensures in
    let set : c.args.header.constructed ≡ true = search rules in
    node_tree-not_universal c.args.octets.now c.args.offset n c.args.header c.requires at c.args.inside (view block)
    c.in_default.not-Universal set own ensured.one ensured.other
