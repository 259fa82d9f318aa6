-- For `faithful::first_failure`: its loop keeps its invariant, what it returns is right, and no index is out of
-- bounds.
use Rattle.std.proofs.Common.{◌≡◌, ◌<◌, ◌≤◌, List, ap, arith, length, ◌∙◌}
use Rattle.std.proofs.lemmas.Grind.{common_steps}
use Rattle.asn1_blocks.specs.declared.block.ASN1Block.{ASN1Block}
use Rattle.asn1_blocks.specs.BlockParts.{all_in_order}
use Rattle.asn1_blocks.specs.Inner.FaithfulWalk.{IsFaithfulAlone}
use Rattle.asn1_blocks.specs.Tree.{more_trees, no_trees}
use Rattle.asn1_blocks.specs.View.{view, views}
use Rattle.asn1_writing.specs.Unfaithful.{FailsBy}
use Rattle.asn1_writing.proofs.Failures.{FailsFirst-found, All-take_next, IsFaithful-none_found, views_of}
use Rattle.asn1_writing.proofs.faithful.first_failure.Goals as goal

pub returns-in-Some : goal.returns-in-Some
returns-in-Some c =
    let list = c.deref-block-items.result.now in
    let order : views_of c.deref-block-items.result.now ≡ all_in_order (more_trees (view c.args.whole.now) no_trees) =
    ap views_of c.deref-block-items.ensures.value
    ∙ (c.in_ok-order.ensures ∙ ap (λ (z : List ASN1Block). all_in_order (views z)) c.from_ref.ensures.value) in
    let within : c.loop-index.index < length c.deref-block-items.result.now = grind (arith, common_steps) in
    let fails : FailsBy (view c.block-item.result.now) c.in-Some.reason = rw c.in-Some.is at c.in_ok-reason.ensures in
    FailsFirst-found (view c.args.whole.now) list c.loop-index.index c.block-item.result c.in-Some.reason order within
    c.block-item.is c.loop-index.invariant fails

pub loop-index-preserved : goal.loop-index-preserved
loop-index-preserved c =
    let list = c.deref-block-items.result.now in
    let within : c.loop-index.index < length c.deref-block-items.result.now = grind (arith, common_steps) in
    let alone : IsFaithfulAlone (view c.block-item.result.now) = grind (arith, common_steps) in
    All-take_next list c.loop-index.index c.block-item.result within c.block-item.is c.loop-index.invariant alone

pub returns : goal.returns
returns c =
    let list = c.deref-block-items.result.now in
    let order : views_of c.deref-block-items.result.now ≡ all_in_order (more_trees (view c.args.whole.now) no_trees) =
    ap views_of c.deref-block-items.ensures.value
    ∙ (c.in_ok-order.ensures ∙ ap (λ (z : List ASN1Block). all_in_order (views z)) c.from_ref.ensures.value) in
    let end : length c.deref-block-items.result.now ≤ c.loop-index.index = grind (arith, common_steps) in
    IsFaithful-none_found (view c.args.whole.now) list c.loop-index.index order end c.loop-index.invariant
