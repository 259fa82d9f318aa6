-- For `block::parts::all_blocks`: what it returns is right.
use Rattle.std.proofs.Common.{◌≡◌, map, sym, ◌∙◌, Bor}
use Rattle.std.proofs.lemmas.Result.{IfOk-weaker}
use Rattle.std.proofs.lemmas.Simd.{map-map}
use Rattle.asn1_blocks.specs.declared.block.ASN1Block.{ASN1Block}
use Rattle.asn1_blocks.specs.BlockParts.{all_in_order}
use Rattle.asn1_blocks.specs.Inner.TreeOrder.{IsInTreeOrder}
use Rattle.asn1_blocks.specs.View.{view, views}
use Rattle.asn1_blocks.proofs.TreeOrders.{map-view_in_order}
use Rattle.asn1_blocks.proofs.block.parts.all_blocks.Goals as goal

pub returns : goal.returns
returns c =
    let blocks = c.args.blocks.now in
    IfOk-weaker c.in_tree_order.result
    (λ order. IsInTreeOrder (map (λ (b : Bor ASN1Block). b.now) order.items) blocks)
    (λ order. map (λ (b : Bor ASN1Block). view b.now) order.items ≡ all_in_order (views blocks))
    (λ order h. sym (map-map view (λ (b : Bor ASN1Block). b.now) order.items) ∙ map-view_in_order _ blocks h)
    c.in_tree_order.ensures
