-- For `block_ref::BlockRef::leaf`: what it returns is right.
use Rattle.std.proofs.Common.{◌≡◌, sym, subst, arith}
use Rattle.std.proofs.lemmas.Grind.{common_steps}
use Rattle.asn1_headers.specs.declared.header.ASN1Class.TheVariants.{Universal}
use Rattle.asn1_blocks.specs.Inner.LeafBlocks.{IsLeafOf}
use Rattle.asn1_blocks.specs.View.{tree_offset}
use Rattle.asn1_outline.proofs.Values.{IsLeafOf-entry, IsNoLeafWith-entry}
use Rattle.asn1_outline.proofs.block_ref.BlockRef.leaf.Goals as goal

pub returns-then-not-is_universal : goal.returns-then-not-is_universal
returns-then-not-is_universal c b e =
    let r = c.args.self.now.entry in
    let other : (r.class ≡ Universal) × (r.tag ≡ c.args.tag) → ⊥ = grind (arith, common_steps) in
    IsNoLeafWith-entry c.args.self.now.octets.now b r c.args.tag e c.requires.small other

pub returns : goal.returns
returns c b e =
    let r = c.args.self.now.entry in
    let own : (r.class ≡ Universal) × (r.tag ≡ c.args.tag) = grind (arith, common_steps) in
    subst (λ z. IsLeafOf (tree_offset b) c.args.tag z b) (sym c.contents.ensures.octets)
    (IsLeafOf-entry c.args.self.now.octets.now b r c.args.tag e own.0 own.1 c.requires.small c.requires.leaf)
