-- For `kinds::group`: what it returns is right.
use Rattle.std.proofs.Common.{◌≡◌, sym, subst, arith}
use Rattle.std.proofs.lemmas.Grind.{common_steps}
use Rattle.asn1_headers.specs.declared.header.ASN1Class.TheVariants.{Universal}
use Rattle.asn1_blocks.specs.Contents.{group_tag}
use Rattle.asn1_outline.specs.Structure.{tree_at}
use Rattle.asn1_certificate.specs.Reading.{IsGroupOf, trees_at}
use Rattle.asn1_certificate.proofs.EntryTrees.{IsGroup-entry, IsGroupOf-items, IsGroupOf-other, IsGroupOf-past, slice_get-past, slice_get-within}
use Rattle.asn1_certificate.proofs.Steps.{from-none}
use Rattle.asn1_certificate.proofs.kinds.group.Goals as goal

pub returns-in_err-block : goal.returns-in_err-block
returns-in_err-block c ns d =
    let o = c.args.outline.now in
    from-none _ _ _ c.from_residual.ensures (λ items.
    IsGroupOf-past o.octets.now o.entries.items ns c.args.index o.document d c.args.kind items
    (slice_get-past o.entries.items c.args.index (sym c.in_err-block.ensures.entry)))

pub returns-then-not-is_universal : goal.returns-then-not-is_universal
returns-then-not-is_universal c ns d items =
    let b = c.in_ok-block.block in
    let other : (b.entry.class ≡ Universal) × (b.entry.tag ≡ group_tag c.args.kind) → ⊥ = grind (arith, common_steps) in
    IsGroupOf-other b.octets.now (tree_at ns c.args.index) b.entry c.args.kind items (c.in_ok-block.ensures.tree ns d)
    other

pub returns : goal.returns
returns c ns d =
    let o = c.args.outline.now in
    let b = c.in_ok-block.block in
    let both : (b.entry.class ≡ Universal) × (b.entry.tag ≡ group_tag c.args.kind) = grind (arith, common_steps) in
    subst (λ z. IsGroupOf c.args.kind (trees_at ns z) (tree_at ns c.args.index)) (sym c.new.ensures)
    (IsGroupOf-items o.octets.now o.entries.items ns c.args.index o.document d c.args.kind c.items.result
    (slice_get-within o.entries.items c.args.index b.entry (sym c.in_ok-block.ensures.entry))
    (IsGroup-entry b.octets.now (tree_at ns c.args.index) b.entry c.args.kind (c.in_ok-block.ensures.tree ns d) both.0
    both.1)
    (c.items.ensures.trees ns d))
