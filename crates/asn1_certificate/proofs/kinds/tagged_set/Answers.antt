-- For `kinds::tagged_set`: what it returns is right.
use Rattle.std.proofs.Common.{◌≡◌, true, false, sym, ap, subst, arith, ◌∙◌}
use Rattle.std.proofs.lemmas.Grind.{common_steps}
use Rattle.asn1_headers.specs.declared.header.ASN1Class.TheVariants.{ContextSpecific}
use Rattle.asn1_outline.specs.Structure.{Holds, tree_at}
use Rattle.asn1_certificate.specs.Sequences.{are_each, tagged_set_of}
use Rattle.asn1_certificate.specs.Reading.{left, trees_at}
use Rattle.asn1_certificate.proofs.EntryTrees.{Holds-held, are_each-none, are_each-octets, are_each-some, held-items, map-indices, slice_get-past, slice_get-within, tagged_set_of-entry, tagged_set_of-other, tree_at-past}
use Rattle.asn1_certificate.proofs.Steps.{from-none}
use Rattle.asn1_certificate.proofs.kinds.tagged_set.Goals as goal

pub returns-in_err-block-clause-set : goal.returns-in_err-block-clause-set
returns-in_err-block-clause-set c ns held d h =
    let o = c.args.outline.now in
    from-none _ _ _ c.from_residual.ensures (λ is.
    ap (tagged_set_of held c.args.tag is) (tree_at-past o.octets.now o.entries.items ns c.args.index o.document d
    (slice_get-past o.entries.items c.args.index (sym c.in_err-block.ensures.entry))))

pub returns-then-not-is_context_specific-clause-set : goal.returns-then-not-is_context_specific-clause-set
returns-then-not-is_context_specific-clause-set c ns held d h is =
    let b = c.in_ok-block.block in
    let other : (b.entry.class ≡ ContextSpecific) × (b.entry.tag ≡ c.args.tag) → ⊥ = grind (arith, common_steps) in
    tagged_set_of-other b.octets.now (tree_at ns c.args.index) b.entry c.args.tag held is
    (c.in_ok-block.ensures.tree ns d) c.requires (λ (class, tag, constructed). other (class, tag))

pub returns-then-not-entry-clause-set : goal.returns-then-not-entry-clause-set
returns-then-not-entry-clause-set c ns held d h is =
    let b = c.in_ok-block.block in
    let other : (b.entry.constructed ≡ true) → ⊥ = grind (arith, common_steps) in
    tagged_set_of-other b.octets.now (tree_at ns c.args.index) b.entry c.args.tag held is
    (c.in_ok-block.ensures.tree ns d) c.requires (λ (class, tag, constructed). other constructed)

pub returns-then-is_some-clause-set : goal.returns-then-is_some-clause-set
returns-then-is_some-clause-set c ns held d h is =
    let o = c.args.outline.now in
    let b = c.in_ok-block.block in
    let e = c.in_ok-block.ensures.tree ns d in
    let ks = left c.new-items.result in
    let both : (b.entry.class ≡ ContextSpecific) × (b.entry.tag ≡ c.args.tag) = grind (arith, common_steps) in
    let constructed : b.entry.constructed ≡ true = grind (arith, common_steps) in
    let w = c.contents-contents.result.now in
    tagged_set_of-entry b.octets.now (tree_at ns c.args.index) b.entry c.args.tag held is w e c.requires both.0 both.1
    constructed (c.contents-contents.ensures.tree (tree_at ns c.args.index) e)
    (subst (λ z. Holds z (tree_at ns c.args.index) (held (tree_at ns c.args.index))) (sym c.in_ok-block.ensures.lent)
    (Holds-held o.octets.now o.entries.items ns c.args.index o.document d held h
    (slice_get-within o.entries.items c.args.index b.entry (sym c.in_ok-block.ensures.entry))))
    ∙ ap (are_each is w) (held-items o.octets.now o.entries.items ns c.args.index o.document d held h c.items.result
    (c.items.ensures.trees ns d) ∙ ap (trees_at ns) (sym c.new-items.ensures))
    ∙ are_each-some ns is w ks (sym c.is_some.ensures ∙ c.if-is_some.true)

pub returns-then-not-is_empty-clause-set : goal.returns-then-not-is_empty-clause-set
returns-then-not-is_empty-clause-set c ns held d h is =
    let o = c.args.outline.now in
    let b = c.in_ok-block.block in
    let e = c.in_ok-block.ensures.tree ns d in
    let ks = left c.new-items.result in
    let both : (b.entry.class ≡ ContextSpecific) × (b.entry.tag ≡ c.args.tag) = grind (arith, common_steps) in
    let constructed : b.entry.constructed ≡ true = grind (arith, common_steps) in
    let refused : c.is_empty.result ≡ false = grind (arith, common_steps) in
    let w = c.contents-contents.result.now in
    tagged_set_of-entry b.octets.now (tree_at ns c.args.index) b.entry c.args.tag held is w e c.requires both.0 both.1
    constructed (c.contents-contents.ensures.tree (tree_at ns c.args.index) e)
    (subst (λ z. Holds z (tree_at ns c.args.index) (held (tree_at ns c.args.index))) (sym c.in_ok-block.ensures.lent)
    (Holds-held o.octets.now o.entries.items ns c.args.index o.document d held h
    (slice_get-within o.entries.items c.args.index b.entry (sym c.in_ok-block.ensures.entry))))
    ∙ ap (are_each is w) (held-items o.octets.now o.entries.items ns c.args.index o.document d held h c.items.result
    (c.items.ensures.trees ns d) ∙ ap (trees_at ns) (sym c.new-items.ensures))
    ∙ are_each-octets ns is w ks (sym c.is_some.ensures ∙ c.if-is_some.false) (sym c.is_empty.ensures ∙ refused)

pub returns-clause-set : goal.returns-clause-set
returns-clause-set c ns held d h is =
    let o = c.args.outline.now in
    let b = c.in_ok-block.block in
    let e = c.in_ok-block.ensures.tree ns d in
    let ks = left c.new-items.result in
    let both : (b.entry.class ≡ ContextSpecific) × (b.entry.tag ≡ c.args.tag) = grind (arith, common_steps) in
    let constructed : b.entry.constructed ≡ true = grind (arith, common_steps) in
    let told : c.is_empty.result ≡ true = grind (arith, common_steps) in
    let w = c.contents-contents.result.now in
    tagged_set_of-entry b.octets.now (tree_at ns c.args.index) b.entry c.args.tag held is w e c.requires both.0 both.1
    constructed (c.contents-contents.ensures.tree (tree_at ns c.args.index) e)
    (subst (λ z. Holds z (tree_at ns c.args.index) (held (tree_at ns c.args.index))) (sym c.in_ok-block.ensures.lent)
    (Holds-held o.octets.now o.entries.items ns c.args.index o.document d held h
    (slice_get-within o.entries.items c.args.index b.entry (sym c.in_ok-block.ensures.entry))))
    ∙ ap (are_each is w) (held-items o.octets.now o.entries.items ns c.args.index o.document d held h c.items.result
    (c.items.ensures.trees ns d) ∙ ap (trees_at ns) (sym c.new-items.ensures))
    ∙ are_each-none ns is w ks (sym c.is_some.ensures ∙ c.if-is_some.false) (sym c.is_empty.ensures ∙ told)

pub returns-then-is_some-clause-items : goal.returns-then-is_some-clause-items
returns-then-is_some-clause-items c ns d =
    ap (trees_at ns) c.new-items.ensures ∙ map-indices ns c.items.result ∙ c.items.ensures.trees ns d

pub returns-clause-items : goal.returns-clause-items
returns-clause-items c ns d =
    ap (trees_at ns) c.new-items.ensures ∙ map-indices ns c.items.result ∙ c.items.ensures.trees ns d
