-- For `kinds::tagged`: what it returns is right.
use Rattle.std.proofs.Common.{◌≡◌, true, false, sym, ap, arith, ◌∙◌}
use Rattle.std.proofs.lemmas.Grind.{common_steps}
use Rattle.asn1_headers.specs.declared.header.ASN1Class.TheVariants.{ContextSpecific}
use Rattle.asn1_outline.specs.Structure.{tree_at}
use Rattle.asn1_certificate.specs.Sequences.{tagged}
use Rattle.asn1_certificate.specs.Reading.{left}
use Rattle.asn1_certificate.proofs.EntryTrees.{explicit-entry, slice_get-past, slice_get-within, tagged-not_explicit, tagged-other, tagged-taken, tree_at-past}
use Rattle.asn1_certificate.proofs.Steps.{from-none}
use Rattle.asn1_certificate.proofs.kinds.tagged.Goals as goal

pub returns-in_err-block : goal.returns-in_err-block
returns-in_err-block c ns d =
    let o = c.args.outline.now in
    from-none _ _ _ c.from_residual.ensures (λ is.
    ap (tagged c.args.tag is) (tree_at-past o.octets.now o.entries.items ns c.args.index o.document d
    (slice_get-past o.entries.items c.args.index (sym c.in_err-block.ensures.entry))))

pub returns-then-not-is_context_specific : goal.returns-then-not-is_context_specific
returns-then-not-is_context_specific c ns d is =
    let b = c.in_ok-block.block in
    let other : (b.entry.class ≡ ContextSpecific) × (b.entry.tag ≡ c.args.tag) → ⊥ = grind (arith, common_steps) in
    tagged-other b.octets.now (tree_at ns c.args.index) b.entry c.args.tag is (c.in_ok-block.ensures.tree ns d)
    c.requires other

pub returns-then-not-is_explicit : goal.returns-then-not-is_explicit
returns-then-not-is_explicit c ns d is =
    let refused : c.is_explicit.result ≡ false = grind (arith, common_steps) in
    tagged-not_explicit (tree_at ns c.args.index) c.args.tag is
    (sym (c.is_explicit.ensures (tree_at ns c.args.index) (c.in_ok-block.ensures.tree ns d)) ∙ refused)

pub returns : goal.returns
returns c ns d =
    let o = c.args.outline.now in
    let b = c.in_ok-block.block in
    let e = c.in_ok-block.ensures.tree ns d in
    let both : (b.entry.class ≡ ContextSpecific) × (b.entry.tag ≡ c.args.tag) = grind (arith, common_steps) in
    let told : c.is_explicit.result ≡ true = grind (arith, common_steps) in
    tagged-taken o.octets.now o.entries.items ns c.args.index c.args.tag o.document d
    (slice_get-within o.entries.items c.args.index b.entry (sym c.in_ok-block.ensures.entry))
    (explicit-entry b.octets.now (tree_at ns c.args.index) b.entry c.args.tag e c.requires both.0 both.1
    (sym (c.is_explicit.ensures (tree_at ns c.args.index) e) ∙ told))
    c.items.result (c.items.ensures.trees ns d) (left c.new-inside.result) (left c.take.new.self) c.new-inside.ensures
    c.take.result c.take.ensures
