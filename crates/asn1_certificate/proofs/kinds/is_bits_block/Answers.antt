-- For `kinds::is_bits_block`: what it returns is right.
use Rattle.std.proofs.Common.{◌≡◌, false, sym, arith, ◌∙◌}
use Rattle.std.proofs.lemmas.Grind.{common_steps}
use Rattle.asn1_headers.specs.declared.header.ASN1Class.TheVariants.{ContextSpecific}
use Rattle.asn1_certificate.proofs.EntryTrees.{is_bits-entry, is_bits-other}
use Rattle.asn1_certificate.proofs.kinds.is_bits_block.Goals as goal

pub returns-then-not-is_context_specific : goal.returns-then-not-is_context_specific
returns-then-not-is_context_specific c b e =
    let r = c.args.block.now.entry in
    let other : (r.class ≡ ContextSpecific) × (r.tag ≡ c.args.tag) → ⊥ = grind (arith, common_steps) in
    sym (is_bits-other c.args.block.now.octets.now b r c.args.tag e c.requires
    (λ (class, tag, primitive). other (class, tag)))

pub returns-then-entry : goal.returns-then-entry
returns-then-entry c b e =
    let r = c.args.block.now.entry in
    let other : (r.constructed ≡ false) → ⊥ = grind (arith, common_steps) in
    sym (is_bits-other c.args.block.now.octets.now b r c.args.tag e c.requires
    (λ (class, tag, primitive). other primitive))

pub returns : goal.returns
returns c b e =
    let r = c.args.block.now.entry in
    let both : (r.class ≡ ContextSpecific) × (r.tag ≡ c.args.tag) = grind (arith, common_steps) in
    let primitive : r.constructed ≡ false = grind (arith, common_steps) in
    c.are_bits.ensures
    ∙ sym (is_bits-entry c.args.block.now.octets.now b r c.args.tag c.contents.result.now e c.requires both.0 both.1
    primitive (c.contents.ensures.tree b e))
