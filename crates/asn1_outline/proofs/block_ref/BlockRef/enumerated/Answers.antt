-- For `block_ref::BlockRef::enumerated`: what it returns is right.
use Rattle.std.proofs.Common.{◌≡◌, arith}
use Rattle.std.proofs.lemmas.Grind.{common_steps}
use Rattle.asn1_headers.specs.declared.tags.TheConstants.{ENUMERATED}
use Rattle.asn1_outline.proofs.Values.{tree_enumerated-none, tree_enumerated-not_enumerated}
use Rattle.asn1_outline.proofs.block_ref.BlockRef.enumerated.Goals as goal

pub returns-then-self-ne-ENUMERATED : goal.returns-then-self-ne-ENUMERATED
returns-then-self-ne-ENUMERATED c b e =
    let o = c.args.self.now in
    let other : o.entry.tag ≡ ENUMERATED → ⊥ = grind (arith, common_steps) in
    tree_enumerated-not_enumerated o.octets.now b o.entry e other

pub returns-in-None : goal.returns-in-None
returns-in-None c b e = tree_enumerated-none b (c.in-None.ensures b e)
