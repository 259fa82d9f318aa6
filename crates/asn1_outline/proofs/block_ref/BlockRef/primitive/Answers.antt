-- For `block_ref::BlockRef::primitive`: what it returns is right.
use Rattle.std.proofs.Common.{◌≡◌, false, sym, subst, arith}
use Rattle.std.proofs.lemmas.Grind.{common_steps}
use Rattle.asn1_outline.specs.Values.{IsPrimitive}
use Rattle.asn1_outline.proofs.Values.{IsPrimitive-entry}
use Rattle.asn1_outline.proofs.block_ref.BlockRef.primitive.Goals as goal

pub returns-in-Universal : goal.returns-in-Universal
returns-in-Universal c b e =
    let o = c.args.self.now in
    let primitive : o.entry.constructed ≡ false = grind (arith, common_steps) in
    subst (λ z. IsPrimitive o.entry.tag z b) (sym c.contents.ensures.octets)
    (IsPrimitive-entry o.octets.now b o.entry e c.in-Universal.is primitive c.requires.small c.requires.unknown)
