-- For `size::SizeBuilderBuilder::leaf`: what it returns is right (`built`, `refused`).
use Rattle.std.proofs.Common.{inl, inr, refl}
use Rattle.std.proofs.lemmas.Result.{err_from_is_err_and}
use Rattle.asn1_writing.proofs.Sizes.{HasLeaf-sizes}
use Rattle.asn1_writing.proofs.size.SizeBuilderBuilder.leaf.Goals as goal

pub returns-clause-built : goal.returns-clause-built
returns-clause-built c =
    let (limit, found, within) = c.requires.found in
    HasLeaf-sizes c.args.octets.now c.args.header c.args.offset c.args._depth limit c.identifier_size-identifier.result
    c.in_ok-contents.contents c.args.self.now c.args.self.now c.args.items.now c.add.new.self c.requires.leaf found
    c.in_ok-contents.ensures.sized c.identifier_size-identifier.ensures c.in_ok-add.ensures

pub returns-in_err-contents-clause-refused : goal.returns-in_err-contents-clause-refused
returns-in_err-contents-clause-refused c =
    let p = err_from_is_err_and c.from_residual.result c.from_residual.ensures.1 in
    rw (p.1, p.2) (elim c.in_err-contents.ensures.refused [
      | inl memory ↦ inl memory
      | inr fault ↦ inr (record { builder = refl; items = refl; class = fault.0; fault = fault.1 })
    ])
