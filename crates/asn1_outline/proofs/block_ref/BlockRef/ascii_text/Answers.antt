-- For `block_ref::BlockRef::ascii_text`: what it returns is right.
use Rattle.std.proofs.Common.{◌≡◌, false, arith}
use Rattle.std.proofs.lemmas.Grind.{common_steps}
use Rattle.asn1_blocks.specs.UnknownValues.{is_ascii_tag}
use Rattle.asn1_outline.proofs.Values.{tree_ascii_text-none, tree_ascii_text-not_ascii}
use Rattle.asn1_outline.proofs.block_ref.BlockRef.ascii_text.Goals as goal

pub returns-then-not-is_ascii_tag : goal.returns-then-not-is_ascii_tag
returns-then-not-is_ascii_tag c b e =
    let o = c.args.self.now in
    let other : is_ascii_tag o.entry.tag ≡ false = grind (arith, common_steps) in
    tree_ascii_text-not_ascii o.octets.now b o.entry e other

pub returns-in-None : goal.returns-in-None
returns-in-None c b e = tree_ascii_text-none b (c.in-None.ensures b e)
