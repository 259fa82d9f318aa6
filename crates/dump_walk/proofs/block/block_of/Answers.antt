-- For `block::block_of`: `whole_block` may be called, and what it returns is right.
use Rattle.std.proofs.Common.{ap, arith, subst}
use Rattle.dump_walk.specs.Pieces.{IsSized, kind_contents, kind_encoding, kind_header, kind_type_name}
use Rattle.dump_walk.specs.declared.block.NoBlock.TheVariants.{EndOfContents, Unreadable}
use Rattle.dump_walk.proofs.ByOffset.{HasNoElementAt-cut, HasNoElementAt-line}
use Rattle.dump_walk.proofs.block.block_of.Goals as goal

pub returns-in-EndOfContents : goal.returns-in-EndOfContents
returns-in-EndOfContents c = λ before h.
    let is = c.in-EndOfContents.is in
    HasNoElementAt-line c.args.octets.now before c.args.walk.now c.args.piece.now h EndOfContents
    (λ levels. (ap kind_encoding is, ap kind_type_name is))

pub returns-in-Unreadable : goal.returns-in-Unreadable
returns-in-Unreadable c = λ before h.
    let is = c.in-Unreadable.is in
    HasNoElementAt-line c.args.octets.now before c.args.walk.now c.args.piece.now h Unreadable
    (λ levels. (ap kind_encoding is, ap kind_type_name is))

pub returns-in-Cut : goal.returns-in-Cut
returns-in-Cut c = λ before h.
    let piece = c.args.piece.now in
    let is = c.in-Cut.is in
    let cut = subst (IsSized h.left) is h.sized in
    HasNoElementAt-cut c.args.octets.now before c.args.walk.now piece h (ap kind_encoding is)
    (omega (arith, ap kind_header is, ap kind_contents is, cut))
