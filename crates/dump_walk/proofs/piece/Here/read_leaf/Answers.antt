-- For `piece::Here::read_leaf`: what it returns is right.
use Rattle.std.proofs.Common.{◌∙◌, refl, sym}
use Rattle.std.proofs.lemmas.Result.{IfOk-weaker}
use Rattle.dump_walk.specs.Fronts.{of_stray_form}
use Rattle.dump_walk.proofs.Pieces.{IsJudged-meaning, fault_offset-at}
use Rattle.dump_walk.proofs.piece.Here.read_leaf.Goals as goal

pub returns-then-is_stray : goal.returns-then-is_stray
returns-then-is_stray c =
    of_stray_form (sym c.is_stray.ensures ∙ c.if-is_stray.true) refl
    (fault_offset-at c.args.self.offset c.in_ok-fault.field-0 c.in_ok-fault.ensures)

pub returns : goal.returns
returns c =
    IfOk-weaker c.read_contents.result _ _
    (λ read is. IsJudged-meaning c.args.octets.now c.args.header.now c.args.self.offset read.value read.fault
    (sym c.is_stray.ensures ∙ c.if-is_stray.false) c.requires.closed is) c.read_contents.ensures
