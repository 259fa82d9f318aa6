-- For `piece::Here::opened_fault`: what it returns is right.
use Rattle.std.proofs.Common.{◌∙◌, refl, sym}
use Rattle.dump_walk.specs.Fronts.{of_stray_form, with_encodings}
use Rattle.dump_walk.proofs.Pieces.{fault_offset-at}
use Rattle.dump_walk.proofs.piece.Here.opened_fault.Goals as goal

pub returns-then-is_stray : goal.returns-then-is_stray
returns-then-is_stray c =
    of_stray_form (sym c.is_stray.ensures ∙ c.if-is_stray.true) refl
    (fault_offset-at c.args.self.offset c.in_ok-fault.field-0 c.in_ok-fault.ensures)

pub returns : goal.returns
returns c = with_encodings (sym c.is_stray.ensures ∙ c.if-is_stray.false) c.requires refl refl
