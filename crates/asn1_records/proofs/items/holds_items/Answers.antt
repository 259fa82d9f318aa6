-- For `items::holds_items`: what it returns is right.
use Rattle.std.proofs.Common.{arith}
use Rattle.std.proofs.lemmas.Bool.{false≢true}
use Rattle.std.proofs.lemmas.Grind.{common_steps}
use Rattle.std.proofs.lemmas.Result.{IfOk-weaker}
use Rattle.asn1_blocks.specs.HeadersBegun.{IsReadInside}
use Rattle.asn1_records.proofs.SideBySide.{AreShapes-no_fault_inside, AreShapes-no_items}
use Rattle.asn1_records.proofs.items.holds_items.Goals as goal

pub returns-then-not-is_read_inside-clause-no : goal.returns-then-not-is_read_inside-clause-no
returns-then-not-is_read_inside-clause-no c items has is =
    AreShapes-no_items c.args.octets.now c.args.encoding.now.header items has
    (λ inside are. false≢true (c.if-not-is_read_inside.ensures.1 inside))

pub returns-in_default : goal.returns-in_default
returns-in_default c =
    let x = c.args.octets.now in
    let h = c.args.encoding.now.header in
    let inside : IsReadInside h.class h.constructed h.tag = grind (arith, common_steps) in
    record {
      yes = λ items has. IfOk-weaker c.are_encodings.result _ _
          (λ answer sound is. AreShapes-no_fault_inside x h items has inside (λ fault o other at. sound is fault o at))
          c.are_encodings.ensures.yes;
      no = λ items has. IfOk-weaker c.are_encodings.result _ _
          (λ answer none is. AreShapes-no_items x h items has (λ read are. none is items are))
          c.are_encodings.ensures.no;
    }
