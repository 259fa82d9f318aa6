-- For `document::Dumper::push_document`: what it returns is right.
use Rattle.std.proofs.Common.{◌≡◌, ◌<◌, ◌++◌, ap, inl, inr, length, refl, subst, arith, ◌∙◌}
use Rattle.std.proofs.lemmas.Grind.{common_steps}
use Rattle.std.proofs.lemmas.List.{nil_from_length}
use Rattle.dump_rows.proofs.Printed.{IsPrinted-weaker}
use Rattle.dump_rows.specs.Printing.{IsPrinted}
use Rattle.dump_walk.specs.Pieces.{fault_offset}
use Rattle.dump_lines.specs.Dump.{verdict_of}
use Rattle.dump_lines.specs.Steps.{IsWhole, mark_offsets}
use Rattle.dump_lines.proofs.Documents.{IsDumpOfSome-put}
use Rattle.dump_lines.proofs.document.Dumper.push_document.Goals as goal

pub returns-then-is_empty : goal.returns-then-is_empty
returns-then-is_empty g c =
    let none : length c.args.octets.now ≡ 0 = grind (arith, common_steps) in
    IsPrinted-weaker g.W.Write.contents _ _ c.args.printer.now c.push_fault.new.self
    (λ text printed. inr (nil_from_length c.args.octets.now none, refl)) c.in_ok-push_fault.ensures

pub returns : goal.returns
returns g c =
    let some : 0 < length c.args.octets.now = grind (arith, common_steps) in
    let o = c.outermost-place.ensures in
    let strict = c.args.self.now.is_strict in
    let octets = c.args.octets.now in
    let first = fault_offset c.in_ok-first.first in
    let marks = mark_offsets c.push_encodings.new.marks.items in
    let these = subst (λ z. IsPrinted g.W.Write.contents
    (IsWhole strict c.outermost-place.result octets first (mark_offsets z) marks) c.args.printer.now
    c.push_encodings.new.printer) c.new-marks.ensures.items c.in_ok-first.ensures in
    IsPrinted-weaker g.W.Write.contents _ _ c.args.printer.now c.push_problems.new.printer
    (λ text lines. inl (some, lines))
    (IsDumpOfSome-put g.W.Write.contents strict c.args.style.most_depth c.outermost-place.result octets first marks
    c.args.printer.now c.push_encodings.new.printer c.push_problems.new.printer c.verdict_on.result o.outside o.base
    o.depth (ap (λ z. z.most_depth) o.style)
    (c.verdict_on.ensures ∙ ap (λ z. verdict_of (mark_offsets z ++ first)) c.deref-3.ensures.value) these
    c.in_ok-push_problems.ensures)
