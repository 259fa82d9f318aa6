-- For the cycle `encodings` of `encodings`: its loop keeps its invariant and what it returns is right.
use Rattle.std.proofs.Common.{◌≡◌, ◌+◌, [], ap, append-nil, arith, refl, sym}
use Rattle.std.specs.Prelude.{None}
use Rattle.std.specs.Option.{option_or}
use Rattle.std.proofs.lemmas.Result.{on_ok_weaker}
use Rattle.dump_lines.specs.Dump.{IsTextOf}
use Rattle.dump_lines.specs.Steps.{IsInner, IsOwn, mark_offsets, shown_piece}
use Rattle.dump_walk.specs.Pieces.{HasEnded, Passes, kind_header, kind_type_name}
use Rattle.dump_walk.proofs.Positions.{StandAt-behind}
use Rattle.dump_rows.proofs.Printed.{IsPrinted-append, IsPrinted-nil, IsPrinted-weaker}
use Rattle.dump_lines.proofs.Shown.{IsInner-none, IsInner-whole, IsOwn-put, IsWhole-shown, ShownTo, ShownTo-append, ShownTo-none}
use Rattle.dump_lines.proofs.document.Dumper.+encodings.Goals as goal

pub push_encodings-loop-walk-init : goal.push_encodings-loop-walk-init
push_encodings-loop-walk-init g t c =
    let o = c.in_ok-walk.ensures in
    let strict = c.args.self.now.is_strict in
    let marks = mark_offsets c.args.marks.now.items in
    IsPrinted-nil g.W.Write.contents
    (ShownTo strict c.args.place c.args.octets.now c.in_ok-walk.walk None marks marks) c.args.printer.now
    (ShownTo-none strict c.args.place c.args.octets.now c.in_ok-walk.walk marks o.begun o.place)

pub push_encodings-loop-walk-preserved : goal.push_encodings-loop-walk-preserved
push_encodings-loop-walk-preserved g t c =
    let strict = c.args.self.now.is_strict in
    let place = c.args.place in
    let octets = c.args.octets.now in
    let first = c.loop-walk.first in
    let piece = c.in-Some.piece in
    let p : Passes c.loop-walk.walk c.next.new.self piece = rw c.in-Some.is at c.in_ok-piece.ensures.passes in
    let all = IsPrinted-append g.W.Write.contents _ _ (ShownTo strict place octets c.next.new.self
    (option_or first piece.fault) (mark_offsets c.args.marks.now.items) (mark_offsets c.push_piece.new.marks.items))
    c.args.printer.now c.loop-walk.printer c.push_piece.new.printer
    (λ text own s put. ShownTo-append strict place octets c.loop-walk.walk c.next.new.self piece first _ _ _ text own p
    s put) c.loop-walk.invariant (c.in_ok-push_piece.ensures p.left p.holding)
    in
    rw c.or-first.ensures all

pub push_encodings-returns : goal.push_encodings-returns
push_encodings-returns g t c =
    let ended : HasEnded c.loop-walk.walk = rw c.in_default.is at c.in_ok-piece.ensures.passes in
    IsPrinted-weaker g.W.Write.contents _ _ c.args.printer.now c.loop-walk.printer
    (λ text. IsWhole-shown c.args.self.now.is_strict c.args.place c.args.octets.now c.loop-walk.walk c.loop-walk.first _
    _ text ended) c.loop-walk.invariant

pub push_nested-returns-in_default : goal.push_nested-returns-in_default
push_nested-returns-in_default g t c = λ left holding.
    IsPrinted-nil g.W.Write.contents _ c.args.printer.now
    (IsInner-none c.args.self.now.is_strict c.args.piece.now left (mark_offsets c.args.marks.now.items))

pub push_nested-returns : goal.push_nested-returns
push_nested-returns g t c = λ left holding.
    let piece = c.args.piece.now in
    let nested = c.in-Some.nested in
    let i = c.in_ok-inside.ensures in
    let (documents, whole, holds) = rw c.in-Some.is at holding in
    let stands = StandAt-behind (kind_type_name piece.kind) _ nested.octets.now nested.before holds in
    let base : c.in_ok-inside.inside.base
    ≡ piece.place.base + (piece.offset + (kind_header piece.kind + nested.before)) =
    omega (
      arith,
      i.base,
      c.in_ok-checked_sum.ensures,
      c.in_ok-offset.ensures,
      c.in_ok-document_offset.ensures,
      c.sizes.ensures.header,
    ) in
    IsPrinted-weaker g.W.Write.contents _ _ c.args.printer.now c.push_encodings.new.printer
    (λ text. IsInner-whole c.args.self.now.is_strict piece c.in_ok-inside.inside left nested.octets.now _ _ _ text
    nested.before stands i.inside base i.depth (ap (λ z. z.most_depth) i.style)) c.in_ok-push_encodings.ensures

pub push_piece-returns : goal.push_piece-returns
push_piece-returns g t c =
    let strict = c.args.self.now.is_strict in
    let piece = c.args.piece.now in
    let before = mark_offsets c.args.marks.now.items in
    let middle = mark_offsets c.keep_mark.new.marks.items in
    let after = mark_offsets c.push_nested.new.marks.items in
    on_ok_weaker c.push_nested.result
    (λ inside left holding.
    IsPrinted-append g.W.Write.contents (IsTextOf piece.place.style.most_depth (shown_piece piece))
    (IsInner strict piece left middle after) (IsOwn strict piece left before after)
    c.args.printer.now c.push_row.new.printer c.push_nested.new.printer
    (λ first rest line inner. IsOwn-put strict piece left before middle after first rest c.in_ok-keep_mark.ensures
    (first, [], sym (append-nil first), line, refl) inner)
    c.in_ok-push_row.ensures (inside left holding)) c.push_nested.ensures
