-- For `contents::text::character_count`: its loop keeps its invariant and what it returns is right (`size`, `writable`,
-- `refused`).
use Rattle.std.proofs.Common.{◌≡◌, ◌+◌, length, drop, sym, ap, ◌∙◌, arith}
use Rattle.std.specs.Str.{chars}
use Rattle.std.proofs.lemmas.Grind.{common_steps}
use Rattle.std.proofs.lemmas.Iterator.{YieldsList-from_chars}
use Rattle.std.proofs.lemmas.Iterator.Consumers.{YieldsList-turn, YieldsList-end}
use Rattle.std.proofs.lemmas.List.{drop_all, length_push}
use Rattle.std.proofs.lemmas.Str.{chars-IsAscii}
use Rattle.asn1_leaves.specs.Contents.Text.{octet_write_fault}
use Rattle.asn1_leaves.proofs.Characters.{octet_write_fault-ascii, octet_write_fault-large, octet_write_fault-octet, octet_write_fault-drop}
use Rattle.asn1_leaves.proofs.contents.text.character_count.Goals as goal

pub returns-then-is_ascii-clause-size : goal.returns-then-is_ascii-clause-size
returns-then-is_ascii-clause-size c = let e = ap length (chars-IsAscii c.args.text.now c.if-is_ascii.ensures.cases) in
    grind (arith, common_steps, e)

pub returns-then-is_ascii-clause-writable : goal.returns-then-is_ascii-clause-writable
returns-then-is_ascii-clause-writable c =
    let a = c.if-is_ascii.ensures.cases in
    ap octet_write_fault (chars-IsAscii c.args.text.now a) ∙ octet_write_fault-ascii c.args.text.now a

pub returns-then-c-gt255-clause-refused : goal.returns-then-c-gt255-clause-refused
returns-then-c-gt255-clause-refused c =
    let cs = chars c.args.text.now in
    let t = YieldsList-turn (YieldsList-from_chars c.args.text.now c.utf8.text cc) c.loop-c.yielded _
    c.loop-c.yielded_by _ _ c.in-Some.c c.in-Some.is c.next.ensures.steps in
    sym c.loop-c.invariant.fault ∙ (ap (λ z. octet_write_fault (drop z cs)) c.loop-c.invariant.count
    ∙ (octet_write_fault-drop cs (length c.loop-c.yielded) c.in-Some.c t
    ∙ octet_write_fault-large c.in-Some.c (drop (length c.loop-c.yielded + 1) cs) (omega (arith, c.if-c-gt255.true))))

pub loop-c-preserved : goal.loop-c-preserved
loop-c-preserved c =
    let cs = chars c.args.text.now in
    let t = YieldsList-turn (YieldsList-from_chars c.args.text.now c.utf8.text cc) c.loop-c.yielded _
    c.loop-c.yielded_by _ _ c.in-Some.c c.in-Some.is c.next.ensures.steps in
    let n = length c.loop-c.yielded in
    let e : octet_write_fault (drop n cs) ≡ octet_write_fault (drop (n + 1) cs) =
    octet_write_fault-drop cs n c.in-Some.c t
    ∙ octet_write_fault-octet c.in-Some.c (drop (n + 1) cs) (omega (arith, c.if-c-gt255.false)) in
    record {
      count = omega (arith, c.loop-c.invariant.count, length_push c.loop-c.yielded c.in-Some.c);
      fault = ap (λ z. octet_write_fault (drop (z + 1) cs)) c.loop-c.invariant.count
          ∙ (sym e ∙ (ap (λ z. octet_write_fault (drop z cs)) (sym c.loop-c.invariant.count)
          ∙ c.loop-c.invariant.fault));
    }

pub returns-clause-size : goal.returns-clause-size
returns-clause-size c =
    let t = YieldsList-end (YieldsList-from_chars c.args.text.now c.utf8.text cc) c.loop-c.yielded _ c.loop-c.yielded_by
    _ _ c.in-None.is c.next.ensures.steps in
    omega (arith, c.loop-c.invariant.count, t.1)

pub returns-clause-writable : goal.returns-clause-writable
returns-clause-writable c =
    let cs = chars c.args.text.now in
    let t = YieldsList-end (YieldsList-from_chars c.args.text.now c.utf8.text cc) c.loop-c.yielded _ c.loop-c.yielded_by
    _ _ c.in-None.is c.next.ensures.steps in
    sym c.loop-c.invariant.fault
    ∙ ap octet_write_fault (drop_all c.loop-c.count cs (omega (arith, c.loop-c.invariant.count, t.1)))
