-- For `contents::text::push_characters`: its loop keeps its invariant, what it returns is right, `push_octets` and
-- `push_octet` may be called, and no sum or product is too large.
use Rattle.std.proofs.Common.{◌≡◌, ◌+◌, ◌++◌, [], ◌∷◌, length, take, drop, sym, ap, ◌∙◌, subst, arith}
use Rattle.std.specs.Str.{chars}
use Rattle.std.proofs.lemmas.Grind.{common_steps}
use Rattle.std.proofs.lemmas.Iterator.{YieldsList-from_chars}
use Rattle.std.proofs.lemmas.Iterator.Consumers.{YieldsList-turn, YieldsList-end}
use Rattle.std.proofs.lemmas.List.{take_all, take_more, length_push, length-take-le}
use Rattle.std.proofs.lemmas.Str.{chars-IsAscii}
use Rattle.asn1_leaves.specs.Contents.Text.{octet_write_fault}
use Rattle.asn1_leaves.proofs.Characters.{octet_write_fault-drop, octet_write_fault-none_parts}
use Rattle.asn1_leaves.proofs.contents.text.push_characters.Goals as goal

pub push_octets-requires : goal.push_octets-requires
push_octets-requires g c =
    let e = ap length (chars-IsAscii c.args.text.now c.if-is_ascii.ensures.cases) in
    grind (arith, common_steps, e)

pub returns-then-is_ascii : goal.returns-then-is_ascii
returns-then-is_ascii g c =
    let e = chars-IsAscii c.args.text.now c.if-is_ascii.ensures.cases in
    grind (arith, common_steps, e, c.push_octets.ensures)

pub overflow_cast-c : goal.overflow_cast-c
overflow_cast-c g c =
    let cs = chars c.args.text.now in
    let n = length c.loop-c.yielded in
    let t = YieldsList-turn (YieldsList-from_chars c.args.text.now c.utf8.text cc) c.loop-c.yielded _
    c.loop-c.yielded_by _ _ c.in-Some.c c.in-Some.is c.next.ensures.steps in
    let f = octet_write_fault-none_parts c.in-Some.c (drop (n + 1) cs)
    (sym (octet_write_fault-drop cs n c.in-Some.c t) ∙ c.loop-c.invariant.writable) in
    omega (arith, f.0)

pub push_octet-requires : goal.push_octet-requires
push_octet-requires g c =
    let cs = chars c.args.text.now in
    let n = length c.loop-c.yielded in
    let t = YieldsList-turn (YieldsList-from_chars c.args.text.now c.utf8.text cc) c.loop-c.yielded _
    c.loop-c.yielded_by _ _ c.in-Some.c c.in-Some.is c.next.ensures.steps in
    omega (
      arith,
      t.0,
      c.requires.room,
      g.S.Sink.room_after c.args.out.now c.loop-c.out (take n cs) c.loop-c.invariant.pushed,
      length-take-le n
          cs (omega (arith, t.0)),
    )

pub loop-c-preserved : goal.loop-c-preserved
loop-c-preserved g c =
    let cs = chars c.args.text.now in
    let n = length c.loop-c.yielded in
    let x = c.in-Some.c in
    let t = YieldsList-turn (YieldsList-from_chars c.args.text.now c.utf8.text cc) c.loop-c.yielded _
    c.loop-c.yielded_by _ _ c.in-Some.c c.in-Some.is c.next.ensures.steps in
    let f = octet_write_fault-none_parts x (drop (n + 1) cs)
    (sym (octet_write_fault-drop cs n x t) ∙ c.loop-c.invariant.writable) in
    let l : length (c.loop-c.yielded ++ x ∷ []) ≡ n + 1 = length_push c.loop-c.yielded x in
    let e : take (length (c.loop-c.yielded ++ x ∷ [])) cs ≡ take n cs ++ x ∷ [] =
    ap (λ z. take z cs) l ∙ (take_more cs n x t.0 ∙ ap (λ z. take n cs ++ z ∷ []) (sym t.1)) in
    record {
      pushed =
          subst (λ z. g.S.Sink.pushes c.args.out.now z c.push_octet.new.self) (sym e)
          (g.S.Sink.more c.args.out.now c.loop-c.out c.push_octet.new.self (take n cs) (x ∷ [])
          c.loop-c.invariant.pushed c.push_octet.ensures);
      writable = ap octet_write_fault (ap (λ z. drop z cs) l) ∙ f.1;
    }

pub returns : goal.returns
returns g c =
    let cs = chars c.args.text.now in
    let t = YieldsList-end (YieldsList-from_chars c.args.text.now c.utf8.text cc) c.loop-c.yielded _ c.loop-c.yielded_by
    _ _ c.in-None.is c.next.ensures.steps in
    subst (λ z. g.S.Sink.pushes c.args.out.now z c.loop-c.out)
    (take_all (length c.loop-c.yielded) cs (omega (arith, t.1))) c.loop-c.invariant.pushed
