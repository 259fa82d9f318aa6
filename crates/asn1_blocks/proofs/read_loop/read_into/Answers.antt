-- For `read_loop::read_into`: its loop keeps its invariant, what it returns is right (`counted`, `document`, `grown`,
-- `bounded`, `refused`), `take_step` and `recover` may be called, and its loop ends.
use Rattle.std.proofs.Common.{◌≡◌, ◌<◌, false, true, Some, inl, inr, length, reverse, sym, ap, subst, ◌∙◌, arith}
use Rattle.std.proofs.lemmas.Grind.{common_steps}
use Rattle.std.proofs.lemmas.List.{nil_from_length}
use Rattle.asn1_blocks.specs.HeadersBegun.{begun_none}
use Rattle.asn1_blocks.specs.Inner.ReaderSteps.{Reads}
use Rattle.asn1_blocks.proofs.Reader.Opening.{IsReading-places}
use Rattle.asn1_blocks.proofs.Reader.Turning.{Reads-first, HasRecovered-goes_on, HasRecovered-stops, IsStepped-ended, IsStepped-goes_on, IsStepped-fault}
use Rattle.asn1_blocks.proofs.read_loop.read_into.Goals as goal

pub returns-then-is_empty-clause-counted : goal.returns-then-is_empty-clause-counted
returns-then-is_empty-clause-counted g c =
    let none : length c.args.octets.now ≡ 0 = grind (arith, common_steps) in
    inr (0, begun_none (nil_from_length c.args.octets.now none), omega arith)

pub turns-init : goal.turns-init
turns-init g c = (
  0,
  subst (λ e. Reads g.B.Builder.holds c.args.octets.now c.args.builder (record { extent = e; items = c.args.items })
      (reverse c.in-Ok.outer.items) 0 0) (sym c.whole_extent.ensures)
      (Reads-first g.B.Builder.holds c.args.octets.now c.args.builder c.args.items c.in-Ok.outer.items
      c.in-Ok.ensures.items c.requires.empty),
  omega arith,
)

pub take_step-requires-clause-reading : goal.take_step-requires-clause-reading
take_step-requires-clause-reading g c =
    let (n, w, e) = c.turns.invariant in
    let v = IsReading-places g.B.Builder.holds c.args.octets.now c.turns.reader n w in
    (n, w, omega (arith, v.bound, v.to, v.within, e, c.requires.room))

pub returns-in-None-clause-document : goal.returns-in-None-clause-document
returns-in-None-clause-document g c =
    let (n, w, e) = c.turns.invariant in
    let t = c.take_step.ensures.stepped n c.args.count.now w e in
    let r = c.take_step.new.reader in
    let d = IsStepped-ended g.B.Builder.holds c.args.octets.now c.take_step.result r t.begun _ c.in-None.is t.stepped in
    let some : 0 < length c.args.octets.now = grind (arith, common_steps) in
    record {
      trees = d.trees;
      extent = r.inner.extent;
      document = record { some = some; blocks = d.encoded };
      holds =
          d.holds;
    }

pub returns-in-None-clause-counted : goal.returns-in-None-clause-counted
returns-in-None-clause-counted g c =
    let (n, w, e) = c.turns.invariant in
    let t = c.take_step.ensures.stepped n c.args.count.now w e in
    let d = IsStepped-ended g.B.Builder.holds c.args.octets.now c.take_step.result c.take_step.new.reader t.begun _
    c.in-None.is t.stepped in
    (t.begun, d.begun, t.counted)

pub returns-in-None-clause-grown : goal.returns-in-None-clause-grown
returns-in-None-clause-grown g c =
    let (n, w, e) = c.turns.invariant in
    let t = c.take_step.ensures.stepped n c.args.count.now w e in
    omega (arith, t.counted)

pub returns-in-None-clause-bounded : goal.returns-in-None-clause-bounded
returns-in-None-clause-bounded g c =
    let (n, w, e) = c.turns.invariant in
    let t = c.take_step.ensures.stepped n c.args.count.now w e in
    omega (arith, t.counted, t.bounded)

pub turns-smaller-in-Some-Ok : goal.turns-smaller-in-Some-Ok
turns-smaller-in-Some-Ok g c =
    let (n, w, e) = c.turns.invariant in
    let t = c.take_step.ensures.stepped n c.args.count.now w e in
    let on = IsStepped-goes_on g.B.Builder.holds c.args.octets.now c.take_step.result _ c.take_step.new.reader t.begun _
    (c.in-Some-Ok.is ∙ ap Some c.in-Some-Ok.field-0-is) t.stepped in
    on.nearer

pub turns-preserved-in-Some-Ok : goal.turns-preserved-in-Some-Ok
turns-preserved-in-Some-Ok g c =
    let (n, w, e) = c.turns.invariant in
    let t = c.take_step.ensures.stepped n c.args.count.now w e in
    let on = IsStepped-goes_on g.B.Builder.holds c.args.octets.now c.take_step.result _ c.take_step.new.reader t.begun _
    (c.in-Some-Ok.is ∙ ap Some c.in-Some-Ok.field-0-is) t.stepped in
    (t.begun, on.reading, t.counted)

pub recover-requires-clause-failed : goal.recover-requires-clause-failed
recover-requires-clause-failed g c =
    let (n, w, e) = c.turns.invariant in
    let t = c.take_step.ensures.stepped n c.args.count.now w e in
    let wrong =
    IsStepped-fault g.B.Builder.holds c.args.octets.now c.take_step.result _ c.take_step.new.reader t.begun _
    (c.in-Some-Err.is ∙ ap Some c.in-Some-Err.field-0-is) t.stepped in
    (t.begun, _, wrong)

pub returns-then-not-recover-clause-refused : goal.returns-then-not-recover-clause-refused
returns-then-not-recover-clause-refused g c =
    let (n, w, e) = c.turns.invariant in
    let t = c.take_step.ensures.stepped n c.args.count.now w e in
    let wrong =
    IsStepped-fault g.B.Builder.holds c.args.octets.now c.take_step.result _ c.take_step.new.reader t.begun _
    (c.in-Some-Err.is ∙ ap Some c.in-Some-Err.field-0-is) t.stepped in
    let stops : c.recover.result ≡ false = grind (arith, common_steps) in
    let s = HasRecovered-stops g.B.Builder.holds c.args.octets.now c.recover.result c.recover.new.reader t.begun _ stops
    (c.recover.ensures.recovered t.begun _ wrong) in
    elim s [ inl memory ↦ inl memory | inr f ↦ inr (inr f.fault) ]

pub returns-then-not-recover-clause-counted : goal.returns-then-not-recover-clause-counted
returns-then-not-recover-clause-counted g c =
    let (n, w, e) = c.turns.invariant in
    let t = c.take_step.ensures.stepped n c.args.count.now w e in
    let wrong =
    IsStepped-fault g.B.Builder.holds c.args.octets.now c.take_step.result _ c.take_step.new.reader t.begun _
    (c.in-Some-Err.is ∙ ap Some c.in-Some-Err.field-0-is) t.stepped in
    let stops : c.recover.result ≡ false = grind (arith, common_steps) in
    let s = HasRecovered-stops g.B.Builder.holds c.args.octets.now c.recover.result c.recover.new.reader t.begun _ stops
    (c.recover.ensures.recovered t.begun _ wrong) in
    elim s [ inl memory ↦ inl memory | inr f ↦ inr (t.begun, f.begun, t.counted) ]

pub returns-then-not-recover-clause-grown : goal.returns-then-not-recover-clause-grown
returns-then-not-recover-clause-grown g c =
    let (n, w, e) = c.turns.invariant in
    let t = c.take_step.ensures.stepped n c.args.count.now w e in
    omega (arith, t.counted)

pub returns-then-not-recover-clause-bounded : goal.returns-then-not-recover-clause-bounded
returns-then-not-recover-clause-bounded g c =
    let (n, w, e) = c.turns.invariant in
    let t = c.take_step.ensures.stepped n c.args.count.now w e in
    omega (arith, t.counted, t.bounded)

pub turns-smaller : goal.turns-smaller
turns-smaller g c =
    let (n, w, e) = c.turns.invariant in
    let t = c.take_step.ensures.stepped n c.args.count.now w e in
    let wrong =
    IsStepped-fault g.B.Builder.holds c.args.octets.now c.take_step.result _ c.take_step.new.reader t.begun _
    (c.in-Some-Err.is ∙ ap Some c.in-Some-Err.field-0-is) t.stepped in
    let goes : c.recover.result ≡ true = grind (arith, common_steps) in
    let on =
    HasRecovered-goes_on g.B.Builder.holds c.args.octets.now c.recover.result c.recover.new.reader t.begun _ goes
    (c.recover.ensures.recovered t.begun _ wrong) in
    on.nearer

pub turns-preserved : goal.turns-preserved
turns-preserved g c =
    let (n, w, e) = c.turns.invariant in
    let t = c.take_step.ensures.stepped n c.args.count.now w e in
    let wrong =
    IsStepped-fault g.B.Builder.holds c.args.octets.now c.take_step.result _ c.take_step.new.reader t.begun _
    (c.in-Some-Err.is ∙ ap Some c.in-Some-Err.field-0-is) t.stepped in
    let goes : c.recover.result ≡ true = grind (arith, common_steps) in
    let on =
    HasRecovered-goes_on g.B.Builder.holds c.args.octets.now c.recover.result c.recover.new.reader t.begun _ goes
    (c.recover.ensures.recovered t.begun _ wrong) in
    (t.begun, on.reading, t.counted)
