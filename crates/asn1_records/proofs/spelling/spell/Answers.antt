-- For `spelling::spell`: its loop keeps its invariant and what it returns is right (`fault`, `canonical`).
use Rattle.std.proofs.Common.{◌≡◌, ◌+◌, ◌-◌, ◌<◌, [], drop, inl, inr, length, refl, sym, ap, subst, arith}
use Rattle.std.specs.List.{concat}
use Rattle.simple_asn1.specs.ReadBack.{IsCanonicalDocument}
use Rattle.asn1_records.proofs.CanonicalRecords.{IsDocument-concat}
use Rattle.std.proofs.Math.Seq.{drop-length}
use Rattle.asn1_records.specs.Spelled.{IsBadAt, IsState, Spells, spells_none}
use Rattle.asn1_records.proofs.spelling.spell.Goals as goal

pub loop-i-init : goal.loop-i-init
loop-i-init c =
    let octets = c.args.octets.now in
    let records = c.args.records.now in
    let look = c.args.look in
    let none : IsState octets [] [] [] look = record {
      xs = [];
      spells = spells_none;
      joined = refl;
      places = refl;
      found = λ yes. tt;
    } in
    let at_end = subst (λ z. IsState octets z [] [] look) (sym (drop-length records)) none in
    let b = subst (λ z. IsState octets (drop (length records) records) z [] look) (sym c.new-out.ensures) at_end in
    record {
      within = omega arith;
      state = subst (λ z. IsState octets (drop (length records) records) c.new-out.result.octets z look)
          (sym c.new-starts.ensures.items) b;
    }

pub returns-in-Err-clause-fault : goal.returns-in-Err-clause-fault
returns-in-Err-clause-fault c = elim c.spell_fault.ensures [
  | inl e ↦ inl e
  | inr (e, same, at) ↦
      let octets = c.args.octets.now in
      let records = c.args.records.now in
      let i = c.loop-i.i - 1 in
      let lt : i < length records = omega arith in
      let next : i + 1 ≡ c.loop-i.i = omega arith in
      let state = c.loop-i.invariant.state in
      let bad = c.in-Err.ensures.refused same (drop c.loop-i.i records) state in
      let spells = subst (λ z. Spells octets (drop z records) state.xs) (sym next) state.spells in
      inr (e, subst (IsBadAt octets records) (sym at) (lt, state.xs, spells, bad))
]

pub returns-clause-canonical : goal.returns-clause-canonical
returns-clause-canonical c is_true =
    let state = c.loop-i.invariant.state in
    let xs = state.xs in
    let some : 0 < length (concat xs) =
    omega (arith, c.are_clearly_canonical_some-canonical.ensures.some is_true, c.len.ensures, ap length state.joined) in
    let (bs, d, w) =
    IsDocument-concat xs some (state.found (c.are_clearly_canonical_some-canonical.ensures.so_far is_true)) in
    subst IsCanonicalDocument (sym state.joined) (bs, (d, w))
