-- For `check::NoBlocksBuilder::leaf`: what it returns is right.
use Rattle.std.proofs.Common.{◌-◌, inl, inr, refl}
use Rattle.std.proofs.lemmas.Result.{on_ok_weaker, IfErr-weaker}
use Rattle.std.specs.List.{slice_range}
use Rattle.asn1_writing.proofs.check.NoBlocksBuilder.leaf.Goals as goal

pub returns : goal.returns
returns c =
    let h = c.args.header in
    let o = c.args._offset in
    let (limit, found, within) = c.requires.found in
    record {
      built = on_ok_weaker c.check_contents.result
          (λ encoded. let (t, none, is) =
          encoded o (slice_range c.args.octets.now o h.end) (h.start - o) found.encoding in
          record { tree = t; encoded = is; more = record { holds = λ e fs ts rest d w. tt } })
          c.check_contents.ensures.encoded;
      refused = IfErr-weaker c.check_contents.result _ _
          (λ e refused. elim refused [
            | inl memory ↦ inl memory
            | inr fault ↦ inr (record { builder = refl; items = refl; class = fault.0; fault = fault.1 })
          ])
          c.check_contents.ensures.refused;
    }
