-- For `read::TreeBuilderBuilder::leaf`: what it returns is right (`refused`).
use Rattle.std.proofs.Common.{◌-◌, inl, inr, refl}
use Rattle.std.proofs.lemmas.Result.{err_from_is_err_and}
use Rattle.std.specs.List.{slice_range}
use Rattle.asn1_blocks.specs.View.{view}
use Rattle.asn1_blocks.proofs.TreeBuilding.Adding.{AllHold-add_block}
use Rattle.asn1_blocks.proofs.read.TreeBuilderBuilder.leaf.Goals as goal

pub returns : goal.returns
returns c =
    let octets = c.args.octets.now in
    let h = c.args.header in
    let block = c.in_ok-block.block in
    let (limit, found, within) = c.requires.found in
    record {
      built = record {
        tree = view block;
        encoded = c.in_ok-block.ensures.encoded (slice_range octets c.args.offset h.end) (h.start - c.args.offset)
            found.encoding;
        more = record {
          holds = λ e fs ts rest depth w.
              AllHold-add_block octets c.args.self.now c.push_block.new.self c.args.items.now c.push_block.new.items e
              fs ts
              rest block c.in_ok-push_block.ensures w;
        };
      };
      refused = tt;
    }

pub returns-in_err-block-clause-refused : goal.returns-in_err-block-clause-refused
returns-in_err-block-clause-refused c =
    let p = err_from_is_err_and c.from_residual.result c.from_residual.ensures.1 in
    rw (p.1, p.2) (elim c.in_err-block.ensures.refused [
      | inl memory ↦ inl memory
      | inr fault ↦ inr (record { builder = refl; items = refl; class = fault.0; fault = fault.1 })
    ])
