-- For `set_order::octets_of_value`: what it returns is right.
use Rattle.std.proofs.Common.{◌≡◌, ◌∙◌, ap, sym}
use Rattle.asn1_blocks.specs.View.{view}
use Rattle.asn1_writing.proofs.Shapes.{canonical-shape, write_fault-shape}
use Rattle.simple_asn1.specs.Canonical.{canonical, write_fault}
use Rattle.asn1_types.proofs.set_order.octets_of_value.Goals as goal

pub returns-clause-octets : goal.returns-clause-octets
returns-clause-octets g c =
    let same : canonical (view c.in_ok-block.block) ≡ canonical (g.T.Asn1Type.tree c.args.value.now) =
    sym (canonical-shape (view c.in_ok-block.block)) ∙ ap canonical c.in_ok-block.ensures.made in
    rw (← same) c.to_der-written.ensures.encoded

pub returns-clause-writable : goal.returns-clause-writable
returns-clause-writable g c =
    let same : write_fault (view c.in_ok-block.block) ≡ write_fault (g.T.Asn1Type.tree c.args.value.now) =
    sym (write_fault-shape (view c.in_ok-block.block)) ∙ ap write_fault c.in_ok-block.ensures.made in
    rw (← same) c.to_der-written.ensures.writable

pub returns-clause-refused : goal.returns-clause-refused
returns-clause-refused g c =
    let same : write_fault (view c.in_ok-block.block) ≡ write_fault (g.T.Asn1Type.tree c.args.value.now) =
    sym (write_fault-shape (view c.in_ok-block.block)) ∙ ap write_fault c.in_ok-block.ensures.made in
    rw (← same) c.to_der-written.ensures.refused
