-- For `oid::write_subidentifiers`: its loop keeps its invariant and no index is out of bounds.
use Rattle.std.proofs.Common.{rules}
use Rattle.asn1_leaves.proofs.DottedNumbers.{AreWritten-more}
use Rattle.asn1_leaves.proofs.oid.write_subidentifiers.Goals as goal

pub loop-index-preserved-in_ok-write : goal.loop-index-preserved-in_ok-write
loop-index-preserved-in_ok-write g c =
    AreWritten-more g.W.Write.write_str_gives c.args.f.now c.loop-index.f c.write.new.self c.args.octets.now
    c.loop-index.index
    c.decode_base127.new.index c.in-Ok.number c.in-Ok.ensures.moved.0 c.in-Ok.ensures.moved.1 c.in-Ok.ensures.found
    c.loop-index.invariant
    (λ plain. search rules)

pub loop-index-preserved : goal.loop-index-preserved
loop-index-preserved g c =
    AreWritten-more g.W.Write.write_str_gives c.args.f.now c.loop-index.f c.write.new.self c.args.octets.now
    c.loop-index.index
    c.decode_base127.new.index c.in-Ok.number c.in-Ok.ensures.moved.0 c.in-Ok.ensures.moved.1 c.in-Ok.ensures.found
    c.loop-index.invariant
    (λ plain. search rules)
