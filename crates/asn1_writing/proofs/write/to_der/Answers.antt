-- For `write::to_der`: what it returns is right (`offsets`, `faithful`, `survives`).
use Rattle.std.proofs.Common.{◌≡◌, ◌<◌, ◌^◌, None, length, arith}
use Rattle.std.proofs.lemmas.Grind.{common_steps}
use Rattle.asn1_writing.specs.Canonical.{canonical, write_fault}
use Rattle.asn1_blocks.specs.View.{view}
use Rattle.asn1_writing.proofs.Placed.{write_fault-faithful}
use Rattle.asn1_writing.proofs.Shapes.{canonical-same_shape}
use Rattle.asn1_writing.proofs.Surviving.{IsFaithful-iff_reads_back}
use Rattle.asn1_writing.proofs.write.to_der.Goals as goal

pub returns-in_err-octets-clause-offsets : goal.returns-in_err-octets-clause-offsets
returns-in_err-octets-clause-offsets c = λ other e. canonical-same_shape other (view c.args.i.now) e

pub returns-clause-offsets : goal.returns-clause-offsets
returns-clause-offsets c = λ other e. canonical-same_shape other (view c.args.i.now) e

pub returns-in_err-octets-clause-faithful : goal.returns-in_err-octets-clause-faithful
returns-in_err-octets-clause-faithful c f =
    let w = write_fault-faithful (view c.args.i.now) f in
    grind (arith, common_steps, w)

pub returns-clause-survives : goal.returns-clause-survives
returns-clause-survives c =
    let out = c.in_ok-octets.octets in
    let e : out.items ≡ canonical (view c.args.i.now) = grind (arith, common_steps) in
    let w : write_fault (view c.args.i.now) ≡ None = grind (arith, common_steps) in
    let small : length out.items < 2 ^ 64 = omega (arith, out.small, out.ok.0, out.ok.1) in
    IsFaithful-iff_reads_back (view c.args.i.now) out.items small e w
