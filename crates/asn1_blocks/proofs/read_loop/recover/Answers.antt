-- For `read_loop::recover`: what it returns is right and `refuse` may be called.
use Rattle.std.proofs.Common.{◌≡◌, arith}
use Rattle.std.proofs.lemmas.Grind.{common_steps}
use Rattle.asn1_headers.specs.declared.error.ASN1DecodeErr.TheVariants.{OutOfMemory}
use Rattle.asn1_blocks.specs.Inner.ReaderSteps.{IsFaulty}
use Rattle.asn1_blocks.proofs.Frames.Opening.{OutOfMemoryOr-fault}
use Rattle.asn1_blocks.proofs.read_loop.recover.Goals as goal

pub refuse-requires-clause-faulty : goal.refuse-requires-clause-faulty
refuse-requires-clause-faulty g c =
    let other : c.args.e ≡ OutOfMemory → ⊥ = grind (arith, common_steps) in (
      c.requires.failed.0,
      c.requires.failed.1,
      OutOfMemoryOr-fault (λ z. IsFaulty g.B.Builder.holds c.args.octets.now c.args.reader.now z c.requires.failed.0
          c.requires.failed.1) c.args.e
          c.requires.failed.2 other,
    )

pub returns : goal.returns
returns g c =
    let other : c.args.e ≡ OutOfMemory → ⊥ = grind (arith, common_steps) in
    record {
      recovered = λ n most w.
          c.refuse.ensures.recovered n most
          (OutOfMemoryOr-fault (λ z. IsFaulty g.B.Builder.holds c.args.octets.now c.args.reader.now z n most) c.args.e w
          other);
    }
