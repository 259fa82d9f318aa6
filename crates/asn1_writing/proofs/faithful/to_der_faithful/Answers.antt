-- For `faithful::to_der_faithful`: what it returns is right (`accepts`, `refuses`).
use Rattle.std.proofs.Common.{inr}
use Rattle.asn1_blocks.specs.Faithful.{IsFaithful}
use Rattle.asn1_blocks.specs.View.{view}
use Rattle.asn1_writing.specs.Unfaithful.{FailsFirst}
use Rattle.asn1_writing.proofs.Failures.{IsFaithful-no_failure, NotFaithful-unique}
use Rattle.asn1_writing.proofs.faithful.to_der_faithful.Goals as goal

pub returns-in-Some-clause-accepts : goal.returns-in-Some-clause-accepts
returns-in-Some-clause-accepts c faithful =
    let first : FailsFirst (view c.args.block.now) c.in-Some.index c.in-Some.reason =
    rw c.in-Some.is at c.in_ok-index.ensures in
    absurd (IsFaithful-no_failure (view c.args.block.now) c.in-Some.index c.in-Some.reason faithful first)

pub returns-in-Some-clause-refuses : goal.returns-in-Some-clause-refuses
returns-in-Some-clause-refuses c index reason other =
    let first : FailsFirst (view c.args.block.now) c.in-Some.index c.in-Some.reason =
    rw c.in-Some.is at c.in_ok-index.ensures in
    inr (NotFaithful-unique (view c.args.block.now) c.in-Some.index index c.in-Some.reason reason first other)

pub returns-in-Ok-clause-refuses : goal.returns-in-Ok-clause-refuses
returns-in-Ok-clause-refuses c index reason other =
    let faithful : IsFaithful (view c.args.block.now) = rw c.in-None.is at c.in_ok-index.ensures in
    IsFaithful-no_failure (view c.args.block.now) index reason faithful other
