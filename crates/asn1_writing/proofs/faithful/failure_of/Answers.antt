-- For `faithful::failure_of`: what it returns is right.
use Rattle.std.proofs.Common.{sym, ◌∙◌}
use Rattle.std.proofs.lemmas.Bool.{false≢true}
use Rattle.asn1_blocks.specs.Inner.FaithfulWalk.{IsFaithfulAlone}
use Rattle.asn1_blocks.specs.View.{view}
use Rattle.asn1_writing.proofs.Failures.{FailsBy-not_faithful}
use Rattle.asn1_writing.proofs.faithful.failure_of.Goals as goal

pub returns : goal.returns
returns c =
    let unfaithful : IsFaithfulAlone (view c.args.b.now) → ⊥ = λ f.
    false≢true (sym c.if-branch.false ∙ c.in_ok-is_faithful_alone.ensures.1 f) in
    FailsBy-not_faithful (view c.args.b.now) c.failure_by_kind.result unfaithful c.failure_by_kind.ensures
