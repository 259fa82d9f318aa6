-- For `times::is_moment`: what it returns is right.
use Rattle.std.proofs.Common.{refl}
use Rattle.asn1_leaves.specs.Contents.Moment.{moment_of}
use Rattle.asn1_der.specs.Times.{IsMoment}
use Rattle.asn1_der.proofs.times.is_moment.Goals as goal

pub returns-in-Some : goal.returns-in-Some
unfolding IsMoment
returns-in-Some c = (λ t. (moment_of c.in-Some.field-0, c.in-Some.ensures.found), λ m. refl)

pub returns-in-None : goal.returns-in-None
unfolding IsMoment
returns-in-None c = (λ f. cc, λ m. absurd (c.in-None.ensures.none m.0 m.1))
