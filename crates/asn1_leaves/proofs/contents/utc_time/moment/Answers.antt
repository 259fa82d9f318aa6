-- For `contents::utc_time::moment`: what it returns is right (`found`, `none`).
use Rattle.std.proofs.lemmas.Grind.{common_steps}
use Rattle.std.proofs.Common.{arith}
use Rattle.std.proofs.lemmas.Int.{ints}
use Rattle.std.proofs.lemmas.Option.{IfSome_then}
use Rattle.asn1_leaves.specs.Contents.Moment.{moment_of}
use Rattle.asn1_leaves.proofs.Leaves.UtcTime.{utc_time_contents-spelled}
use Rattle.asn1_leaves.proofs.contents.utc_time.moment.Goals as goal

pub returns-clause-found : goal.returns-clause-found
returns-clause-found c = IfSome_then c.moment_from.result c.moment_from.ensures.found (λ d p. (
  record {
    valid = p.valid;
    from_1950 = omega (arith, ints, p.year_is);
    to_2049 = omega (arith, ints, p.year_is);
    whole_second = p.nanosecond_is;
  },
  utc_time_contents-spelled
      c.args.contents.now c.full_year-year.result c.in_ok-pair.field-0 (moment_of d) (omega arith) (omega arith)
      c.in_ok-pair.ensures.found c.full_year-year.ensures.ends p,
))

pub returns-then-contents-ne13-clause-found : goal.returns-then-contents-ne13-clause-found
returns-then-contents-ne13-clause-found c = grind (arith, common_steps)

pub returns-then-contents-ne13-clause-none : goal.returns-then-contents-ne13-clause-none
returns-then-contents-ne13-clause-none c = grind (arith, common_steps)

pub returns-in_err-pair-clause-found : goal.returns-in_err-pair-clause-found
returns-in_err-pair-clause-found c = grind (arith, common_steps)

pub returns-in_err-pair-clause-none : goal.returns-in_err-pair-clause-none
returns-in_err-pair-clause-none c = grind (arith, common_steps)
