-- For `moment::time_at`: what it returns is right.
use Rattle.std.proofs.Common.{rules}
use Rattle.dump_values.proofs.moment.time_at.Goals as goal

pub returns : goal.returns
returns c = (c.whole_second-whole.result, c.whole_second-whole.ensures, search rules)
