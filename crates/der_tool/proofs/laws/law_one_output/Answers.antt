-- For `laws::law_one_output`: what it returns is right (`some`, `one`).
use Rattle.der_tool.proofs.Outputs.{AreAnswers-some, AreAnswers-unique}
use Rattle.der_tool.proofs.laws.law_one_output.Goals as goal

pub returns-clause-some : goal.returns-clause-some
returns-clause-some c = AreAnswers-some c.law_one_reading.ensures c.law_strict.ensures

pub returns-clause-one : goal.returns-clause-one
returns-clause-one c = AreAnswers-unique c.law_one_reading.ensures c.law_strict.ensures
