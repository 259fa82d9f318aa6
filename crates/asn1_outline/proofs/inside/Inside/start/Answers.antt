-- For `inside::Inside::start`: what it returns is right (`stands`).
use Rattle.asn1_outline.proofs.inside.Inside.start.Goals as goal

pub returns-clause-stands : goal.returns-clause-stands
returns-clause-stands c = c.args.self.now.stands
