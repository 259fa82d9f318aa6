-- For `sources::run`: what its writer holds before.
use Rattle.dump_inputs.proofs.sources.run.Given as goal

abbrev pub ghosts-run_on : goal.ghosts-run_on
ghosts-run_on g a = record { before = g.W.Write.contents a.w }
