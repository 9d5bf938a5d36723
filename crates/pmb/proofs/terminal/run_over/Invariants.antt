use Rattle.pmb.proofs.terminal.run_over.Given as goal

-- what standard output holds at first, and what lines are painted, are those that are handed on
abbrev pub ghosts-run_painted : goal.ghosts-run_painted
ghosts-run_painted g a = record { before = (g.W.Sink.told a.out).held; lines = a.lines }
