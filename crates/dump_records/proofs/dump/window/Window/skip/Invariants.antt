use Rattle.dump_records.proofs.dump.window.Window.skip.Given as goal

abbrev pub decreases-loop-rest : goal.decreases-loop-rest
decreases-loop-rest g l = l.rest
