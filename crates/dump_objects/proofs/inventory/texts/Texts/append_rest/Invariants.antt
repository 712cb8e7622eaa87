use Rattle.dump_objects.proofs.inventory.texts.Texts.append_rest.Given as goal

abbrev pub decreases-loop-rest : goal.decreases-loop-rest
decreases-loop-rest g l = l.rest
