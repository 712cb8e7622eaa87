use Rattle.scheduler.specs.GoingOn.{is_freeing}
use Rattle.scheduler.proofs.Lemmas.GoingOnCounts.{all_freed, freed_at_most, own_count}
use Rattle.scheduler.proofs.laws.going_on.freed_regions_are_counted.Goals as goal

pub returns-clause-all : goal.returns-clause-all
returns-clause-all c = all_freed

pub returns-clause-most : goal.returns-clause-most
returns-clause-most c = freed_at_most

pub returns-clause-own : goal.returns-clause-own
returns-clause-own c worker m log = own_count (is_freeing m) worker log
