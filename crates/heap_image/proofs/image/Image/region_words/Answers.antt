use Rattle.heap_image.proofs.image.Image.region_words.Goals as goal

pub returns-clause-few : goal.returns-clause-few
returns-clause-few c = c.regions_by_log.ensures.few c.self.inside.region_log c.self.invariant.parts.valid.limits.region_log_high
