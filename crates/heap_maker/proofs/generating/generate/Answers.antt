use Rattle.std.proofs.Common.{◌∙◌, ap}
use Rattle.heap_maker.proofs.generating.generate.Goals as goal

pub returns-clause-wanted : goal.returns-clause-wanted
returns-clause-wanted c =
    let made = c.in_ok-image.ensures in
    let known = c.in_ok-limits.ensures in
    let limits = c.in_ok-heap.ensures.limits in
    record {
      valid = made.valid;
      version = made.version ∙ ap (λ l. l.version) limits ∙ known.version;
      region_log = made.region_log ∙ ap (λ l. l.region_log) limits ∙ known.log;
      words = made.words ∙ ap (λ l. l.words) limits ∙ known.words;
      allowance = made.allowance;
      live = c.in_ok-check_live.ensures ∙ c.in_ok-room.ensures.live;
    }
