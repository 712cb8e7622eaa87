use Rattle.std.proofs.Common.{◌≡◌, ◌≤◌, length, vec_len, inl, sym, arith}
use Rattle.caller_heap.proofs.Lemmas.LentHeap.{all_told}
use Rattle.caller_heap.proofs.lent_slide.give_back.Goals as goal

pub returns-in-Ok-clause-back : goal.returns-in-Ok-clause-back
returns-in-Ok-clause-back c =
    let regions = c.args.refused.regions in
    let ok : length regions.items ≡ vec_len regions = sym regions.ok.0 in
    let count = c.requires.count in
    let all : length c.args.words.now ≤ vec_len regions = omega arith in
    inl (all_told c.keep_all.new.words c.args.words.now regions.items (vec_len regions) all c.in-Ok.ensures.kept)
