use Rattle.std.proofs.Common.{◌≤◌, length, arith}
use Rattle.caller_heap.proofs.Lemmas.LentHeap.{bytes_are}
use Rattle.caller_heap.proofs.lending.lend_parts.Goals as goal

pub returns-clause-bytes : goal.returns-clause-bytes
returns-clause-bytes c =
    let few : length c.args.tail.now ≤ 4294967295 = let t = c.if-tail.false in omega arith in
    bytes_are c.args.version c.args.settings c.args.words.now c.args.tail.now c.in_ok-regions.regions.items c.in_ok-numbers.numbers.items c.in_ok-regions.ensures.regions c.in_ok-numbers.ensures.items few
