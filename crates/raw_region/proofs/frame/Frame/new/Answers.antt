use Rattle.std.proofs.Common.{◌≡◌, ◌*◌, ◌^◌, ◌<◌, Some, length, sym, ap, subst, ◌∙◌}
use Rattle.std.specs.Prelude.{map}
use Rattle.std.specs.List.{range_with_len}
use Rattle.std.proofs.lemmas.List.FromFn.{length-map-range_with_len}
use Rattle.raw_region.specs.Frame.{place_of}
use Rattle.raw_region.proofs.frame.Frame.new.Goals as goal

pub returns-clause-count : goal.returns-clause-count
returns-clause-count c =
    let first = c.first-first.result in
    ap length c.put_all.ensures ∙ length-map-range_with_len (place_of first.root first.size) 0 c.args.count

pub invariant_of-result : goal.invariant_of-result
invariant_of-result c =
    let first = c.first-first.result in
    let count = c.args.count in
    let size = c.args.size in
    let cut = c.cut-deed.ensures in
    let deed = c.rooted-deed.result.0 in
    let same = c.rooted-deed.ensures.0 in
    let begins : c.rooted-deed.result.1.at ≡ deed.at = c.rooted-deed.ensures.1 ∙ ap (λ d. d.at) (sym same) in
    let slots = c.put_all.new.slots.items in
    let all : length slots ≡ count = ap length c.put_all.ensures ∙ length-map-range_with_len (place_of first.root first.size) 0 count in
    record {
      begins = begins;
      some = c.requires.nonempty;
      most = c.requires.at_most;
      fits = subst (λ n. n * size < 2 ^ 60) (sym all) c.requires.fits;
      empty = ap (λ d. d.len) same ∙ cut.len;
      frees = ap (λ d. d.deed) same ∙ cut.deed ∙ c.in_ok-allocate.ensures.1 ∙ ap (λ p. Some (p, count * size)) (sym cut.at ∙ ap (λ d. d.at) (sym same)) ∙ ap (λ n. Some (deed.at, n * size)) (sym all);
      slots_are = c.put_all.ensures ∙ ap (λ p. map (place_of p.root p.size) (range_with_len 0 count)) c.first-first.ensures ∙ ap (λ p. map (place_of p size) (range_with_len 0 count)) begins ∙ ap (λ n. map (place_of deed.at size) (range_with_len 0 n)) (sym all);
    }
