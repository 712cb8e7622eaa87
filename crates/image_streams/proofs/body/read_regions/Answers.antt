use Rattle.std.proofs.Common.{◌≡◌, ◌<◌, ◌≤◌, ◌+◌, ◌*◌, ◌^◌, ◌++◌, ◌∷◌, [], List, ℕ, length, get_or, ap, sym, subst, ◌∙◌, arith, length-append}
use Rattle.std.proofs.lemmas.Result.{err_from_is_err_and}
use Rattle.std.proofs.Math.Nat.{pow-le-pow_right}
use Rattle.std.proofs.lemmas.List.{append-nil}
use Rattle.std.proofs.lemmas.List.Elements.{All-push, All-append}
use Rattle.std.specs.Prelude.{All}
use Rattle.std.proofs.lemmas.List.Concat.{flat_map-append}
use Rattle.std.proofs.lemmas.List.Folds.{concat-append}
use Rattle.std.specs.Int.{w64, to_le_bytes}
use Rattle.std.specs.List.{concat}
use Rattle.std.specs.Io.KnownBytes.{Consumes}
use Rattle.image_streams.specs.Body.{IsOfBody}
use Rattle.image_streams.specs.Numbers.{numbers}
use Rattle.image_streams.specs.Incoming.{expected, known_rest}
use Rattle.image_streams.proofs.Lemmas.Known.{consumes_more}
use Rattle.image_streams.proofs.Lemmas.Drawing.{draws_after, draws_no_memory, drawn_more}
use Rattle.image_streams.proofs.Lemmas.Counts.{length-concat}
use Rattle.image_streams.proofs.body.read_regions.Goals as goal

pub returns-in_err-region-clause-device : goal.returns-in_err-region-clause-device
returns-in_err-region-clause-device g c =
    let p = err_from_is_err_and c.from_residual-in_err-region.result c.from_residual-in_err-region.ensures.1 in
    let so_far = c.loop-r.invariant in
    let regions = c.loop-r.regions.items in
    let long = length-concat (2 ^ c.args.size.region_log) regions so_far.whole in
    let counted : length regions * 2 ^ c.args.size.region_log ≡ c.loop-r.r * 2 ^ c.args.size.region_log = ap (λ n. n * 2 ^ c.args.size.region_log) so_far.count in
    let same = so_far.expected in
    let fewer : expected c.loop-r.incoming + length (concat regions) ≡ expected c.args.incoming.now = omega arith in
    rw (p.1, p.2) (draws_after IsOfBody IsOfBody g.R.Intake.left g.R.Intake.has_failed c.args.incoming.now c.loop-r.incoming c.args.reader.now c.loop-r.reader c.read_region.new.reader (concat regions) c.in_err-region.field-0.0 so_far.bytes fewer so_far.lost so_far.failed (λ is. is) c.in_err-region.ensures.device)

pub returns-in_err-push-clause-device : goal.returns-in_err-push-clause-device
returns-in_err-push-clause-device g c =
    let p = err_from_is_err_and c.from_residual-in_err-push.result c.from_residual-in_err-push.ensures.1 in
    let so_far = c.loop-r.invariant in
    let read = c.in_ok-region.ensures.device in
    let left = g.R.Intake.left in
    rw p.1 (draws_no_memory left g.R.Intake.has_failed c.args.incoming.now c.args.reader.now c.read_region.new.reader p.0 p.2 (drawn_more (left c.args.reader.now) (left c.loop-r.reader) (left c.read_region.new.reader) so_far.lost read.lost) (read.failed ∙ so_far.failed))

pub read_region-requires-clause-few : goal.read_region-requires-clause-few
read_region-requires-clause-few g c =
    let few : 2 ^ c.args.size.region_log ≤ 2 ^ 20 = pow-le-pow_right {n = 2} (omega arith) c.requires.source.log in
    let lent = c.as_mut_slice.ensures.len ∙ c.loop-r.invariant.words in
    omega arith

pub loop-r-preserved : goal.loop-r-preserved
loop-r-preserved g c =
    let so_far = c.loop-r.invariant in
    let regions = c.loop-r.regions.items in
    let region = c.in_ok-region.region in
    let pushed : c.push.new.self.items ≡ regions ++ region ∷ [] = c.in_ok-push.ensures.items in
    let longer = length-append regions (region ∷ []) in
    let long : length c.push.new.self.items ≡ length regions + 1 = ap length pushed ∙ longer in
    let counted = so_far.count in
    let same = so_far.expected in
    let read = c.in_ok-region.ensures.words in
    let fewer = read.fewer in
    let lent = c.as_mut_slice.ensures.len ∙ so_far.words in
    let whole : length region ≡ 2 ^ c.args.size.region_log = c.in_ok-region.ensures.length ∙ lent in
    let before = known_rest c.args.incoming.now (g.R.Intake.left c.args.reader.now) in
    let after = known_rest c.read_region.new.incoming (g.R.Intake.left c.read_region.new.reader) in
    let grown : concat regions ++ region ≡ concat c.push.new.self.items = ap (λ xs. concat regions ++ xs) (sym (append-nil region)) ∙ sym (concat-append regions (region ∷ [])) ∙ ap concat (sym pushed) in
    let joined : numbers (concat regions) ++ numbers region ≡ numbers (concat c.push.new.self.items) = sym (flat_map-append (to_le_bytes w64) (concat regions) region) ∙ ap numbers grown in
    record {
      in_range = read.in_range;
      count = omega arith;
      words = so_far.words;
      whole = subst (λ blocks. (k : ℕ) → (d : List ℕ) → k < length blocks → length (get_or blocks k d) ≡ 2 ^ c.args.size.region_log) (sym pushed) (All-push (λ block. length block ≡ 2 ^ c.args.size.region_log) regions region so_far.whole whole);
      fit = subst (λ ws. All (λ w. w < 2 ^ 64) ws) grown (All-append (λ w. w < 2 ^ 64) (concat regions) region so_far.fit c.in_ok-region.ensures.fit);
      expected = omega arith;
      bytes = subst (λ bytes. Consumes before after bytes) joined (consumes_more before (known_rest c.loop-r.incoming (g.R.Intake.left c.loop-r.reader)) after (numbers (concat regions)) (numbers region) so_far.bytes read.bytes);
      lost = drawn_more (g.R.Intake.left c.args.reader.now) (g.R.Intake.left c.loop-r.reader) (g.R.Intake.left c.read_region.new.reader) so_far.lost c.in_ok-region.ensures.device.lost;
      failed = c.in_ok-region.ensures.device.failed ∙ so_far.failed;
    }

pub returns-clause-words : goal.returns-clause-words
returns-clause-words g c =
    let so_far = c.loop-r.invariant in
    let long = length-concat (2 ^ c.args.size.region_log) c.loop-r.regions.items so_far.whole in
    let counted : length c.loop-r.regions.items * 2 ^ c.args.size.region_log ≡ c.loop-r.r * 2 ^ c.args.size.region_log = ap (λ n. n * 2 ^ c.args.size.region_log) so_far.count in
    let same = so_far.expected in
    record { in_range = so_far.in_range; fewer = omega arith; bytes = so_far.bytes }

pub returns-clause-regions : goal.returns-clause-regions
returns-clause-regions g c =
    let so_far = c.loop-r.invariant in
    let long = length-concat (2 ^ c.args.size.region_log) c.loop-r.regions.items so_far.whole in
    let last = c.loop-r-test.false in
    let first = c.loop-r.auto in
    let is : c.loop-r.r ≡ c.args.size.regions = omega arith in
    let all : length c.loop-r.regions.items ≡ c.args.size.regions = so_far.count ∙ is in
    record { whole = so_far.whole; counted = all; fit = so_far.fit; words = long ∙ ap (λ n. n * 2 ^ c.args.size.region_log) all }
