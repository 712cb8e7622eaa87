use Rattle.std.proofs.Common.{◌≡◌, ℕ, true, sym, ap, subst, ◌∙◌}
use Rattle.object_heap.specs.HeapImage.{HasLiveList, is_null_or_live}
use Rattle.summary.specs.Compaction.{moved_word}
use Rattle.summary.specs.Updates.{is_late_reference}
use Rattle.fill.proofs.Lemmas.Late.{behind-parts, not_before, header_not_before, late_sound}
use Rattle.fill.proofs.Lemmas.Parts.{cut_behind}
use Rattle.fill.proofs.cleanup.deferred.late_references.Goals as goal

pub returns : goal.returns
returns c =
    let image = c.args.plan.now in
    let d : ℕ = c.args.d in
    let x : ℕ = c.args.begin in
    let s : HasLiveList image = c.planned_image_is_valid.ensures.live_list in
    let o = c.one_deferred_object.ensures.object image s d x c.requires.begins in
    let header = c.moved_objects.ensures.header image s o.0 o.1 in
    record {
      region = o.4;
      header = header_not_before image s d x c.requires.begins (c.update_then_clear.ensures.are_late image s)
          (ap (is_late_reference image) (sym o.3) ∙ c.update_then_clear.ensures.header image s o.0 o.1);
      once = λ p h. (let both = behind-parts image x p h in not_before image s d x c.requires.begins (c.update_then_clear.ensures.once image s) p both.0 both.1);
      cut = cut_behind image d x c.requires.begins o.4 (λ e y h. (c.one_deferred_object.ensures.object image s e y h).4)
          (header_not_before image s d x c.requires.begins (c.update_then_clear.ensures.are_late image s)
          (ap (is_late_reference image) (sym o.3) ∙ c.update_then_clear.ensures.header image s o.0 o.1));
      sound = λ p h. (let both = behind-parts image x p h in subst (λ (r : ℕ). is_null_or_live image r ≡ true) (c.planned_image_is_own.ensures.leads (moved_word image p)) (late_sound image s d x c.requires.begins o.0 o.1 o.3 header o.2 (λ f few. c.moved_objects.ensures.reference image s o.0 f o.1 few) p both.0 both.1));
    }
