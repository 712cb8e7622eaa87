-- The drains of a fill, one after the other.
use Rattle.std.proofs.Common.{◌≡◌, ◌≢◌, ℕ, ◌+◌, ◌-◌, ◌<◌, ◌≤◌, Bool, true, false, List, [], ◌∷◌, ◌++◌, refl, sym, ap, ◌∙◌, subst, arith, zero-add, append_assoc}
use Rattle.std.specs.Prelude.{◌==◌, ◌&&◌, not, filter}
use Rattle.std.specs.List.{range_with_len, FoldsTo}
use Rattle.std.proofs.lemmas.Bool.{and_parts, and_from, ne_eqb, eqb-false, not-true, not_from_false, false_from_ne_true, false≢true}
use Rattle.std.proofs.lemmas.List.{map-append, append-nil}
use Rattle.std.proofs.lemmas.List.Elements.{filter-append}
use Rattle.std.proofs.lemmas.Fn.{FoldsTo-push}
use Rattle.fill.proofs.Lemmas.Lists.{range_with_len-add, filter-none, filter-first}
use Rattle.object_heap.specs.HeapImage.{HeapImage, IsValid, region_count as heap_regions}
use Rattle.summary.specs.WordMoves.{reads as image_reads}
use Rattle.summary.specs.PlanLaws.{PlanLaws}
use Rattle.scheduler.specs.ImageMoves.{image_table}
use Rattle.scheduler.specs.declared.entry.Entry.{Entry}
use Rattle.scheduler.specs.declared.event.Event.TheVariants.{Drain, Complete}
use Rattle.scheduler.specs.declared.reply.Reply.TheVariants.{Done}
use Rattle.scheduler.specs.MoveTable.{MoveTable, region_count, reads}
use Rattle.scheduler.specs.History.{BeginsWith, entry}
use Rattle.claim_board.specs.declared.tokens.drained.Drained.{Drained}
use Rattle.claim_board.specs.declared.tokens.drained.Drained.TheVariants.{Last, NotLast}
use Rattle.claim_board.specs.Callers.{Caller, Gains, IsSeenLast}
use Rattle.claim_board.specs.Drains.{reply_of}
use Rattle.fill.specs.SourceDrains.{SourceDrain, source_drain, is_last, other_sources_below, sources_of, last_sources, drain_calls, GainsAll, ReportsLast, HasDrained, HasFilled}

-- what a table and its image say about one pair
module _ (d s : ℕ) (table image : Bool) (is : table ≡ (not (d == s) && image)) where
  pub other_read : table ≡ true → (image ≡ true) × (d ≢ s)
  other_read e =
      let both = and_parts (not (d == s)) image (sym is ∙ e) in
      (both.1, eqb-false d s (not-true (d == s) both.0))

  pub other_unread : (image ≡ true → d ≡ s) → table ≡ false
  other_unread h = is ∙ false_from_ne_true (not (d == s) && image) (λ e. let both = and_parts (not (d == s)) image e in eqb-false d s (not-true (d == s) both.0) (h both.1))

  pub unread_above : d < s → table ≡ false → image ≡ false
  unread_above l e = false_from_ne_true image (λ h.
      false≢true (sym e ∙ is ∙ and_from (not (d == s)) image (not_from_false (d == s) (ne_eqb d s (λ f. let no : ⊥ = omega arith in no))) h))

-- What a table says about region r if it is the image's and r is d.
module _ (image : HeapImage) (valid : IsValid image) (law : (d s : ℕ) → reads (image_table image) d s ≡ (not (d == s) && image_reads image d s)) (table : MoveTable) (same : table ≡ image_table image) (d r : ℕ) (here : r ≡ d) where
  same_reads : (s : ℕ) → reads (image_table image) d s ≡ reads table r s
  same_reads s = sym (λ i. reads (same i) (here i) s)

  pub opened_source : PlanLaws → (s : ℕ) → reads table r s ≡ true → (reads (image_table image) d s ≡ true) × (image_reads image d s ≡ true) × (d < s)
  opened_source plans s read =
      let here' : reads (image_table image) d s ≡ true = same_reads s ∙ read in
      let both = other_read d s (reads (image_table image) d s) (image_reads image d s) (law d s) here' in
      let below : d ≤ s = plans.reads-below image valid.live_list d s both.0 in
      let apart : d ≢ s = both.1 in
      (here', both.0, omega arith)

  pub skipped_sources : (next s : ℕ) → ((t : ℕ) → next ≤ t → t < s → reads table r t ≡ false) → (t : ℕ) → next ≤ t → t < s → reads (image_table image) d t ≡ false
  skipped_sources next s h t l k = same_reads t ∙ h t l k

  pub last_sources_past : (next : ℕ) → ((t : ℕ) → next ≤ t → reads table r t ≡ false) → (t : ℕ) → next ≤ t → reads (image_table image) d t ≡ false
  last_sources_past next h t l = same_reads t ∙ h t l

module _ (m : MoveTable) (d : ℕ) where
  pub sources_skip : (next s : ℕ) → next ≤ s → ((t : ℕ) → next ≤ t → t < s → reads m d t ≡ false) → other_sources_below m d s ≡ other_sources_below m d next
  sources_skip next s l unread =
      let k : ℕ = s - next in
      let e : s ≡ next + k = omega arith in
      ap (other_sources_below m d) e
      ∙ ap (filter (reads m d)) (range_with_len-add 0 next k)
      ∙ filter-append (reads m d) (range_with_len 0 next) (range_with_len (0 + next) k)
      ∙ ap (λ (xs : List ℕ). other_sources_below m d next ++ xs) (filter-none (reads m d) (0 + next) k (λ t a b. unread t (omega arith) (omega arith)))
      ∙ append-nil (other_sources_below m d next)

  pub sources_more : (s : ℕ) → reads m d s ≡ true → other_sources_below m d (s + 1) ≡ other_sources_below m d s ++ s ∷ []
  sources_more s read =
      ap (filter (reads m d)) (range_with_len-add 0 s 1)
      ∙ filter-append (reads m d) (range_with_len 0 s) (range_with_len (0 + s) 1)
      ∙ ap (λ (xs : List ℕ). other_sources_below m d s ++ xs) (filter-first (reads m d) (0 + s) 1 0 refl (ap (reads m d) (zero-add s) ∙ read) ∙ ap (λ (c : ℕ). c ∷ []) (zero-add s))

last_append : (xs ys : List SourceDrain) → last_sources (xs ++ ys) ≡ last_sources xs ++ last_sources ys
last_append xs ys = ap sources_of (filter-append (λ x. is_last x.answer) xs ys) ∙ map-append (λ x. x.source) (filter (λ x. is_last x.answer) xs) (filter (λ x. is_last x.answer) ys)

-- what is seen after one more call begins with what was seen before the earlier calls
seen_more : (old mid new : List Entry) (e : Entry) → BeginsWith mid old → IsSeenLast mid new e → BeginsWith new old
seen_more old mid new e first last =
    let began = last.1 in (
      (first.0 ++ began.0) ++ e ∷ [],
      last.2
          ∙ (ap (λ (es : List Entry). es ++ e ∷ []) (began.1 ∙ (ap (λ (es : List Entry). es ++ began.0) first.1 ∙ append_assoc old first.0 began.0))
          ∙ append_assoc old (first.0 ++ began.0) (e ∷ [])),
    )

-- one more call
gains_more : (old mid new : Caller) (d s : ℕ) (answer : Drained) (drains : List SourceDrain) → GainsAll old mid (drain_calls old.worker d drains) → Gains mid new (Drain d s) (reply_of answer)
    → GainsAll old new (drain_calls old.worker d (drains ++ source_drain s answer ∷ []))
gains_more old mid new d s answer drains before g =
    let call : ℕ → List Entry = λ w. entry w (Drain d s) (reply_of answer) ∷ [] in
    record {
      board = g.board ∙ before.board;
      worker = g.worker ∙ before.worker;
      seen = seen_more old.seen mid.seen new.seen (entry mid.worker (Drain d s) (reply_of answer)) before.seen g.seen;
      mine = g.mine ∙ ap (λ (w : ℕ). mid.mine ++ call w) before.worker ∙ ap (λ (es : List Entry). es ++ call old.worker) before.mine ∙ append_assoc old.mine (drain_calls old.worker d drains) (call old.worker)
          ∙ ap (λ (es : List Entry). old.mine ++ es) (sym (map-append (λ x. entry old.worker (Drain d x.source) (reply_of x.answer)) drains (source_drain s answer ∷ [])));
    }

module _ {F : Type 0} (step : F → ℕ → F → Type 0) where
  reported_more : (drains : List SourceDrain) (s : ℕ) (answer : Drained) (f g h : F) → FoldsTo step f (last_sources drains) g → ReportsLast step s answer g h → FoldsTo step f (last_sources (drains ++ source_drain s answer ∷ [])) h
  reported_more drains s Last f g h before t = subst (λ (xs : List ℕ). FoldsTo step f xs h) (sym (last_append drains (source_drain s Last ∷ []))) (FoldsTo-push step f (last_sources drains) g s h before t)
  reported_more drains s NotLast f g h before t =
      subst (λ (xs : List ℕ). FoldsTo step f xs h) (sym (last_append drains (source_drain s NotLast ∷ []) ∙ append-nil (last_sources drains)))
      (subst (FoldsTo step f (last_sources drains)) t before)

module _ {F : Type 0} (step : F → ℕ → F → Type 0) (m : MoveTable) (d : ℕ) where
  -- no source below next
  pub undrained : (next : ℕ) (old new : Caller) (f : F) → other_sources_below m d next ≡ [] → new ≡ old → HasDrained step m d next old new f f
  undrained next old new f none same =
      record {
        drains = [];
        each = sym none;
        reported = refl;
        gains = record {
          board = ap (λ c. c.board) same;
          worker = ap (λ c. c.worker) same;
          seen = ([], ap (λ c. c.seen) same ∙ sym (append-nil old.seen));
          mine = ap (λ c. c.mine) same ∙ sym (append-nil old.mine);
        };
      }

  pub drained_more : (next s : ℕ) (answer : Drained) (old mid new : Caller) (f g h : F) → HasDrained step m d next old mid f g → next ≤ s → ((t : ℕ) → next ≤ t → t < s → reads m d t ≡ false) → reads m d s ≡ true
      → ReportsLast step s answer g h → Gains mid new (Drain d s) (reply_of answer) → HasDrained step m d (s + 1) old new f h
  drained_more next s answer old mid new f g h before l unread read reported gains =
      record {
        drains = before.drains ++ source_drain s answer ∷ [];
        each = map-append (λ x. x.source) before.drains (source_drain s answer ∷ []) ∙ ap (λ (xs : List ℕ). xs ++ s ∷ []) (before.each ∙ sym (sources_skip m d next s l unread)) ∙ sym (sources_more m d s read);
        reported = reported_more step before.drains s answer f g h before.reported reported;
        gains = gains_more old mid new d s answer before.drains before.gains gains;
      }

  -- no source from next on
  pub drained_all : (next all : ℕ) (old new : Caller) (f g : F) → HasDrained step m d next old new f g → next ≤ all → ((t : ℕ) → next ≤ t → reads m d t ≡ false) → HasDrained step m d all old new f g
  drained_all next all old new f g before l unread =
      record { drains = before.drains; each = before.each ∙ sym (sources_skip m d next all l (λ t a b. unread t a)); reported = before.reported; gains = before.gains }

  pub filled_all : (old mid new : Caller) (f g : F) → HasDrained step m d (region_count m) old mid f g → Gains mid new (Complete d) Done → HasFilled step m d old new f g
  filled_all old mid new f g h last =
      let call : ℕ → List Entry = λ w. entry w (Complete d) Done ∷ [] in
      record {
        drains = h.drains;
        each = h.each;
        reported = h.reported;
        gains = let b = h.gains in let a = last in record {
          board = a.board ∙ b.board;
          worker = a.worker ∙ b.worker;
          seen = seen_more old.seen mid.seen new.seen (entry mid.worker (Complete d) Done) b.seen a.seen;
          mine = a.mine ∙ ap (λ (w : ℕ). mid.mine ++ call w) b.worker ∙ ap (λ (es : List Entry). es ++ call old.worker) b.mine ∙ append_assoc old.mine (drain_calls old.worker d h.drains) (call old.worker);
        };
      }

-- the same for the image's table, regions and completion, and for region d
pub filled_here : {F : Type 0} (step : F → ℕ → F → Type 0) (image guide : HeapImage) → guide ≡ image → region_count (image_table image) ≡ heap_regions image → (d r q : ℕ) → r ≡ d → q ≡ d → (old mid new : Caller) (f g : F)
    → HasDrained step (image_table guide) r (heap_regions guide) old mid f g → Gains mid new (Complete q) Done → HasFilled step (image_table image) d old new f g
filled_here step image guide same count d r q here there old mid new f g h last =
    let one = subst (λ (p : HeapImage). HasDrained step (image_table p) r (heap_regions p) old mid f g) same h in
    let two = subst (λ (n : ℕ). HasDrained step (image_table image) r n old mid f g) (sym count) one in
    let three = subst (λ (n : ℕ). HasDrained step (image_table image) n (region_count (image_table image)) old mid f g) here two in
    filled_all step (image_table image) d old mid new f g three (subst (λ (n : ℕ). Gains mid new (Complete n) Done) there last)
