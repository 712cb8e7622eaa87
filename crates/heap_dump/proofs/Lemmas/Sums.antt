-- Sums with one object more.
use Rattle.std.proofs.Common.{◌≡◌, ◌≢◌, ◌⊎◌, inl, inr, ℕ, ◌+◌, ◌<◌, true, false, not, cond, eqb, List, [], ◌∷◌, ◌++◌, length, length-set, get_or, get_or-set_other, get_or-set_same, set, take, refl, sym, ◌∙◌, ap, ap₂, arith}
use Rattle.std.specs.Prelude.{min, sum_by}
use Rattle.std.proofs.lemmas.Bool.Decides.{eqb_tells}
use Rattle.std.proofs.lemmas.List.{append-nil, take_more}
use Rattle.std.proofs.lemmas.List.Elements.{filter_more}
use Rattle.std.proofs.lemmas.List.Sums.{sum_by_push}
use Rattle.heap_dump.specs.declared.listing.ListedObject.{ListedObject}
use Rattle.heap_dump.specs.declared.totals.ClassTotals.{ClassTotals}
use Rattle.heap_dump.specs.declared.totals.Totals.{Totals}
use Rattle.heap_dump.specs.Totals.{dead_words_of, held, live_words_of, objects_in, sums_in, sums_of}

abbrev totals : ℕ → ℕ → ℕ → ℕ → ℕ → Totals
totals a b c d e = record { live_objects = a; live_words = b; dead_objects = c; dead_words = d; machine_words = e }

same : (a a' b b' c c' d d' e e' : ℕ) → a ≡ a' → b ≡ b' → c ≡ c' → d ≡ d' → e ≡ e' → totals a b c d e ≡ totals a' b' c' d' e'
same a a' b b' c c' d d' e e' p q r s t =
    ap (λ x. totals x b c d e) p ∙ ap (λ x. totals a' x c d e) q ∙ ap (λ x. totals a' b' x d e) r ∙ ap (λ x. totals a' b' c' x e) s
    ∙ ap (λ x. totals a' b' c' d' x) t

abbrev class_record : ℕ → Totals → ClassTotals
class_record n t = record { class = n; totals = t }

abbrev one_live : ListedObject → ℕ
one_live o = cond o.is_live 1 0

abbrev one_dead : ListedObject → ℕ
one_dead o = cond (not o.is_live) 1 0

-- one term more, as a saturating addition has it
added : (f : ListedObject → ℕ) (objects : List ListedObject) (o : ListedObject) (old new x : ℕ) → f o ≡ x → old ≡ held (sum_by f objects)
    → new ≡ min (old + x) 18446744073709551615 → new ≡ held (sum_by f (objects ++ o ∷ []))
added f objects o old new x is was now = let e = sum_by_push f objects o in omega (arith, e, is, was, now)

-- a term of 0
kept : (f : ListedObject → ℕ) (objects : List ListedObject) (o : ListedObject) (old : ℕ) → f o ≡ 0 → old ≡ held (sum_by f objects)
    → old ≡ held (sum_by f (objects ++ o ∷ []))
kept f objects o old is was = let e = sum_by_push f objects o in omega (arith, e, is, was)

module _ (t : Totals) (objects : List ListedObject) (o : ListedObject) (n w m : ℕ) (was : t ≡ sums_of objects)
    (machine : m ≡ min (t.machine_words + o.machine_words) 18446744073709551615) where
  all_words : m ≡ held (sum_by (λ x. x.machine_words) (objects ++ o ∷ []))
  all_words = added (λ x. x.machine_words) objects o t.machine_words m o.machine_words refl (ap (λ x. x.machine_words) was) machine

  pub with_live : o.is_live ≡ true → n ≡ min (t.live_objects + 1) 18446744073709551615 → w ≡ min (t.live_words + o.words) 18446744073709551615
      → totals n w t.dead_objects t.dead_words m ≡ sums_of (objects ++ o ∷ [])
  with_live live count words =
      same n _ w _ t.dead_objects _ t.dead_words _ m _
      (added one_live objects o t.live_objects n 1 (ap (λ b. cond b 1 0) live) (ap (λ x. x.live_objects) was) count)
      (added live_words_of objects o t.live_words w o.words (ap (λ b. cond b o.words 0) live) (ap (λ x. x.live_words) was) words)
      (kept one_dead objects o t.dead_objects (ap (λ b. cond (not b) 1 0) live) (ap (λ x. x.dead_objects) was))
      (kept dead_words_of objects o t.dead_words (ap (λ b. cond b 0 o.words) live) (ap (λ x. x.dead_words) was))
      all_words

  pub with_dead : o.is_live ≡ false → n ≡ min (t.dead_objects + 1) 18446744073709551615 → w ≡ min (t.dead_words + o.words) 18446744073709551615
      → totals t.live_objects t.live_words n w m ≡ sums_of (objects ++ o ∷ [])
  with_dead dead count words =
      same t.live_objects _ t.live_words _ n _ w _ m _
      (kept one_live objects o t.live_objects (ap (λ b. cond b 1 0) dead) (ap (λ x. x.live_objects) was))
      (kept live_words_of objects o t.live_words (ap (λ b. cond b o.words 0) dead) (ap (λ x. x.live_words) was))
      (added one_dead objects o t.dead_objects n 1 (ap (λ b. cond (not b) 1 0) dead) (ap (λ x. x.dead_objects) was) count)
      (added dead_words_of objects o t.dead_words w o.words (ap (λ b. cond b 0 o.words) dead) (ap (λ x. x.dead_words) was) words)
      all_words

-- the first objects and the next one
pub sums_more : (objects : List ListedObject) (i : ℕ) (o : ListedObject) → i < length objects → o ≡ get_or objects i o
    → sums_of (take i objects ++ o ∷ []) ≡ sums_of (take (i + 1) objects)
sums_more objects i o l is =
    ap (λ x. sums_of (take i objects ++ x ∷ [])) is ∙ sym (ap sums_of (take_more objects i o l))

module _ (objects : List ListedObject) (i : ℕ) (o : ListedObject) (l : i < length objects) (is : o ≡ get_or objects i o) where
  -- those of its class, and of another
  objects_more : (k : ℕ) → objects_in k (take (i + 1) objects) ≡ objects_in k (take i objects) ++ cond (eqb o.class k) (o ∷ []) []
  objects_more k =
      filter_more (λ x. eqb x.class k) objects i o l
      ∙ ap (λ x. objects_in k (take i objects) ++ cond (eqb x.class k) (x ∷ []) []) (sym is)

  pub class_same : (k : ℕ) → eqb o.class k ≡ true → objects_in k (take (i + 1) objects) ≡ objects_in k (take i objects) ++ o ∷ []
  class_same k eq = objects_more k ∙ ap (λ b. objects_in k (take i objects) ++ cond b (o ∷ []) []) eq

  pub class_other : (k : ℕ) → eqb o.class k ≡ false → objects_in k (take (i + 1) objects) ≡ objects_in k (take i objects)
  class_other k ne =
      objects_more k ∙ ap (λ b. objects_in k (take i objects) ++ cond b (o ∷ []) []) ne ∙ append-nil (objects_in k (take i objects))

  -- the sums of each class, after the object is added to those of its class
  pub each_more : (totals : List ClassTotals) (new : ClassTotals) → o.class < length totals
      → ((k : ℕ) (d : ClassTotals) → k < length totals → get_or totals k d ≡ sums_in k (take i objects))
      → new.class ≡ o.class → new.totals ≡ sums_of (objects_in o.class (take i objects) ++ o ∷ [])
      → (k : ℕ) (d : ClassTotals) → k < length (set totals o.class new) → get_or (set totals o.class new) k d ≡ sums_in k (take (i + 1) objects)
  each_more totals new room each class sums k d below = go (eqb_tells o.class k)
    where
      long : length (set totals o.class new) ≡ length totals
      long = length-set totals o.class new

      go : ((eqb o.class k ≡ true) × (o.class ≡ k)) ⊎ ((eqb o.class k ≡ false) × (o.class ≢ k)) → get_or (set totals o.class new) k d ≡ sums_in k (take (i + 1) objects)
      go (inl eq) =
          let at : get_or (set totals o.class new) o.class d ≡ new = get_or-set_same totals o.class new d room in
          let here : sums_of (objects_in o.class (take i objects) ++ o ∷ []) ≡ sums_of (objects_in k (take (i + 1) objects)) =
          ap (λ n. sums_of (objects_in n (take i objects) ++ o ∷ [])) eq.1 ∙ sym (ap sums_of (class_same k eq.0)) in
          ap (λ n. get_or (set totals o.class new) n d) (sym eq.1) ∙ at ∙ ap₂ (λ n t. class_record n t) (class ∙ eq.1) (sums ∙ here)
      go (inr ne) =
          let other : k ≢ o.class = λ e. ne.1 (sym e) in
          get_or-set_other totals o.class k new d other
          ∙ each k d (omega (arith, below, long))
          ∙ ap (λ xs. class_record k (sums_of xs)) (sym (class_other k ne.0))
