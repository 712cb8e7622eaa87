use Rattle.std.proofs.Common.{◌≡◌, ℕ, ◌+◌, inl, inr, List, [], ◌∷◌, ◌++◌, length, refl, sym, subst, arith}
use Rattle.std.proofs.lemmas.List.{length_push}
use Rattle.std.proofs.lemmas.List.Elements.{Contains-append_left, Contains-push, Contains-push_cases}
use Rattle.std.specs.Prelude.{Contains}
use Rattle.coded_marking.proofs.tracing.Tracing.push.Goals as goal

pub returns-clause-pushes : goal.returns-clause-pushes
returns-clause-pushes c =
    let old : List ℕ = c.args.self.now.stack.items in
    let new : List ℕ = c.push_reserved.new.self.items in
    let pushed : new ≡ old ++ c.args.a ∷ [] = c.push_reserved.ensures.items in
    let long : length new ≡ length old + 1 = more old new c.args.a pushed in
    record {
      words = refl;
      marked = refl;
      followed = refl;
      stacked = λ b h. subst (λ xs. Contains xs b) (sym pushed) (Contains-append_left old (c.args.a ∷ []) b h);
      pending = λ h. (h, subst (λ xs. Contains xs c.args.a) (sym pushed) (Contains-push old c.args.a));
      fresh = λ b h. elim (Contains-push_cases old c.args.a b (subst (λ xs. Contains xs b) pushed h)) [
        | inl was ↦ inl was
        | inr is ↦ inr (sym is)
      ];
      some = omega arith;
      few = omega arith;
    }
  where
    more : (old new : List ℕ) (a : ℕ) → new ≡ old ++ a ∷ [] → length new ≡ length old + 1
    more old new a pushed = rw pushed (length_push old a)
