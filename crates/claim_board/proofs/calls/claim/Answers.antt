use Rattle.std.proofs.Common.{◌≡◌, ℕ, ◌<◌, cond, length, Some, refl, sym, ap, ◌∙◌, subst, eq-eqb}
use Rattle.std.proofs.lemmas.List.{get_or_default}
use Rattle.scheduler.specs.declared.event.Event.TheVariants.{Claim}
use Rattle.scheduler.specs.declared.reply.Reply.{Reply}
use Rattle.scheduler.specs.declared.reply.Reply.TheVariants.{Yes, No}
use Rattle.scheduler.specs.State.{IsFilling}
use Rattle.scheduler.specs.History.{state_of}
use Rattle.claim_board.specs.declared.rule.table_key.TableKey.{TableKey}
use Rattle.claim_board.specs.declared.rule.view.View.{View}
use Rattle.claim_board.specs.Rule.{Extends, claim_reply}
use Rattle.claim_board.specs.Views.{worker_of, seen_of, mine_of}
use Rattle.claim_board.proofs.Lemmas.Spends.{claimed_now, all_left}
use Rattle.claim_board.proofs.Lemmas.Grants.{granted}
use Rattle.claim_board.proofs.calls.claim.Goals as goal

-- The word found was 0, so the step granted the region.
answered : {X : Type 0} (k : TableKey X) (v u : View) (r found : ℕ) → found ≡ 0 → Extends k.moves k.workers (worker_of v) (seen_of v) (mine_of v) (Claim r) (claim_reply found) (seen_of u) (mine_of u)
    → Extends k.moves k.workers (worker_of v) (seen_of v) (mine_of v) (Claim r) Yes (seen_of u) (mine_of u)
answered k v u r found none x =
    subst (λ (reply : Reply). Extends k.moves k.workers (worker_of v) (seen_of v) (mine_of v) (Claim r) reply (seen_of u) (mine_of u)) (ap (λ b. cond b Yes No) (eq-eqb found 0 none)) x

pub returns-then-found-eq0-clause-ticket : goal.returns-then-found-eq0-clause-ticket
returns-then-found-eq0-clause-ticket c =
    let e = c.claim-found.ensures.added.0 in
    let k = c.args.words.now.key in
    let v = c.args.pass.now.place.me.0 in
    let u = c.claim-found.new.seat.me.0 in
    let r = c.args.region in
    let counted = c.requires.counted in
    let now = claimed_now c.what_own_calls_tell.ensures k.moves k.workers (worker_of v) r (seen_of v) (mine_of v) (seen_of u) (mine_of u) (answered k v u r c.claim-found.result c.if-found-eq0.true e.2) in
    let inside : r < length c.args.sources.now.items = rw counted.all c.requires.region in (
      refl,
      (refl, refl),
      record {
        board = ap (λ p. Some p.table_id) c.of.ensures;
        worker = ap (λ p. Some (worker_of p.me.0)) c.of.ensures;
        inside = c.requires.region;
        filling = subst (λ (w : ℕ). IsFilling (state_of (mine_of u)) w r) (sym e.1) now.filling;
        unsettled = now.unsettled;
        ahead = λ s far. now.undrained s;
        left = c.index.ensures ∙ (get_or_default c.args.sources.now.items r c.index.result.now 0 inside ∙ (counted.each r c.requires.region ∙ all_left k.moves r (state_of (mine_of u)) now.undrained));
      },
    )

pub returns-then-found-eq0-clause-granted : goal.returns-then-found-eq0-clause-granted
returns-then-found-eq0-clause-granted c =
    let k = c.args.words.now.key in
    let v = c.args.pass.now.place.me.0 in
    let u = c.claim-found.new.seat.me.0 in
    granted c.legal_histories_are_orderly.ensures k.moves k.workers (worker_of v) c.args.region (seen_of v) (mine_of v) (seen_of u) (mine_of u)
    (answered k v u c.args.region c.claim-found.result c.if-found-eq0.true c.claim-found.ensures.added.0.2)
