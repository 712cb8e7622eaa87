use Rattle.std.proofs.Common.{◌≡◌, ◌+◌, ℕ, length, cond, nat_lt, Some, refl, sym, ap, ◌∙◌, subst}
use Rattle.std.specs.Prelude.{slice_set}
use Rattle.std.proofs.lemmas.List.{get_or_default}
use Rattle.std.specs.Box.{box_allocator}
use Rattle.claim_board.specs.declared.regions.holding.Holding.TheVariants.{Share, Original}
use Rattle.claim_board.specs.Places.{AreReaders}
use Rattle.claim_board.specs.Sharings.{with_right}
use Rattle.claim_board.proofs.Lemmas.Sharing.{shares_region}
use Rattle.claim_board.proofs.regions.sharing.share_region.Goals as goal

pub returns-clause-shared : goal.returns-clause-shared
returns-clause-shared c =
    λ m places lt all.
    let r = c.args.region in
    let two = c.index.result.now in
    let items = c.args.places.now.readers.items in
    let old = c.args.values.now.items in
    let is = c.index.ensures ∙ get_or_default items r two (0, 0) (rw places.readers_all lt) in
    let are : AreReaders m r two = subst (AreReaders m r) (sym is) (places.readers_are r lt) in
    let s0 = c.share_out-deed.result.1 in
    let s1 = c.put_right.new.share in
    let s2 = c.put_right-2.new.share in
    let x = Some (Share (record s0 { parts = 1 })) in
    let y = Some (Share (record s1 { parts = 1 })) in
    let z = Some (Original c.share_out-deed.result.0 s2) in
    let out = c.share_out-deed.ensures in
    let one = c.put_right.ensures in
    let other = c.put_right-2.ensures in
    let e : c.args.places.now.pairs ≡ length m.pairs = places.pairs in
    shares_region m r two are lt old _ all z s0 s1 s2 c.args.whole.value (box_allocator c.args.whole)
    (ap (λ vs. slice_set vs (c.args.places.now.pairs + r) z) (other.put ∙ ap (λ vs. with_right c.args.places.now.pairs vs two.1 y) one.put) ∙ ap (λ n. slice_set (with_right n (with_right n old two.0 x) two.1 y) (n + r) z) e)
    refl out.value.0 (ap (λ a. Some a) out.alloc) refl refl out.value.1 out.same out.all one.same.1 one.same.0 (ap (λ n. s1.parts + cond {A = ℕ} (nat_lt two.0 n) 1 0) (sym e) ∙ one.left) other.same.0 (ap (λ n. s2.parts + cond {A = ℕ} (nat_lt two.1 n) 1 0) (sym e) ∙ other.left)
