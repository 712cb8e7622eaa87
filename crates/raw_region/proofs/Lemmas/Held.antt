-- A host's words by value, and the block behind them. Assumes `Logic`.
--     word, fields             a value as the machine stores it, and its fields
--     host_in, host_out        a value is what stands behind its pointer
--     opened                   a block's parts: its length is small, and it has a place
use mathlib.Core.Path.{◌≡◌, refl}
use mathlib.Core.Bool.{Bool}
use mathlib.Core.List.{List, [], ◌∷◌}
use Prim.Native.Nat.{ℕ, ◌<◌, ◌^◌}
use native.Mathlib.Omega.{arith}
use seplogic.Ra.Ura.{Ura}
use base.Fraction.{full_share}
use base.Logic.{id⊢}
use base.Fml.{ftrue}
use mir.Syntax.{w64}
use mir.Val.{Val, vbool, vint, vstruct, vcons, vnil}
use types.Logic.{Logic}
use types.Kit.{Goal, Seq, Step, step, Item, ‵, ◌$◌, move, drop, fsplit, fjoin, fpack, flt_l, flt_i}
use denote.Array.{Array}
use denote.Builtin.{u64}
use denote.RattleType.{RattleType}
use denote.RawPtr.{Ptr, block_ptr, ptr_val, lies_at, in_a_block}
use denote.Shadow.{pure_i}
use denote.Steps.{nothing}
use denote.Struct.Struct.{Struct}
use denote.Struct.Owning.{shape}
use Rattle.core.specs.declared.option.Option.TheVariants.{None}
use Rattle.raw_region.specs.Block.{block_owns, held_block}
use Rattle.raw_region.specs.contracts.host.HostWords as Host
use Rattle.raw_region.specs.contracts.host.HostWords.TheInside as Inside

abbrev pub word : Bool → Ptr → ℕ → Val
word t p n = vstruct (vcons (vbool t) (vcons (ptr_val p) (vcons (vint w64 n) vnil)))

abbrev Words : RattleType
Words = Struct (shape Inside.the_type)

module _ {M : Type 1} {𝓤 : Ura M} {𝓛 : Logic 𝓤} {K : Type 0} {Γ : List (Item 𝓤)} {G : Goal 𝓤 𝓛.H} where
  pub host_in : K → (t : Bool) (p : Ptr) (n : ℕ) (ws : List ℕ) → n < 2 ^ 64
      → Step K 𝓛 (‵ (Host.the_row.own_val (t, p, n, ws) (word t p n ∷ [])) ∷ Γ) G (‵ (held_block t p n ws) ∷ Γ) G
  host_in k t p n ws fits = step (λ s.
      pure_i k (Words.own_val (t, (p, (n, tt))) (word t p n ∷ [])) (λ vss. (tt, (tt, (tt, ((tt, tt), tt))))) ((vbool t ∷ [], (ptr_val p ∷ [], (vint w64 n ∷ [], tt))), (refl, (refl, (refl, ((refl, fits), tt))))) $ fjoin k $
      nothing k $ fpack k ((Host.the_view (Host.the_inverse (t, p, n, ws)) ≡ (t, p, n, ws)) × Host.the_invariant (Host.the_inverse (t, p, n, ws))) (λ _. ftrue) (refl, tt) $ move k (1 ∷ 0 ∷ []) $ fjoin k $ s)

  pub host_out : K → (t : Bool) (p : Ptr) (n : ℕ) (ws : List ℕ) → Step K 𝓛 (‵ (held_block t p n ws) ∷ Γ) G (‵ (Host.the_row.own_val (t, p, n, ws) (word t p n ∷ [])) ∷ Γ) G
  host_out k t p n ws = step (λ s. fsplit k $ fsplit k $ drop k $ move k (1 ∷ []) $ drop k $ s)

  pub opened : K → (p : Ptr) (n : ℕ) (ws : List ℕ)
      → ((b o : ℕ) → p ≡ block_ptr b o → n < 2 ^ 64 → Seq K 𝓛 (‵ (block_owns None (block_ptr b o) n ws) ∷ Γ) G) → Seq K 𝓛 (‵ (block_owns None p n ws) ∷ Γ) G
  opened k p n ws next =
      fsplit k $ flt_l k (λ most. let fits : n < 2 ^ 64 = omega arith in fsplit k $
      in_a_block k p (λ q. lies_at (Array u64 n) full_share q ws) (id⊢ 𝓤 _) (λ b o e. fjoin k $ flt_i k n (2 ^ 60) most $ fjoin k $ next b o e fits))
