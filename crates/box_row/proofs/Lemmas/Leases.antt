-- A lease, and the right that holds one, as the machine stores them. Assumes `Logic`.
--     Leased, Held      their types
--     leased, held      their machine values.        good, held_good      each has its type
use Rattle.std.proofs.Common.{T, [], ◌∷◌}
use seplogic.Ra.Ura.{Ura}
use mir.Val.{Val, WT, has_ty}
use types.Logic.{Logic}
use denote.Laws.{Is}
use denote.Param.{layout, param}
use denote.Param.Laws.{Laws, param_laws}
use denote.RattleType.{RattleType}
use Rattle.core.specs.contracts.slots.Lease as lease
use Rattle.core.proofs.slots.Lease.TheLaws as lease-laws
use Rattle.std_heap.specs.contracts.Global as heap
use Rattle.std_heap.specs.contracts.GlobalAllocator.TheImpl.{ghosts}
use Rattle.std_heap.proofs.Global.TheLaws as heap-laws
use Rattle.box_row.specs.contracts.right.Right as right
use Rattle.box_row.proofs.right.Right.TheLaws as right-laws

module _ (X : RattleType) (L : Laws X) where
  abbrev R : RattleType
  R = param 0 X

  abbrev RL : Laws R
  RL = param_laws 0 X L

  abbrev pub Leased : RattleType
  Leased = lease.the_row R heap.the_row ghosts

  abbrev pub Held : RattleType
  Held = right.the_row R

  abbrev pub leased : Leased.Denot → Val
  leased = lease-laws.lowered R heap.the_row ghosts RL heap-laws.the_row_laws

  abbrev pub held : Held.Denot → Val
  held = right-laws.lowered R RL

  module _ {M : Type 1} {𝓤 : Ura M} (𝓛 : Logic 𝓤) where
    pub good : (d : Leased.Denot) → Is Leased d (leased d ∷ []) → T (has_ty (layout Leased) (leased d)) × WT (leased d)
    good d is = (((lease-laws.the_row_laws R heap.the_row ghosts RL heap-laws.the_row_laws).lawful 𝓛).typed d (leased d ∷ []) is).0

    pub held_good : (d : Held.Denot) → Is Held d (held d ∷ []) → T (has_ty (layout Held) (held d)) × WT (held d)
    held_good d is = (((right-laws.the_row_laws R RL).lawful 𝓛).typed d (held d ∷ []) is).0
