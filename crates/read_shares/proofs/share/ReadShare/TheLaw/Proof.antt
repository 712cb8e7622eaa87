-- A `&` to a share lends its token, and what can be read for the whole term. Assumes `Logic`.
use denote.RattleType.{RattleType}
use denote.Param.Laws.{Laws}
use denote.Param.Shared.{copy_shared}
use denote.Struct.Field.{RawPtr-field}
use denote.Struct.Laws.{RawPtr-copy}
use denote.Struct.Lending.{of_Lends, lent_at, lent_at_shr_laws}
use Rattle.read_shares.specs.contracts.share.ReadShare as C
use Rattle.read_shares.proofs.Lemmas.Lending.{lent_laws, Lends_share}
use Rattle.read_shares.proofs.share.ReadShare.TheLaw.Statement.{statement}

pub shares : (T : RattleType) (L : Laws T) → statement T L
shares T L = of_Lends (C.struct T) (C.the_codes T.Denot T.coded) (C.the_heap T) (C.the_lent T)
    (λ d p. lent_laws (lent_at T d.at d.value) (lent_at_shr_laws T L.shr_laws d.at d.value) d.origin)
    (copy_shared RawPtr-field RawPtr-copy, tt)
    (λ M 𝓤 𝓛 d p. Lends_share (lent_at T d.at d.value) (lent_at_shr_laws T L.shr_laws d.at d.value) 𝓛 d.origin d.parts (C.the_row T).lives)
