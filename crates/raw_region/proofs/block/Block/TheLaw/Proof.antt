-- A `&` to a block reaches its words, and the bound on their number. Assumes `Logic`.
use base.Fraction.{full_share}
use denote.Array.{Array, Array-row_laws}
use denote.Builtin.{u64}
use denote.Plain.{uint_row_laws}
use mir.Syntax.{w64}
use denote.RawPtr.{lies_at}
use denote.Sharing.{said}
use denote.SharingLaws.{said_shr_laws, beside_shr_laws}
use denote.Shares.{Shares-Array}
use denote.Param.Shared.{copy_shared}
use denote.Struct.Field.{RawPtr-field, usize-field}
use denote.Struct.Laws.{RawPtr-copy, usize-copy}
use denote.Struct.Lending.{lent_at, lent_at_shr_laws, Lends-lies, Lends-said, Lends-first, Lends-both, of_Lends}
use Rattle.raw_region.specs.Block.{right, is_length}
use Rattle.raw_region.specs.contracts.block.Block as C
use Rattle.raw_region.proofs.Lemmas.Number.{word_laws}
use Rattle.raw_region.proofs.block.Block.TheLaw.Statement.{statement}

pub shares : statement
shares = of_Lends C.struct C.the_codes C.the_heap C.the_lent
    (λ d p. beside_shr_laws (said (is_length d.len)) (lent_at (Array u64 d.len) d.at d.words) (said_shr_laws (is_length d.len) tt) (lent_at_shr_laws (Array u64 d.len) (Array-row_laws u64 (uint_row_laws w64) d.len) d.at d.words))
    (copy_shared RawPtr-field RawPtr-copy, (copy_shared usize-field usize-copy, tt))
    (λ M 𝓤 𝓛 d p.
    let l = C.the_row.lives in let R = Array u64 d.len in
    Lends-both 𝓛 (is_length d.len) _ (said (is_length d.len)) (lent_at R d.at d.words) l (Lends-said 𝓛 (is_length d.len) tt l)
    (Lends-first 𝓛 (lies_at R full_share d.at d.words) (right d.deed) (lent_at R d.at d.words) l
    (Lends-lies 𝓛 R l d.at d.words (Shares-Array 𝓛 u64 tt d.len l (word_laws.shares 𝓛) d.words))))
