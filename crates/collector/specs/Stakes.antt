-- What the shares of a session have of it.
use Rattle.std.specs.Prelude.{◌≡◌, ◌+◌, ◌≤◌, ◌<◌, ℕ, List, [], All, Option, Some, is_some, not, true, slice_index_or, vec_len}
use Rattle.std.specs.Option.{ForSome}
use Rattle.read_shares.specs.Parts.{all_parts}
use Rattle.read_shares.specs.declared.share.ReadShare.{ReadShare}
use Rattle.claim_board.specs.declared.pass.Pass.{Pass}
use Rattle.claim_board.specs.Boards.{board_of}
use Rattle.claim_board.specs.RegionBoards.{identity, original_words}
use Rattle.object_heap.specs.HeapImage.{region_count}
use Rattle.collector.specs.Rest.{Rests, AreOf}
use Rattle.collector.specs.SessionIds.{SessionHeap, SessionView}
use Rattle.collector.specs.declared.workers.worker.Worker.{Worker}
use Rattle.collector.specs.declared.session.Session.{Session}
use Rattle.collector.specs.declared.session.stake.SessionDeed.{SessionDeed}
use Rattle.collector.specs.declared.session.stake.Stake.{Stake}

-- The session compacts this heap. It has other parts of an image exactly if its objects aren't opaque.
pub record IsOfHeap (h : SessionHeap) (s : Session) : Type 0 where
  pub image : s.shared.survey ≡ h.image
  pub opaque : is_some s.shared.parts ≡ not (is_some h.held)
  pub words : (blocks : List (List ℕ)) → h.held ≡ Some blocks → (r : ℕ) → r < region_count h.image
      → original_words s.shared.desk r ≡ slice_index_or blocks r []

-- Parts of a session, a pass of its board whose worker is at rest, and in one share the right to have the session back.
pub record IsStake (id : SessionView) (n : ℕ) (session : ReadShare (Option Session)) (pass : Pass) (lead : Option SessionDeed) : Type 0 where
  pub origin : session.origin ≡ id.origin
  pub parts : session.parts ≡ n
  pub there : is_some session.value ≡ true
  pub heap : ForSome session.value (IsOfHeap id.heap)
  pub queues : ForSome session.value (λ s. id.workers ≤ vec_len s.shared.thieves)
  pub seated : ForSome session.value (λ s. board_of pass ≡ identity s.shared.desk)
  pub rests : Rests pass
  pub led : ForSome lead (λ l. (l.deed.origin ≡ id.origin) × (l.deed.value ≡ session.value)
      × (l.rest.origin ≡ id.origin) × (l.rest.parts + id.workers ≡ all_parts))

abbrev pub IsStakeOf : SessionView → ℕ → Stake → Type 0
IsStakeOf id n stake = IsStake id n stake.session stake.pass stake.lead

-- the lead of a session of which so many parts are out, and workers of it, who are at rest and have passes of its board
pub record Leads (id : SessionView) (out : ℕ) (lead : SessionDeed) (workers : List Worker) : Type 0 where
  pub deed : lead.deed.origin ≡ id.origin
  pub rest : lead.rest.origin ≡ id.origin
  pub parts : lead.rest.parts + out ≡ all_parts
  pub same : lead.deed.value ≡ lead.rest.value
  pub there : is_some lead.rest.value ≡ true
  pub heap : ForSome lead.rest.value (IsOfHeap id.heap)
  pub queues : ForSome lead.rest.value (λ s. id.workers ≤ vec_len s.shared.thieves)
  pub seated : ForSome lead.rest.value (λ s. AreOf s.shared.desk workers)
  pub at_rest : All (λ w. Rests w.seat.pass) workers
