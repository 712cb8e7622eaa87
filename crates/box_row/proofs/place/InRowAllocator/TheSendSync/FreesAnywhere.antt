-- That a box lies at its place is true on any thread.
use denote.Param.Send.{Frees}
use Rattle.box_row.specs.contracts.place.InRowAllocator.TheImpl.{ghosts}

pub frees : Frees ghosts ghosts.dealloc_token
frees = record { frees = λ a τ p. λ _. tt }
