-- The result of a drain as a reply.
use Rattle.scheduler.specs.declared.reply.Reply.{Reply}
use Rattle.scheduler.specs.declared.reply.Reply.TheVariants.{Last as LastReply, NotLast as NotLastReply}
use Rattle.claim_board.specs.declared.tokens.drained.Drained.{Drained}
use Rattle.claim_board.specs.declared.tokens.drained.Drained.TheVariants.{Last, NotLast}

abbrev pub reply_of : Drained → Reply
reply_of Last = LastReply
reply_of NotLast = NotLastReply
