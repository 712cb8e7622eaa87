-- The results of parsing a reply.
use Rattle.std.specs.Prelude.{◌≡◌, ◌≢◌, ℕ, IsTrue, List, Option, MatchOption}
use Rattle.scheduler.specs.Schedule.{is_reply_to, is_line_reply}
use Rattle.scheduler.specs.CallText.{reply_text}
use Rattle.history.specs.ScheduleText.{line_reply_text}
use Rattle.scheduler.specs.declared.event.Event.{Event}
use Rattle.scheduler.specs.declared.reply.Reply.{Reply}

-- these bytes are the text of this reply to the event, or of none
abbrev pub ReadsReply : Event → List ℕ → Option Reply → Type 0
ReadsReply event word result =
    MatchOption result
    ((reply : Reply) → IsTrue (is_reply_to event reply) → word ≢ reply_text reply)
    (λ reply. IsTrue (is_reply_to event reply) × (word ≡ reply_text reply))

-- the same, if the reply may be left open
abbrev pub ReadsLineReply : Event → List ℕ → Option (Option Reply) → Type 0
ReadsLineReply event word result =
    MatchOption result
    ((reply : Option Reply) → IsTrue (is_line_reply event reply) → word ≢ line_reply_text reply)
    (λ reply. IsTrue (is_line_reply event reply) × (word ≡ line_reply_text reply))
