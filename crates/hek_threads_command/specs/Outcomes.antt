-- The outcome of a run in threads.
use Rattle.std.specs.Prelude.{List, [], ◌∷◌}
use Rattle.hek_rules.specs.declared.event.Cause.TheVariants as cause
use Rattle.hek_rules.specs.declared.event.Event.{Event}
use Rattle.hek_rules.specs.declared.reply.Reply.{Reply}
use Rattle.hek_rules.specs.declared.reply.Reply.TheVariants.{Nothing, Committed, Failed, Aborted}

-- how a transaction ends with a reply, or by a later one
abbrev pub ending_reply_or : Reply → Reply → Reply
ending_reply_or Committed later = Committed
ending_reply_or (Aborted why) later = Aborted why
ending_reply_or Failed later = Aborted cause.Asked
ending_reply_or r later = later

-- how a transaction ends by these events and replies
abbrev pub ending_reply : List (Event × Reply) → Reply
ending_reply [] = Nothing
ending_reply (x ∷ xs) = ending_reply_or x.1 (ending_reply xs)
