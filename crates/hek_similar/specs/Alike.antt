-- Alike worlds: equal but for the places of their versions, the order in which different transactions came by what they
-- hold, and their times.
use Rattle.std.specs.Prelude.{◌≡◌, ℕ}
use Rattle.hek_rules.specs.declared.event.Event.{Event}
use Rattle.hek_rules.specs.declared.reply.Reply.{Reply}
use Rattle.hek_rules.specs.declared.reply.Reply.TheVariants as reply
use Rattle.hek_rules.specs.World.{World}
use Rattle.hek_similar.specs.Similar.{Similar}
use Rattle.hek_similar.specs.Places.{Renumbering, IsRenumbering, renumbered}
use Rattle.hek_similar.specs.Holdings.{Regrouped}

-- one is similar to the other renumbered, with the versions of each group in order, and regrouped
pub record Alike (group : ℕ → ℕ) (w x : World) : Type 0 where
  pub renumbering : Renumbering
  pub groups : renumbering.group ≡ group
  pub renumbers : IsRenumbering renumbering w
  pub between : World
  pub regrouped : Regrouped (renumbered renumbering w) between
  pub similar : Similar between x

-- the reply with its time and its place left out
abbrev pub bare_reply : Reply → Reply
bare_reply (reply.Began time) = reply.Began 0
bare_reply (reply.Precommitted time) = reply.Precommitted 0
bare_reply (reply.ReleasedRead v writer) = reply.ReleasedRead 0 writer
bare_reply (reply.StampedBegin v) = reply.StampedBegin 0
bare_reply (reply.StampedEnd v) = reply.StampedEnd 0
bare_reply (reply.Left v) = reply.Left 0
bare_reply answer = answer

-- an event and its reply, with the reply's time and place left out
abbrev pub bare_step : Event × Reply → Event × Reply
bare_step p = (p.0, bare_reply p.1)
