-- The form of a reply; replies with a list: the pairs of a scan, the members of a cycle.
use Rattle.hek_rules.specs.declared.form.ReplyForm.{ReplyForm}
use Rattle.hek_rules.specs.declared.form.ReplyForm.TheVariants as form
use Rattle.hek_rules.specs.declared.reply.Reply.{Reply}
use Rattle.hek_rules.specs.declared.reply.Reply.TheVariants.{Rows, Victim}
use Rattle.hek_rules.specs.declared.reply.Reply.TheVariants as reply
use Rattle.hek_rules.specs.declared.reply.ReplyParts.{ReplyParts}
use Rattle.hek_rules.specs.declared.reply.ReplyParts.TheVariants as part

abbrev pub form_of : Reply → ReplyForm
form_of (reply.Began time) = form.Began
form_of (reply.Found value) = form.Found
form_of reply.Absent = form.Absent
form_of (reply.Rows pairs) = form.Rows
form_of reply.Done = form.Done
form_of reply.Exists = form.Exists
form_of reply.Ready = form.Ready
form_of (reply.Waiting count) = form.Waiting
form_of (reply.WaitingCommits count) = form.WaitingCommits
form_of (reply.Precommitted time) = form.Precommitted
form_of (reply.ReleasedRead v writer) = form.ReleasedRead
form_of (reply.ReleasedBucket b) = form.ReleasedBucket
form_of (reply.ReleasedWaiter u) = form.ReleasedWaiter
form_of reply.Nothing = form.Nothing
form_of reply.Committed = form.Committed
form_of reply.Failed = form.Failed
form_of (reply.StampedBegin v) = form.StampedBegin
form_of (reply.StampedEnd v) = form.StampedEnd
form_of (reply.Left v) = form.Left
form_of reply.Over = form.Over
form_of reply.NoCycle = form.NoCycle
form_of (reply.Victim t cycle) = form.Victim
form_of (reply.Aborted cause) = form.Aborted
form_of (reply.Refused why) = form.Refused

abbrev pub HasList : Reply → Type 0
HasList (Rows pairs) = Unit {0}
HasList (Victim t cycle) = Unit {0}
HasList r = ⊥

-- the reply that these parts make
abbrev pub whole : ReplyParts → Reply
whole (part.Plain r) = r
whole (part.Rows pairs) = Rows pairs.now
whole (part.Victim t members) = Victim t members.now
