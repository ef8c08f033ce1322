-- What follows the walk of a write: a reply, a new version, or a conflict.
use Rattle.std.specs.Prelude.{ℕ, ◌≡◌, ◌<◌, ◌%◌, List, length}
use Rattle.std.specs.List.{All}
use Rattle.hek_rules.specs.declared.event.Cause.TheVariants.{Conflict}
use Rattle.hek_rules.specs.declared.reply.Reply.{Reply}
use Rattle.hek_rules.specs.declared.reply.Reply.TheVariants as reply
use Rattle.hek_rules.specs.World.{World, bucket_of}
use Rattle.hek_rules.specs.Locks.{add_version}
use Rattle.hek_rules.specs.Walk.{Judgement, Refuse, Allow, Purpose, walk, apply_all, of_key, seen_of}
use Rattle.hek_rules.specs.Table.{Outcome, aborted, is_claimed}
use Rattle.hek_machine.specs.declared.engine.Engine.{Engine}
use Rattle.hek_machine.specs.Stands.{StandsFor}
use Rattle.hek_machine.specs.Walked.{AreVersionPlaces}

-- the walk of t over all versions of a key
abbrev pub key_walk : World → ℕ → Purpose → ℕ → Judgement
key_walk w t purpose key = walk w t purpose (bucket_of w key) (of_key w key)

-- versions of a key that suffice for t: its walk, what it sees, and what others claim are those of all versions of the
-- key
pub record AreEnough (m : Engine) (t key : ℕ) (vs : List ℕ) : Type 0 where
  pub below : All (λ v. v < length m.store.versions) vs
  pub places : AreVersionPlaces m (key % m.store.buckets) vs
  pub walked : (w : World) (purpose : Purpose) → StandsFor m w → walk w t purpose (bucket_of w key) vs ≡ key_walk w t purpose key
  pub seen : (w : World) → StandsFor m w → seen_of w t vs ≡ seen_of w t (of_key w key)
  pub claimed : (w : World) → StandsFor m w → is_claimed w t vs ≡ is_claimed w t (of_key w key)

-- the outcome of a walk that then has this answer
abbrev pub after_walk : World → ℕ → Reply → Judgement → Outcome
after_walk w t answer (Refuse cause) = aborted w t cause
after_walk w t answer (Allow effects) = record { reply = answer; world = apply_all t w effects }

-- the outcome of a walk after which t makes a version
abbrev pub after_making : World → ℕ → ℕ → ℕ → Judgement → Outcome
after_making w t key value (Refuse cause) = aborted w t cause
after_making w t key value (Allow effects) = record { reply = reply.Done; world = add_version (apply_all t w effects) t key value }

-- the outcome of a walk after which t aborts by Conflict, unless the walk is refused
abbrev pub after_conflict : World → ℕ → Judgement → Outcome
after_conflict w t (Refuse cause) = aborted w t cause
after_conflict w t (Allow effects) = aborted w t Conflict
