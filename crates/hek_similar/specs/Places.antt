-- Renumbered worlds: equal but for the places of their versions.
use Rattle.std.specs.Prelude.{◌≡◌, ℕ, ◌<◌, ◌≤◌, ◌%◌, List, map, length}
use Rattle.std.specs.List.{range_with_len}
use Rattle.hek_rules.specs.declared.event.Event.{Event}
use Rattle.hek_rules.specs.declared.event.Event.TheVariants.{Scan}
use Rattle.hek_rules.specs.declared.event.WriteEntry.{WriteEntry}
use Rattle.hek_rules.specs.declared.event.WriteEntry.TheVariants.{BeginOf, EndOf}
use Rattle.hek_rules.specs.declared.reply.Reply.{Reply}
use Rattle.hek_rules.specs.declared.reply.Reply.TheVariants as reply
use Rattle.hek_rules.specs.World.{World, Version, version_in}

-- the new place of each version, the old place of each new one, and the group of each key
pub record Renumbering : Type 0 where
  pub to : ℕ → ℕ
  pub from : ℕ → ℕ
  pub group : ℕ → ℕ

-- the group of the version at a place
abbrev pub group_at : (ℕ → ℕ) → World → ℕ → ℕ
group_at group w v = group (version_in w.versions v).key

-- the keys of the bucket that an event scans, if it scans one, are of one group
abbrev pub ScansGroup : (ℕ → ℕ) → ℕ → Event → Type 0
ScansGroup group buckets (Scan t bucket) = (k l : ℕ) → k % buckets ≡ bucket → l % buckets ≡ bucket → group k ≡ group l
ScansGroup group buckets e = Unit {0}

-- the versions trade places, and those of one group stay in order
pub record IsRenumbering (r : Renumbering) (w : World) : Type 0 where
  pub back : (v : ℕ) → r.from (r.to v) ≡ v
  pub forth : (v : ℕ) → r.to (r.from v) ≡ v
  pub past : (v : ℕ) → length w.versions ≤ v → r.to v ≡ v
  pub rises : (u v : ℕ) → u < v → v < length w.versions → group_at r.group w u ≡ group_at r.group w v → r.to u < r.to v

abbrev pub renumbered_versions : Renumbering → List Version → List Version
renumbered_versions r vs = map (λ v. version_in vs (r.from v)) (range_with_len 0 (length vs))

abbrev pub renumbered_lock : Renumbering → ℕ × ℕ → ℕ × ℕ
renumbered_lock r p = (p.0, r.to p.1)

abbrev pub renumbered_entry : Renumbering → WriteEntry → WriteEntry
renumbered_entry r (BeginOf v) = BeginOf (r.to v)
renumbered_entry r (EndOf v) = EndOf (r.to v)

abbrev pub renumbered_write : Renumbering → ℕ × WriteEntry → ℕ × WriteEntry
renumbered_write r p = (p.0, renumbered_entry r p.1)

-- the world with its versions, and all that names them, at the new places
abbrev pub renumbered : Renumbering → World → World
renumbered r w =
    record w {
      versions = renumbered_versions r w.versions;
      read_locks = map (renumbered_lock r) w.read_locks;
      writes = map (renumbered_write r) w.writes;
    }

-- the reply with the new place of its version, if it names one
abbrev pub renumbered_reply : Renumbering → Reply → Reply
renumbered_reply r (reply.ReleasedRead v writer) = reply.ReleasedRead (r.to v) writer
renumbered_reply r (reply.StampedBegin v) = reply.StampedBegin (r.to v)
renumbered_reply r (reply.StampedEnd v) = reply.StampedEnd (r.to v)
renumbered_reply r (reply.Left v) = reply.Left (r.to v)
renumbered_reply r answer = answer

abbrev pub renumbered_step : Renumbering → Event × Reply → Event × Reply
renumbered_step r p = (p.0, renumbered_reply r p.1)
