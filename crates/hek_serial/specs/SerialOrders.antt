-- Serial orders: in which orders the committed transactions of a transcript can follow one another, all taken as
-- serializable.
use Rattle.std.specs.Prelude.{ℕ, ◌≡◌, ◌==◌, Bool, true, false, if◌then◌else◌, List, [], ◌∷◌, map}
use Rattle.std.specs.List.{list_any}
use Rattle.hek_rules.specs.declared.event.Level.TheVariants.{Serializable}
use Rattle.hek_rules.specs.declared.event.Event.{Event}
use Rattle.hek_rules.specs.declared.reply.Reply.{Reply}
use Rattle.hek_rules.specs.declared.serial.Write.{Write}
use Rattle.hek_rules.specs.declared.serial.Verdict.TheVariants.{Serial}
use Rattle.hek_rules.specs.Faults.{put_all, IsVerdict}
use Rattle.hek_rules.specs.Recorded.{Recorded}
use Rattle.hek_rules.specs.Serial.{lay_all, writes_of, serial_order, AreRight}
use Rattle.hek_laws.specs.Rows.{key_of}
use Rattle.hek_serial.specs.Leveled.{at_level}
use Rattle.hek_serial.specs.Replay.{IsPlain}
use Rattle.hek_serial.specs.declared.serializability.Serializability.{Serializability}
use Rattle.hek_serial.specs.declared.serializability.Serializability.TheVariants.{ByEndTime, InAnotherOrder, NotSerial}

-- one of the writes is of the key
abbrev pub has_key : List Write → ℕ → Bool
has_key writes key = list_any (λ (w : Write). key_of w == key) writes

-- some key is written by both
abbrev pub have_common : List Write → List Write → Bool
have_common some others = list_any (λ (w : Write). has_key others (key_of w)) some

-- t is among those that are left, and none of them that ended before it has written a key that it wrote
abbrev pub comes_next : List (Event × Reply) → List ℕ → ℕ → Bool
comes_next history [] t = false
comes_next history (u ∷ us) t = if u == t then true else if have_common (writes_of u history) (writes_of t history) then false else comes_next history us t

-- the list without the first t
abbrev pub without : ℕ → List ℕ → List ℕ
without t [] = []
without t (u ∷ us) = if u == t then us else u ∷ without t us

-- An order in which those that are left, listed by end time, can follow one another from these rows. Each gets the
-- replies that it got, and those that write one key come in the order of their end times.
abbrev pub IsSerialFrom : ℕ → List (Event × Reply) → List (ℕ × ℕ) → List ℕ → List ℕ → Type 0
IsSerialFrom buckets history rows left [] = left ≡ []
IsSerialFrom buckets history rows left (t ∷ ts) =
    (comes_next history left t ≡ true)
    × AreRight Serializable buckets t rows history
    × IsSerialFrom buckets history (lay_all (writes_of t history) rows) (without t left) ts

-- the committed transactions, by end time
abbrev pub by_end : Recorded → List ℕ
by_end s = map (λ (x : ℕ × ℕ). x.1) (serial_order s.history)

-- A serial order of a transcript: its committed transactions can follow one another in this order. Each of its events is
-- of a declared transaction, or of none, and each committed transaction drew an end time of its own before.
pub record IsSerialOrder (s : Recorded) (order : List ℕ) : Type 0 where
  pub plain : (i : ℕ) → IsPlain s.levels s.history i
  pub follows : IsSerialFrom s.buckets s.history (put_all s.rows []) (by_end s) order

-- the transcript is serial by end time, with all transactions taken as serializable
abbrev pub IsSerialByEnd : Recorded → Type 0
IsSerialByEnd s = IsVerdict (at_level Serializable s) Serial

abbrev pub IsSerializability : Recorded → Serializability → Type 0
IsSerializability s ByEndTime = IsSerialByEnd s
IsSerializability s InAnotherOrder = (IsSerialByEnd s → ⊥) × ((order : List ℕ) × IsSerialOrder s order)
IsSerializability s NotSerial = (IsSerialByEnd s → ⊥) × ((order : List ℕ) → IsSerialOrder s order → ⊥)
