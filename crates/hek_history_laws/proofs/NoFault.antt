-- What a transcript without a fault has: end times that differ, an order by them, and replies that are right in turn.
use Rattle.std.proofs.Common.{◌≡◌, ℕ, zero, suc, true, List, [], ◌∷◌, Option, Some, refl, subst, take}
use Rattle.std.specs.Prelude.{is_some, slice_get, map}
use Rattle.hek_rules.specs.declared.event.Level.{Level}
use Rattle.hek_rules.specs.declared.event.Level.TheVariants.{Serializable}
use Rattle.hek_rules.specs.declared.event.Event.{Event}
use Rattle.hek_rules.specs.declared.reply.Reply.{Reply}
use Rattle.hek_rules.specs.declared.serial.Verdict.TheVariants.{Serial}
use Rattle.hek_rules.specs.Events.{txn_of}
use Rattle.hek_rules.specs.Recorded.{Recorded}
use Rattle.hek_rules.specs.Serial.{lay_all as laid, write_of, writes_of, is_of, serial_order, serial_rows, IsRightAt, AreRight as AreRightIn}
use Rattle.hek_rules.specs.Faults.{put_all, level_of, is_declared, IsRight, IsRightIf, IsVerdict}
use Rattle.hek_laws.specs.Rows.{AreRising}
use Rattle.hek_laws.proofs.Worlds.Histories.{lay_all-append}
use Rattle.hek_serial.specs.Leveled.{at_level}
use Rattle.hek_serial.proofs.Orders.{IsEnder, enders_of}
use Rattle.hek_serial.proofs.Verdicts.{is_of-to}
use Rattle.hek_history_laws.proofs.EndTimes.{AreApart, ends_apart}
use Rattle.hek_history_laws.proofs.InOrder.{times_rise, in-from}

-- ---- from the places of a history to its entries in turn

right_along : (level : Level) (buckets t : ℕ) (rows : List (ℕ × ℕ)) (h : List (Event × Reply)) →
    ((i : ℕ) (p : Event × Reply) → slice_get h i ≡ Some p → is_of t p.0 ≡ true → IsRightAt level buckets (laid (writes_of t (take i h)) rows) p.0 p.1) → AreRightIn level buckets t rows h
right_along level buckets t rows [] right = tt
right_along level buckets t rows (p ∷ ps) right = (
  right zero p refl,
  right_along level buckets t (laid (write_of t p.0 p.1) rows) ps
      (λ i q there mine. subst (λ (left : List (ℕ × ℕ)). IsRightAt level buckets left q.0 q.1) (lay_all-append (write_of t p.0 p.1) (writes_of t (take i ps)) rows) (right (suc i) q there mine)),
)

-- each declared transaction has the level of all
level_is : (levels : List Level) (level : Level) (t : ℕ) → is_some (level_of (map (λ _. level) levels) t) ≡ true → level_of (map (λ _. level) levels) t ≡ Some level
level_is levels level zero e = cc
level_is [] level (suc i) e = cc
level_is (x ∷ xs) level (suc zero) e = refl
level_is (x ∷ xs) level (suc (suc i)) e = level_is xs level (suc i) e

pub ender_of : (s : Recorded) (n : ℕ) (x : ℕ × ℕ) → slice_get (serial_order s.history) n ≡ Some x → IsEnder s.history x
ender_of s n x there = enders_of s.history x (in-from (serial_order s.history) n x there)

module _ (s : Recorded) (serial : IsVerdict (at_level Serializable s) Serial) where
  right_at : (i : ℕ) (p : Event × Reply) → slice_get s.history i ≡ Some p → IsRight (at_level Serializable s) i p.0 p.1
  right_at i p there = subst (IsRightIf (at_level Serializable s) i) there (serial i)

  pub ends_are_apart : AreApart s.history
  ends_are_apart = ends_apart s.history (λ i e r there. (right_at i (e, r) there).commits)

  pub order_rises : AreRising (serial_order s.history)
  order_rises = times_rise s.history ends_are_apart

  pub right_in_turn : (x : ℕ × ℕ) → IsEnder s.history x → AreRightIn Serializable s.buckets x.1 (serial_rows s.history (put_all s.rows []) x.0) s.history
  right_in_turn x end =
      right_along Serializable s.buckets x.1 (serial_rows s.history (put_all s.rows []) x.0) s.history
      (λ i p there mine.
      let right = right_at i p there in
      let of : txn_of p.0 ≡ Some x.1 = is_of-to p.0 x.1 mine in
      let declared : is_some (level_of (map (λ _. Serializable) s.levels) x.1) ≡ true = subst (λ (o : Option ℕ). is_declared (map (λ _. Serializable) s.levels) o ≡ true) of right.declared in
      right.replies x.1 x.0 Serializable of (level_is s.levels Serializable x.1 declared) end.committed end.end)
