-- Claims of a key: a version of another Active transaction is one at each level; at the clock no version is later.
use Rattle.std.proofs.Common.{◌≡◌, ℕ, true, false, arith, ⊎_elim}
use Rattle.std.proofs.lemmas.Bool.{and_left, and_right, or_parts, or_left, le-ltb}
use Rattle.std.specs.Prelude.{nat_lt}
use Rattle.hek_rules.specs.declared.event.Level.{Level}
use Rattle.hek_rules.specs.declared.event.Level.TheVariants.{Serializable, Repeatable, Snapshot}
use Rattle.hek_rules.specs.declared.word.BeginRecord.{BeginRecord}
use Rattle.hek_rules.specs.declared.word.BeginRecord.TheVariants.{At, By}
use Rattle.hek_rules.specs.Words.{infinity}
use Rattle.hek_rules.specs.World.{World, txn_in, is_prepared}
use Rattle.hek_rules.specs.Walk.{read_time}
use Rattle.hek_rules.specs.Table.{is_made_by_other, is_made_later, is_claim}
use Rattle.hek_laws.specs.Sound.{IsSoundCreator, TimesInOrder}
use Rattle.hek_laws.proofs.Walks.Looks.{IsNow}

-- a version of another Active transaction is a claim at each level
pub other-claims : (w : World) (t : ℕ) (l : Level) (c : BeginRecord) → is_made_by_other w.txns t c ≡ true → is_claim w t l c ≡ true
other-claims w t Serializable c y = y
other-claims w t Repeatable c y = y
other-claims w t Snapshot c y = or_left _ _ y

none-later : (w : World) (t : ℕ) (c : BeginRecord) → TimesInOrder w.clock w.txns → IsSoundCreator w c → read_time w t ≡ w.clock → is_made_later w.txns (read_time w t) c ≡ false
none-later w t (At time) times sound now =
    ⊎_elim
    (λ below. and_left (nat_lt (read_time w t) time) (nat_lt time infinity) (le-ltb (read_time w t) time (omega (arith, now, below))))
    (λ never. and_right (nat_lt (read_time w t) time) (nat_lt time infinity) (le-ltb time infinity (omega (arith, never)))) sound
none-later w t (By u) times sound now =
    let below = times.ends_below u in
    and_right (is_prepared (txn_in w.txns u).state) (nat_lt (read_time w t) (txn_in w.txns u).end) (le-ltb (read_time w t) (txn_in w.txns u).end (omega (arith, now, below)))

-- a creator that claims nothing has not made its version later
pub unclaimed-later : (w : World) (t : ℕ) (l : Level) (c : BeginRecord) → TimesInOrder w.clock w.txns → IsSoundCreator w c → (IsNow l → read_time w t ≡ w.clock) → is_claim w t l c ≡ false → is_made_later w.txns (read_time w t) c ≡ false
unclaimed-later w t Serializable c times sound now free = none-later w t c times sound (now tt)
unclaimed-later w t Repeatable c times sound now free = none-later w t c times sound (now tt)
unclaimed-later w t Snapshot c times sound now free = (or_parts (is_made_by_other w.txns t c) (is_made_later w.txns (read_time w t) c) free).1
