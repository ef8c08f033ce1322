-- The words of levels, causes and refusals in texts.
use Rattle.std.specs.Prelude.{ℕ, Bool, true, false, List, [], ◌∷◌, codes, Option, find}
use Rattle.std.specs.Str.{bytes_eq}
use Rattle.hek_rules.specs.declared.event.Level.{Level}
use Rattle.hek_rules.specs.declared.event.Level.TheVariants.{Serializable, Repeatable, Snapshot}
use Rattle.hek_rules.specs.declared.event.Cause.{Cause}
use Rattle.hek_rules.specs.declared.event.Cause.TheVariants as cause
use Rattle.hek_rules.specs.declared.reply.Refusal.{Refusal}
use Rattle.hek_rules.specs.declared.reply.Refusal.TheVariants as refusal

-- ---- levels
abbrev pub all_levels : List Level
all_levels = Serializable ∷ Repeatable ∷ Snapshot ∷ []

abbrev pub level_word : Level → List ℕ
level_word Serializable = codes "serializable"
level_word Repeatable = codes "repeatable"
level_word Snapshot = codes "snapshot"

-- the level that a word names
abbrev pub level_named : List ℕ → Option Level
level_named word = find (λ (l : Level). bytes_eq word (level_word l)) all_levels

abbrev pub is_snapshot : Level → Bool
is_snapshot Serializable = false
is_snapshot Repeatable = false
is_snapshot Snapshot = true

-- ---- causes
abbrev pub all_causes : List Cause
all_causes = cause.Cascade ∷ cause.Conflict ∷ cause.NoMoreReads ∷ cause.ReadersFull ∷ cause.NoMoreWaits ∷ cause.Deadlock ∷ cause.Asked ∷ []

abbrev pub cause_word : Cause → List ℕ
cause_word cause.Cascade = codes "cascade"
cause_word cause.Conflict = codes "conflict"
cause_word cause.NoMoreReads = codes "no-more-reads"
cause_word cause.ReadersFull = codes "readers-full"
cause_word cause.NoMoreWaits = codes "no-more-waits"
cause_word cause.Deadlock = codes "deadlock"
cause_word cause.Asked = codes "asked"

-- the cause that a word names
abbrev pub cause_named : List ℕ → Option Cause
cause_named word = find (λ (c : Cause). bytes_eq word (cause_word c)) all_causes

-- ---- refusals
abbrev pub all_refusals : List Refusal
all_refusals = refusal.UnknownTxn ∷ refusal.NotBegun ∷ refusal.BegunTwice ∷ refusal.Ended ∷ refusal.WrongPhase ∷ refusal.ClockFull ∷ []

abbrev pub refusal_number : Refusal → ℕ
refusal_number refusal.UnknownTxn = 1
refusal_number refusal.NotBegun = 2
refusal_number refusal.BegunTwice = 3
refusal_number refusal.Ended = 4
refusal_number refusal.WrongPhase = 5
refusal_number refusal.ClockFull = 6

abbrev pub refusal_name : Refusal → List ℕ
refusal_name refusal.UnknownTxn = codes "UnknownTxn"
refusal_name refusal.NotBegun = codes "NotBegun"
refusal_name refusal.BegunTwice = codes "BegunTwice"
refusal_name refusal.Ended = codes "Ended"
refusal_name refusal.WrongPhase = codes "WrongPhase"
refusal_name refusal.ClockFull = codes "ClockFull"

-- the refusal with a name
abbrev pub refusal_named : List ℕ → Option Refusal
refusal_named word = find (λ (r : Refusal). bytes_eq word (refusal_name r)) all_refusals
