-- The words of a version that exists, and what they say: sights and refusals by words are those of the world.
use Rattle.std.proofs.Common.{◌≡◌, ℕ, Bool, true, false, ◌∙◌, ap, sym, Option, Some, None, length}
use Rattle.std.specs.Prelude.{if◌then◌else◌, nat_lt}
use Rattle.hek_rules.specs.declared.event.Cause.{Cause}
use Rattle.hek_rules.specs.declared.event.Sight.{Sight}
use Rattle.hek_rules.specs.declared.word.BeginRecord.{BeginRecord}
use Rattle.hek_rules.specs.declared.word.EndRecord.{EndRecord}
use Rattle.hek_rules.specs.World.{World}
use Rattle.hek_rules.specs.Shown.{begin_word, end_word, ender_of}
use Rattle.hek_rules.specs.Visibility.{sight, sight_by}
use Rattle.hek_rules.specs.Walk.{read_time}
use Rattle.hek_rules.specs.Locks.{no_read_lock, no_write_lock, reads_freely, write_refusal}
use Rattle.hek_store.specs.Stored.{version_at}
use Rattle.hek_locks.specs.Locked.{cleared_word, word_refusal}
use Rattle.hek_refinement.proofs.Stores.{word-shown, begin-shown}
use Rattle.hek_refinement.proofs.Sights.{sight-same, read-refused, write-refused}
use Rattle.hek_refinement.proofs.ReadLocks.{free-same}
use Rattle.hek_machine.specs.declared.engine.Engine.{Engine}
use Rattle.hek_machine.specs.Stands.{StandsFor}
use Rattle.hek_machine.specs.Observed.{of_version}
use Rattle.hek_why.proofs.Sounds.{sound_of}

-- what a machine shows of a version that exists
pub at_version : {X : Type 0} (f : World → ℕ → X) (w : World) (v : ℕ) (x : X) → of_version f v w ≡ Some x → f w v ≡ x
at_version f w v x h = by (nat_lt v (length w.versions)) h
  where
    by : (b : Bool) → (if b then Some (f w v) else None) ≡ Some x → f w v ≡ x
    by true e = cc
    by false e = cc

-- the sight by the words of a version is the sight in the world
pub sees : (m : Engine) (w : World) (t v rt : ℕ) (b : BeginRecord) (e : EndRecord) (r : Sight) → StandsFor m w →
    of_version begin_word v w ≡ Some b → of_version end_word v w ≡ Some e → read_time w t ≡ rt → sight_by w.txns t rt b (ender_of e) ≡ r → sight w t (read_time w t) v ≡ r
sees m w t v rt b e r s begins ends at seen =
    sym (sight-same m.store m.txns w t (read_time w t) v (sound_of m w s) s.shows.store s.shows.txns)
    ∙ ap (λ ts. sight_by ts t (read_time w t) (version_at m.store v).begin (ender_of (version_at m.store v).end)) s.shows.txns.cores
    ∙ ap (λ x. sight_by w.txns t (read_time w t) x (ender_of (version_at m.store v).end)) (begin-shown m.store w.buckets w.versions w.read_locks v s.shows.store ∙ at_version begin_word w v b begins)
    ∙ ap (λ x. sight_by w.txns t (read_time w t) b (ender_of x)) (word-shown m.store w.buckets w.versions w.read_locks v s.shows.store ∙ at_version end_word w v e ends)
    ∙ ap (λ x. sight_by w.txns t x b (ender_of e)) at ∙ seen

-- a read lock refused by the End word is refused in the world
pub read_refused_by : (m : Engine) (w : World) (t v : ℕ) (e f : EndRecord) (r : Option Cause) → StandsFor m w → reads_freely w t v ≡ false →
    of_version end_word v w ≡ Some e → cleared_word w.txns e ≡ f → word_refusal w.txns f ≡ r → no_read_lock w t v ≡ r
read_refused_by m w t v e f r s locks ends clears refuses =
    sym (read-refused m.store m.txns w t v (sound_of m w s) s.shows.store s.shows.txns)
    ∙ ap (λ b. if b then None else word_refusal m.txns.cores (cleared_word m.txns.cores (version_at m.store v).end)) (free-same m.store m.txns w t v s.shows.store s.shows.txns ∙ locks)
    ∙ ap (λ ts. word_refusal ts (cleared_word ts (version_at m.store v).end)) s.shows.txns.cores
    ∙ ap (λ x. word_refusal w.txns (cleared_word w.txns x)) (word-shown m.store w.buckets w.versions w.read_locks v s.shows.store ∙ at_version end_word w v e ends)
    ∙ ap (word_refusal w.txns) clears ∙ refuses

pub write_refused_by : (m : Engine) (w : World) (v : ℕ) (e f : EndRecord) (r : Option Cause) → StandsFor m w →
    of_version end_word v w ≡ Some e → cleared_word w.txns e ≡ f → write_refusal (ender_of f) ≡ r → no_write_lock w v ≡ r
write_refused_by m w v e f r s ends clears refuses =
    sym (write-refused m.store m.txns w v (sound_of m w s) s.shows.store s.shows.txns)
    ∙ ap (λ ts. write_refusal (ender_of (cleared_word ts (version_at m.store v).end))) s.shows.txns.cores
    ∙ ap (λ x. write_refusal (ender_of (cleared_word w.txns x))) (word-shown m.store w.buckets w.versions w.read_locks v s.shows.store ∙ at_version end_word w v e ends)
    ∙ ap (λ x. write_refusal (ender_of x)) clears ∙ refuses
