-- A word of the store changes as its version does in the world.
use Rattle.std.proofs.Common.{◌≡◌, ℕ, ◌<◌, List, refl, ◌∙◌, ap, sym, subst, arith, ⊎_elim, length, length-set, get_or-set_same, get_or-set_other}
use Rattle.std.proofs.lemmas.Bool.{cases_eq}
use Rattle.std.specs.Prelude.{slice_set}
use Rattle.hek_rules.specs.declared.word.BeginRecord.{BeginRecord}
use Rattle.hek_rules.specs.declared.word.EndRecord.{EndRecord}
use Rattle.hek_rules.specs.World.{Version, Ender, version_in}
use Rattle.hek_rules.specs.Waits.{readers}
use Rattle.hek_rules.specs.Shown.{end_word_by}
use Rattle.hek_rules.specs.Locks.{with_ender, set_ender}
use Rattle.hek_rules.specs.Table.{set_creator}
use Rattle.hek_store.specs.declared.version.Version.{Version as StoredVersion}
use Rattle.hek_store.specs.Stored.{Stored, version_at, no_version, with_begin_word, with_end_word}
use Rattle.hek_refinement.specs.Shows.{ShowsStore, version_shown}
use Rattle.hek_refinement.proofs.Counts.{SameBut, version-set_same, version-set_other}

-- the word of a version is shown with the count of its readers
pub word-shown : (s : Stored) (n : ℕ) (vs : List Version) (R : List (ℕ × ℕ)) (v : ℕ) → ShowsStore s n vs R → (version_at s v).end ≡ end_word_by (readers R v) (version_in vs v).ender
word-shown s n vs R v h = ap (λ (x : StoredVersion). x.end) (h.versions v)

pub begin-shown : (s : Stored) (n : ℕ) (vs : List Version) (R : List (ℕ × ℕ)) (v : ℕ) → ShowsStore s n vs R → (version_at s v).begin ≡ (version_in vs v).creator
begin-shown s n vs R v h = ap (λ (x : StoredVersion). x.begin) (h.versions v)

-- the store shows the world after the version at one place changes
shows-set : (s : Stored) (n : ℕ) (vs ys : List Version) (R S : List (ℕ × ℕ)) (v : ℕ) (x : StoredVersion) → SameBut R S vs ys v →
    x ≡ version_shown (readers S v) (version_in ys v) → ShowsStore s n vs R → ShowsStore (record s { versions = slice_set s.versions v x }) n ys S
shows-set s n vs ys R S v x same is h = record {
  buckets = h.buckets;
  count = length-set s.versions v x ∙ h.count ∙ sym same.long;
  versions = λ j.
      ⊎_elim
      (λ e. subst (λ k. version_at (record s { versions = slice_set s.versions v x }) k ≡ version_shown (readers S k) (version_in ys k)) (sym e)
      (get_or-set_same s.versions v x no_version (let c = h.count in let l = same.there in omega (arith, c, l)) ∙ is))
      (λ ne. get_or-set_other s.versions v j x no_version ne ∙ h.versions j
      ∙ ap (λ k. version_shown k (version_in vs j)) (sym (same.counts j ne))
      ∙ ap (version_shown (readers S j)) (sym (same.versions j ne)))
      (cases_eq j v);
}

-- the store shows the world after an End word changes
pub shows-end : (s : Stored) (n : ℕ) (vs ys : List Version) (R S : List (ℕ × ℕ)) (v : ℕ) (word : EndRecord) (e : Ender) → SameBut R S vs ys v →
    version_in ys v ≡ with_ender (version_in vs v) e → word ≡ end_word_by (readers S v) e → ShowsStore s n vs R → ShowsStore (with_end_word s v word) n ys S
shows-end s n vs ys R S v word e same here is h =
    shows-set s n vs ys R S v (record (version_at s v) { end = word }) same
    (ap (λ (x : StoredVersion). record x { end = word }) (h.versions v)
    ∙ ap (λ z. record (version_shown (readers R v) (version_in vs v)) { end = z }) is
    ∙ ap (version_shown (readers S v)) (sym here)) h

pub same-set : (R : List (ℕ × ℕ)) (vs : List Version) (v : ℕ) (x : Version) → v < length vs → SameBut R R vs (slice_set vs v x) v
same-set R vs v x l = record {
  there = l;
  long = length-set vs v x;
  versions = λ j ne. version-set_other vs v j x ne;
  counts = λ j ne. refl;
}

-- the store shows the world after a Begin word changes
pub shows-begin : (s : Stored) (n : ℕ) (vs : List Version) (R : List (ℕ × ℕ)) (v : ℕ) (b : BeginRecord) → v < length vs →
    ShowsStore s n vs R → ShowsStore (with_begin_word s v b) n (set_creator vs v b) R
shows-begin s n vs R v b l h =
    shows-set s n vs (set_creator vs v b) R R v (record (version_at s v) { begin = b }) (same-set R vs v _ l)
    (ap (λ (x : StoredVersion). record x { begin = b }) (h.versions v)
    ∙ ap (version_shown (readers R v)) (sym (version-set_same vs v (record (version_in vs v) { creator = b }) l))) h

pub set_ender-same : (vs : List Version) (v : ℕ) (e : Ender) → v < length vs → version_in (set_ender vs v e) v ≡ with_ender (version_in vs v) e
set_ender-same vs v e l = version-set_same vs v (with_ender (version_in vs v) e) l
