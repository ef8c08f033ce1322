-- Runs from similar worlds, and committed rows of similar worlds.
use Rattle.std.proofs.Common.{◌≡◌, ℕ, ◌+◌, ◌<◌, ◌≤◌, [], ◌∷◌, Some, None, refl, ◌∙◌, ap, sym, subst, arith}
use Rattle.std.proofs.lemmas.List.Elements.{All-head, All-tail}
use Rattle.std.specs.List.{All}
use Rattle.std.specs.Prelude.{map, not, ◌&&◌}
use Rattle.hek_rules.specs.declared.event.Event.{Event}
use Rattle.hek_rules.specs.declared.reply.Reply.{Reply}
use Rattle.hek_rules.specs.declared.word.BeginRecord.{BeginRecord}
use Rattle.hek_rules.specs.declared.word.BeginRecord.TheVariants.{At, By}
use Rattle.hek_rules.specs.World.{World, Version, Txn, Ender, EndedAt, Held, places, is_committed}
use Rattle.hek_rules.specs.Run.{next, reply, run, transcript}
use Rattle.hek_rules.specs.Shown.{was_made, lasts, committed_rows}
use Rattle.hek_rules.specs.Table.{pairs_of}
use Rattle.hek_laws.specs.Runs.{IsPlaced}
use Rattle.hek_laws.proofs.Table.Unchanged.{apply_all-times}
use Rattle.hek_laws.proofs.Table.WorldSteps.{each_step}
use Rattle.hek_laws.proofs.Worlds.Fixed.{fixed-next}
use Rattle.hek_laws.proofs.Runs.Reachable.{reachable-sound, next-reachable}
use Rattle.hek_similar.specs.Similar.{Similar, timeless_creator, timeless_ender, timeless_step, timeless_reply}
use Rattle.hek_similar.specs.Laws.{SimilarRunsAnswerAlike, SimilarWorldsHaveSameRows}
use Rattle.hek_similar.proofs.Lists.{same-txn, places-same}
use Rattle.hek_similar.proofs.Alike.{Alike, comes-timeless}
use Rattle.hek_similar.proofs.Data.{same-pairs}
use Rattle.hek_similar.proofs.Agree.{similar-alike}
use Rattle.hek_similar.proofs.Events.{worlds-alike}

-- ---- runs
-- an event draws at most one time
pub clock-next : (w : World) (e : Event) → 0 < w.buckets → IsPlaced w.buckets e → (next w e).clock ≤ w.clock + 1
clock-next w e some placed = each_step w (λ y. y.clock ≤ w.clock + 1) some (record {
  same = omega arith;
  aborts = λ t cause _. omega arith;
  begins = λ t _. omega arith;
  walks = λ t p bucket test es _. omega (arith, (apply_all-times t w es).clock);
  adds = λ t p bucket test es key value _. omega (arith, (apply_all-times t w es).clock);
  finishes = λ t _. omega arith;
  prepares = λ t _ _. omega arith;
  drops = λ t v _. omega arith;
  unlocks = λ t b _. omega arith;
  frees = λ t u _. omega arith;
  commits = λ t _ _. omega arith;
  stamps_begin = λ t v time es _. omega arith;
  stamps_end = λ t v es _ _. omega arith;
  gives_back = λ t v es cause _ _. omega arith;
  ends = λ t _ _. omega arith;
}) e placed

pub runs-alike : SimilarRunsAnswerAlike
runs-alike w x [] s rw' rx placed some left = (refl, s)
runs-alike w x (e ∷ es) s here there placed some left =
    let buckets : w.buckets ≡ x.buckets = ap (λ (y : World). y.buckets) s.same in
    let first : IsPlaced w.buckets e = All-head (IsPlaced w.buckets) e es placed in
    let other : IsPlaced x.buckets e = subst (λ n. IsPlaced n e) buckets first in
    let rest : All (IsPlaced (next w e).buckets) es = subst (λ n. All (IsPlaced n) es) (sym (fixed-next w e).buckets) (All-tail (IsPlaced w.buckets) e es placed) in
    let k : (next w e).clock ≤ w.clock + 1 = clock-next w e (reachable-sound w here).buckets first in
    let l : (next x e).clock ≤ x.clock + 1 = clock-next x e (reachable-sound x there).buckets other in
    let one : (timeless_reply (reply w e) ≡ timeless_reply (reply x e)) × Similar (next w e) (next x e)
    = worlds-alike w x e s (reachable-sound w here) (reachable-sound x there) (omega arith) (omega arith) in
    let more : (map timeless_step (transcript (next w e) es) ≡ map timeless_step (transcript (next x e) es)) × Similar (run (next w e) es) (run (next x e) es)
    = runs-alike (next w e) (next x e) es one.1 (next-reachable w e here first) (next-reachable x e there other) rest (omega arith) (omega arith) in
    (ap (λ (r : Reply). (e, r) ∷ map timeless_step (transcript (next w e) es)) one.0 ∙ ap (λ l. (e, timeless_reply (reply x e)) ∷ l) more.0, more.1)

-- ---- committed rows
made-timeless : (w : World) (c : BeginRecord) → was_made w (timeless_creator c) ≡ was_made w c
made-timeless w (At time) = comes-timeless (At time)
made-timeless w (By u) = refl

lasts-timeless : (w : World) (e : Ender) → lasts w (timeless_ender e) ≡ lasts w e
lasts-timeless w (EndedAt time) = refl
lasts-timeless w (Held writer no_more) = refl

module _ (w x : World) (a : Alike w.versions x.versions w.txns x.txns) where
  same-made : (c : BeginRecord) → was_made w c ≡ was_made x c
  same-made (At time) = refl
  same-made (By u) = ap (λ (y : Txn). is_committed y.state) (same-txn w.txns x.txns a.txns u)

  same-lasts : (e : Ender) → lasts w e ≡ lasts x e
  same-lasts (EndedAt time) = refl
  same-lasts (Held None no_more) = refl
  same-lasts (Held (Some u) no_more) = ap (λ (y : Txn). not (is_committed y.state)) (same-txn w.txns x.txns a.txns u)

  row-timeless : (y : World) (v : ℕ) (n : Version) → (was_made y (timeless_creator n.creator) && lasts y (timeless_ender n.ender)) ≡ (was_made y n.creator && lasts y n.ender)
  row-timeless y v n = ap (λ b. b && lasts y (timeless_ender n.ender)) (made-timeless y n.creator) ∙ ap (λ b. was_made y n.creator && b) (lasts-timeless y n.ender)

  row-same : (v : ℕ) (n : Version) → (was_made w n.creator && lasts w n.ender) ≡ (was_made x n.creator && lasts x n.ender)
  row-same v n = ap (λ b. b && lasts w n.ender) (same-made n.creator) ∙ ap (λ b. was_made x n.creator && b) (same-lasts n.ender)

  rows-alike : committed_rows w ≡ committed_rows x
  rows-alike =
      ap (pairs_of w.versions [])
      (places-same (λ v n. was_made w n.creator && lasts w n.ender) (λ v n. was_made x n.creator && lasts x n.ender) w.versions x.versions (row-timeless w) (row-timeless x) row-same a.versions)
      ∙ same-pairs w.versions x.versions a.versions [] (places (λ v n. was_made x n.creator && lasts x n.ender) 0 x.versions)

pub same-rows : SimilarWorldsHaveSameRows
same-rows w x s = rows-alike w x (similar-alike w x s)
