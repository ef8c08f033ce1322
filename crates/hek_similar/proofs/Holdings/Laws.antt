-- The laws of regrouped worlds, and how they go with similar and renumbered ones.
use Rattle.std.proofs.Common.{[], ◌∷◌, refl, ◌∙◌, ap, sym, subst}
use Rattle.std.specs.Prelude.{map}
use Rattle.hek_rules.specs.declared.reply.Reply.{Reply}
use Rattle.hek_rules.specs.World.{World, txn_in}
use Rattle.hek_rules.specs.Run.{next, reply, transcript}
use Rattle.hek_rules.specs.Shown.{committed_rows}
use Rattle.hek_rules.specs.Listing.{seconds_of}
use Rattle.hek_rules.specs.Table.{entries_of}
use Rattle.hek_similar.specs.Similar.{Similar, LookAlike, timeless, looks_back}
use Rattle.hek_similar.specs.Places.{Renumbering, IsRenumbering, renumbered, renumbered_versions, renumbered_entry}
use Rattle.hek_similar.specs.Holdings.{Regrouped, holding}
use Rattle.hek_similar.specs.Laws.{RegroupedWorldsAnswerTheSame, RegroupedRunsAnswerTheSame, RegroupedWorldsHaveSameRows}
use Rattle.hek_similar.proofs.Holdings.Judged.{holding-is}
use Rattle.hek_similar.proofs.Holdings.Events.{outcome-equal}
use Rattle.hek_similar.proofs.Places.Renumbered.{seconds-to, entries-to}
use Rattle.hek_similar.proofs.Places.Kept.{Kept, kept, still-renumbering}

pub worlds-regrouped : RegroupedWorldsAnswerTheSame
worlds-regrouped w x e g = let o = outcome-equal w x e g in (o.reply, o.world)

pub runs-regrouped : RegroupedRunsAnswerTheSame
runs-regrouped w x [] g = (refl, g)
runs-regrouped w x (e ∷ es) g =
    let one = worlds-regrouped w x e g in
    let more = runs-regrouped (next w e) (next x e) es one.1 in
    (ap (λ (a : Reply). (e, a) ∷ transcript (next w e) es) one.0 ∙ ap (λ l. (e, reply x e) ∷ l) more.0, more.1)

pub rows-regrouped : RegroupedWorldsHaveSameRows
rows-regrouped w x g = ap committed_rows (holding-is w x g)

-- ---- an equivalence
pub regrouped-itself : (w : World) → Regrouped w w
regrouped-itself w = record { buckets = refl; clock = refl; versions = refl; txns = refl; read_sets = λ t. refl; write_sets = λ t. refl; bucket_sets = λ t. refl; waiting_lists = λ t. refl; dependents = λ t. refl }

pub regrouped-both_ways : (w x : World) → Regrouped w x → Regrouped x w
regrouped-both_ways w x g = record {
  buckets = sym g.buckets;
  clock = sym g.clock;
  versions = sym g.versions;
  txns = sym g.txns;
  read_sets = λ t. sym (g.read_sets t);
  write_sets = λ t. sym (g.write_sets t);
  bucket_sets = λ t. sym (g.bucket_sets t);
  waiting_lists = λ t. sym (g.waiting_lists t);
  dependents = λ t. sym (g.dependents t);
}

pub regrouped-in_turn : (w x y : World) → Regrouped w x → Regrouped x y → Regrouped w y
regrouped-in_turn w x y g h = record {
  buckets = g.buckets ∙ h.buckets;
  clock = g.clock ∙ h.clock;
  versions = g.versions ∙ h.versions;
  txns = g.txns ∙ h.txns;
  read_sets = λ t. g.read_sets t ∙ h.read_sets t;
  write_sets = λ t. g.write_sets t ∙ h.write_sets t;
  bucket_sets = λ t. g.bucket_sets t ∙ h.bucket_sets t;
  waiting_lists = λ t. g.waiting_lists t ∙ h.waiting_lists t;
  dependents = λ t. g.dependents t ∙ h.dependents t;
}

-- ---- with renumberings
pub regrouped-renumbering : (r : Renumbering) (w x : World) → Regrouped w x → IsRenumbering r w → IsRenumbering r x
regrouped-renumbering r w x g i = still-renumbering r w x (subst (Kept w.versions) g.versions (kept w.versions)) i

pub renumbered-regrouped : (r : Renumbering) (w x : World) → Regrouped w x → Regrouped (renumbered r w) (renumbered r x)
renumbered-regrouped r w x g = record {
  buckets = g.buckets;
  clock = g.clock;
  versions = ap (renumbered_versions r) g.versions;
  txns = g.txns;
  read_sets = λ t. seconds-to r w.read_locks t ∙ ap (map r.to) (g.read_sets t) ∙ sym (seconds-to r x.read_locks t);
  write_sets = λ t. entries-to r w.writes t ∙ ap (map (renumbered_entry r)) (g.write_sets t) ∙ sym (entries-to r x.writes t);
  bucket_sets = g.bucket_sets;
  waiting_lists = g.waiting_lists;
  dependents = g.dependents;
}

-- ---- with similar worlds
-- a regrouped world's similar one is a similar one regrouped
pub similar-regrouped : (w x y : World) → Regrouped w x → Similar x y → Similar w (holding y w) × Regrouped (holding y w) y
similar-regrouped w x y g s = (
  record {
    same = ap {A = World} {B = World} (λ z. timeless (holding z w)) (sym (holding-is x w (regrouped-both_ways w x g)))
        ∙ ap {A = World} {B = World} (λ z. holding z w) s.same;
    looks = λ t l.
        let k : LookAlike x.versions y.versions x.txns y.txns (txn_in x.txns t).begin (txn_in y.txns t).begin
        = s.looks t (ap (λ ts. looks_back (txn_in ts t)) (sym g.txns) ∙ l) in
        subst (λ vs. LookAlike vs y.versions w.txns y.txns (txn_in w.txns t).begin (txn_in y.txns t).begin) (sym g.versions)
        (subst (λ ts. LookAlike x.versions y.versions ts y.txns (txn_in ts t).begin (txn_in y.txns t).begin) (sym g.txns) k);
  },
  record {
    buckets = refl;
    clock = refl;
    versions = refl;
    txns = refl;
    read_sets = λ t. g.read_sets t ∙ ap (λ (z : World). seconds_of z.read_locks t) s.same;
    write_sets = λ t. g.write_sets t ∙ ap (λ (z : World). entries_of z.writes t) s.same;
    bucket_sets = λ t. g.bucket_sets t ∙ ap (λ (z : World). seconds_of z.bucket_locks t) s.same;
    waiting_lists = λ t. g.waiting_lists t ∙ ap (λ (z : World). seconds_of z.waiters t) s.same;
    dependents = λ t. g.dependents t ∙ ap (λ (z : World). seconds_of z.dependents t) s.same;
  },
)
