-- A walk is judged, its room is reserved, and its effects are done.
use Rattle.std.proofs.Common.{◌≡◌, ℕ, ◌<◌, ◌%◌, true, List, refl, ◌∙◌, ap, sym, subst, arith, Option, Some, None, Result, Ok, Err}
use Rattle.std.proofs.lemmas.Bool.{and_parts}
use Rattle.std.proofs.Math.Nat.{mod-lt}
use Rattle.std.specs.Prelude.{◌==◌, OnErr}
use Rattle.hek_rules.specs.declared.event.Cause.{Cause}
use Rattle.hek_rules.specs.declared.event.Effect.{Effect}
use Rattle.hek_rules.specs.declared.event.Effect.TheVariants.{LockBucket, DependOn, MakeWait, ReadLock, WriteLock}
use Rattle.hek_rules.specs.declared.event.State.TheVariants.{Active}
use Rattle.hek_rules.specs.declared.reply.Reply.{Reply}
use Rattle.hek_rules.specs.declared.reply.Reply.TheVariants as reply
use Rattle.hek_rules.specs.World.{World, Txn, txn_in}
use Rattle.hek_rules.specs.Walk.{Judgement, Refuse, Allow, walk, apply_all}
use Rattle.hek_rules.specs.Walk as walking
use Rattle.hek_rules.specs.Table.{Outcome, aborted}
use Rattle.hek_rules.specs.Checks.{is_open}
use Rattle.hek_laws.specs.Lists.{In}
use Rattle.hek_laws.proofs.Runs.Reachable.{reachable-sound}
use Rattle.hek_laws.proofs.Sound.InWalks.{is-walking}
use Rattle.hek_laws.proofs.Table.Cases.{active-is}
use Rattle.hek_store.specs.Stored.{of_key}
use Rattle.hek_refinement.proofs.Known.{begun-known}
use Rattle.hek_machine.specs.declared.engine.Engine.{Engine}
use Rattle.hek_rules.specs.declared.event.Aim.{Aim}
use Rattle.hek_machine.specs.Stands.{Shows, StandsFor, StandsForSome, IsRule}
use Rattle.hek_machine.specs.Judgements.{IsShown, verdict}
use Rattle.hek_rules.specs.Aims.{purpose_of}
use Rattle.hek_machine.specs.Room.{Reserved, IsThere}
use Rattle.hek_machine.specs.Applied.{Allowed}
use Rattle.hek_machine.specs.Walked.{AreVersionPlaces, After}
use Rattle.hek_machine.proofs.Loads.{copied-shows}
use Rattle.hek_machine.proofs.Reserves.{reserved-shows}
use Rattle.hek_machine.proofs.KeyPlaces.{of_key-same}
use Rattle.hek_machine.proofs.EffectTurns.{begun_preparing}

-- ---- the transaction that walks

pub open_active : (x : Txn) → is_open x ≡ true → x.state ≡ Active
open_active x h = active-is x.state (and_parts _ _ h).0

-- ---- parts with other room show the same worlds

pub reserved-stands : (m n : Engine) → Reserved m n → (w : World) → StandsFor m w → StandsFor n w
reserved-stands m n r w s = record { reachable = s.reachable; named = s.named; shows = (reserved-shows m n r).world w s.shows }

pub reserved-back : (m n : Engine) → Reserved m n → (w : World) → StandsFor n w → StandsFor m w
reserved-back m n r w s = record {
  reachable = s.reachable;
  named = s.named;
  shows = (copied-shows n m (record {
    clock = sym r.clock;
    store_buckets = sym r.store_buckets;
    versions = sym r.versions;
    txns = let x = r.txns in record {
      cores = sym x.cores;
      waits = sym x.waits;
      commit_deps = sym x.commit_deps;
      read_sets = sym x.read_sets;
      write_sets = sym x.write_sets;
      bucket_sets = sym x.bucket_sets;
      waiting_lists = sym x.waiting_lists;
      dependents = sym x.dependents;
    };
    buckets = sym r.holders;
  })).world w s.shows;
}

pub reserved-ordered : (m n : Engine) → Reserved m n → StandsForSome m → StandsForSome n
reserved-ordered m n r o = record { world = o.world; stands = reserved-stands m n r o.world o.stands }

-- ---- what the effects require

effect-there : (m : Engine) (w : World) (t : ℕ) (es : List Effect) → StandsFor m w → Allowed w t es → (e : Effect) → In e es → IsThere m e
effect-there m w t es s a (LockBucket b) i =
    let k = (is-walking w t a.purpose a.bucket a.test es a.walk).warrant (LockBucket b) i in
    let l = a.walk.there in let c = s.shows.buckets.count in omega (arith, k, l, c)
effect-there m w t es s a (DependOn u) i =
    begun-known m.txns w u s.shows.txns (begun_preparing (txn_in w.txns u).state ((is-walking w t a.purpose a.bucket a.test es a.walk).warrant (DependOn u) i))
effect-there m w t es s a (MakeWait u) i = tt
effect-there m w t es s a (ReadLock v) i = tt
effect-there m w t es s a (WriteLock v) i = tt

pub effects_there : (m : Engine) (t : ℕ) (es : List Effect) → StandsForSome m → ((w : World) → StandsFor m w → Allowed w t es) → (e : Effect) → In e es → IsThere m e
effects_there m t es o a = effect-there m o.world t es o.stands (a o.world o.stands)

pub allowed_by : (m : Engine) (t bucket : ℕ) (vs : List ℕ) (aim : Aim) (o : Option Cause) (es : List Effect) → AreVersionPlaces m bucket vs → is_open (txn_in m.txns.cores t) ≡ true → o ≡ None →
    IsShown m (λ w. walk w t (purpose_of aim) bucket vs) (verdict o es) → (w : World) → StandsFor m w → Allowed w t es
allowed_by m t bucket vs aim o es p open_now none judged w s = record {
  purpose = purpose_of aim;
  bucket = bucket;
  test = p.test;
  walk = record {
    sound = reachable-sound w s.reachable;
    walker = ap (λ ts. is_open (txn_in ts t)) (sym s.shows.txns.cores) ∙ open_now;
    there = p.there w s;
    allowed = ap (walk w t (purpose_of aim) bucket) (p.same w s) ∙ judged w s ∙ ap (λ c. verdict c es) none;
  };
}

-- ---- after the walk

-- a rule that aborts its transaction if the walk is refused
pub rule_refused : (m n : Engine) (t : ℕ) (rule : World → Outcome) (judged : World → Judgement) (cause : Cause) →
    ((w : World) (c : Cause) → StandsFor m w → judged w ≡ Refuse c → rule w ≡ aborted w t c) →
    ((w : World) → StandsFor m w → After n t w (judged w) (Some cause)) → IsRule rule m n (reply.Aborted cause)
rule_refused m n t rule judged cause is after = record {
  reply = λ w s. (each w s (judged w) refl (after w s)).0;
  shows = λ w s. (each w s (judged w) refl (after w s)).1;
}
  where
    each : (w : World) → StandsFor m w → (j : Judgement) → judged w ≡ j → After n t w j (Some cause) → (reply.Aborted cause ≡ (rule w).reply) × Shows n (rule w).world
    each w s (Allow es) e a = absurd a
    each w s (Refuse c) e a =
        let r = is w c s e in
        (ap reply.Aborted (sym a.0) ∙ ap (λ (o : Outcome). o.reply) (sym r), subst (λ (o : Outcome). Shows n o.world) (sym r) a.1)

-- a rule that does the effects of the walk if it is allowed
pub rule_allowed : (m n : Engine) (t : ℕ) (rule : World → Outcome) (judged : World → Judgement) (r : Reply) →
    ((w : World) (es : List Effect) → StandsFor m w → judged w ≡ Allow es → rule w ≡ record { reply = r; world = apply_all t w es }) →
    ((w : World) → StandsFor m w → After n t w (judged w) None) → IsRule rule m n r
rule_allowed m n t rule judged r is after = record {
  reply = λ w s. (each w s (judged w) refl (after w s)).0;
  shows = λ w s. (each w s (judged w) refl (after w s)).1;
}
  where
    each : (w : World) → StandsFor m w → (j : Judgement) → judged w ≡ j → After n t w j None → (r ≡ (rule w).reply) × Shows n (rule w).world
    each w s (Refuse c) e a = absurd a
    each w s (Allow es) e a =
        let k = is w es s e in (ap (λ (o : Outcome). o.reply) (sym k), subst (λ (o : Outcome). Shows n o.world) (sym k) a)

-- ---- the versions of a key

pub key_places : (m : Engine) (key : ℕ) → StandsForSome m → AreVersionPlaces m (key % m.store.buckets) (of_key m.store.versions key)
key_places m key o = record {
  test = λ v x. x.key == key;
  same = λ w s. sym (of_key-same m.store w key s.shows.store);
  there = λ w s. let e = s.shows.store.buckets in let some = (reachable-sound w s.reachable).buckets in
      subst (λ n. key % n < w.buckets) (sym e) (mod-lt key some);
}

-- ---- answers

pub on_err : {A E : Type 0} (r : Result A E) (P : Type 0) → P → OnErr r P
on_err (Ok x) P p = tt
on_err (Err e) P p = p

-- the parts after a walk over these versions of this bucket
abbrev pub Came : Engine → Engine → ℕ → walking.Purpose → ℕ → List ℕ → Option Cause → Type 0
Came m n t p bucket vs o = (w : World) → StandsFor m w → After n t w (walk w t p bucket vs) o
