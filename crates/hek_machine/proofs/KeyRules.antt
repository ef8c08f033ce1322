-- Rules that walk over the versions of a key, and the version that an update or an insert makes after the walk.
use Rattle.std.proofs.Common.{◌≡◌, ℕ, ◌<◌, ◌^◌, ◌%◌, Bool, true, false, List, [], refl, ◌∙◌, ap, sym, subst, arith, Option, Some, None, Result, Ok, Err, IfOk, length, append-nil}
use Rattle.std.proofs.lemmas.Result.{IfOk-weaker}
use Rattle.std.proofs.Math.Nat.{mod-lt}
use Rattle.std.specs.List.{All}
use Rattle.std.specs.Prelude.{OnErr, if◌then◌else◌}
use Rattle.hek_rules.specs.declared.event.Cause.{Cause}
use Rattle.hek_rules.specs.declared.event.Cause.TheVariants.{Conflict}
use Rattle.hek_rules.specs.declared.event.Effect.{Effect}
use Rattle.hek_rules.specs.declared.reply.Reply.{Reply}
use Rattle.hek_rules.specs.declared.reply.Reply.TheVariants as reply
use Rattle.hek_rules.specs.World.{World, txn_in, is_not_begun}
use Rattle.hek_rules.specs.Locks.{add_version}
use Rattle.hek_rules.specs.Walk.{Judgement, Refuse, Allow, Purpose, ToRead, ToWrite, walk, apply_all, last, seen_of}
use Rattle.hek_rules.specs.Walk as walking
use Rattle.hek_rules.specs.Table.{Outcome, aborted, found, is_claimed, after_read, read_rule, after_delete, delete_rule, after_update, update_rule, after_insert, insert_rule}
use Rattle.hek_rules.specs.Checks.{is_open}
use Rattle.hek_laws.proofs.Runs.Reachable.{reachable-sound}
use Rattle.hek_laws.proofs.Sound.InWalks.{part-sound}
use Rattle.hek_laws.proofs.Sound.WaitsFall.{length-walked}
use Rattle.hek_laws.proofs.Table.Unchanged.{apply_all-times}
use Rattle.hek_store.specs.declared.version.Version.{Version}
use Rattle.hek_txn.specs.TxnTable.{Declared}
use Rattle.hek_buckets.specs.LockLists.{holders_of}
use Rattle.hek_refinement.proofs.Known.{begun-known, present-known, has-first}
use Rattle.hek_machine.specs.declared.engine.Engine.{Engine}
use Rattle.hek_rules.specs.declared.event.Aim.{Aim}
use Rattle.hek_rules.specs.declared.event.Aim.TheVariants as aims
use Rattle.hek_machine.specs.Stands.{Shows, StandsFor, StandsForSome, IsRule, StillShows}
use Rattle.hek_machine.specs.Judgements.{IsShown, IsAimed, seen_among}
use Rattle.hek_machine.specs.Room.{Reserved, CanMake, KeepsAdding}
use Rattle.hek_machine.specs.Walked.{AreVersionPlaces, After, CanAddVersion, IsAdding, reply_or_abort, deleted_reply}
use Rattle.hek_machine.specs.Written.{AreEnough, key_walk, after_walk, after_making, after_conflict}
use Rattle.hek_machine.proofs.Joining.{can_make_kept}
use Rattle.hek_machine.proofs.Reserves.{reserved-shows}
use Rattle.hek_machine.proofs.RuleWalks.{Came, open_active, rule_refused, rule_allowed, reserved-stands, reserved-back}
use Rattle.hek_machine.proofs.WalkRules.{seen-same}

-- ---- the versions of a key

pub bucket_places : (m : Engine) (t key bucket : ℕ) (vs : List ℕ) → bucket ≡ key % m.store.buckets → AreEnough m t key vs → AreVersionPlaces m bucket vs
bucket_places m t key bucket vs a e = subst (λ n. AreVersionPlaces m n vs) (sym a) e.places

pub enough_as : (m : Engine) (t key : ℕ) (vs xs : List ℕ) → vs ≡ xs → AreEnough m t key xs → AreEnough m t key vs
enough_as m t key vs xs e h = subst (AreEnough m t key) (sym e) h

-- the walk over sufficient versions of a key, in the bucket of the key, is the walk over all
pub walk-enough : (m : Engine) (w : World) (t key bucket : ℕ) (vs : List ℕ) (p : Purpose) → StandsFor m w → bucket ≡ key % m.store.buckets → AreEnough m t key vs →
    walk w t p bucket vs ≡ key_walk w t p key
walk-enough m w t key bucket vs p s a e = ap (λ n. walk w t p n vs) (a ∙ ap (λ n. key % n) s.shows.store.buckets) ∙ e.walked w p s

came-on : (m n : Engine) (t key bucket : ℕ) (vs : List ℕ) (p : Purpose) (o other : Option Cause) → bucket ≡ key % m.store.buckets → AreEnough m t key vs → o ≡ other → Came m n t p bucket vs o →
    (w : World) → StandsFor m w → After n t w (key_walk w t p key) other
came-on m n t key bucket vs p o other a b c came w s =
    subst (λ x. After n t w (key_walk w t p key) x) c (subst (λ j. After n t w j o) (walk-enough m w t key bucket vs p s a b) (came w s))

-- ---- rules

-- rules with equal outcomes in each world that the parts stand for
pub rule_same : (m n : Engine) (f g : World → Outcome) (r : Reply) → ((w : World) → StandsFor m w → f w ≡ g w) → IsRule g m n r → IsRule f m n r
rule_same m n f g r same rule = record {
  reply = λ w s. rule.reply w s ∙ ap (λ (o : Outcome). o.reply) (sym (same w s));
  shows = λ w s. subst (λ (o : Outcome). Shows n o.world) (sym (same w s)) (rule.shows w s);
}

-- the rule of a walk that is refused
pub key_refused : (m n : Engine) (t key bucket : ℕ) (vs : List ℕ) (p : Purpose) (after : World → Judgement → Outcome) (o : Option Cause) (cause : Cause) →
    ((w : World) (c : Cause) → after w (Refuse c) ≡ aborted w t c) → bucket ≡ key % m.store.buckets → AreEnough m t key vs → o ≡ Some cause → Came m n t p bucket vs o →
    IsRule (λ w. after w (key_walk w t p key)) m n (reply.Aborted cause)
key_refused m n t key bucket vs p after o cause is a b some came =
    rule_refused m n t (λ w. after w (key_walk w t p key)) (λ w. key_walk w t p key) cause (λ w c s j. ap (after w) j ∙ is w c) (came-on m n t key bucket vs p o (Some cause) a b some came)

-- the rule of a walk that is allowed
pub key_walked : (m n : Engine) (t key bucket : ℕ) (vs : List ℕ) (p : Purpose) (answer : Reply) (o : Option Cause) → bucket ≡ key % m.store.buckets → AreEnough m t key vs → o ≡ None →
    Came m n t p bucket vs o → IsRule (λ w. after_walk w t answer (key_walk w t p key)) m n answer
key_walked m n t key bucket vs p answer o a b none came =
    rule_allowed m n t (λ w. after_walk w t answer (key_walk w t p key)) (λ w. key_walk w t p key) answer (λ w es s j. ap (after_walk w t answer) j) (came-on m n t key bucket vs p o None a b none came)

-- the rule of a walk that is refused or allowed
pub key_replies : (m n : Engine) (t key bucket : ℕ) (vs : List ℕ) (p : Purpose) (answer : Reply) (o : Option Cause) → bucket ≡ key % m.store.buckets → AreEnough m t key vs →
    Came m n t p bucket vs o → IsRule (λ w. after_walk w t answer (key_walk w t p key)) m n (reply_or_abort o answer)
key_replies m n t key bucket vs p answer None a b came = key_walked m n t key bucket vs p answer None a b refl came
key_replies m n t key bucket vs p answer (Some cause) a b came =
    key_refused m n t key bucket vs p (λ w j. after_walk w t answer j) (Some cause) cause (λ w c. refl) a b refl came

-- the rule of equal outcomes, with the reply after the walk
pub reply_rule : (m n : Engine) (f g : World → Outcome) (o : Option Cause) (answer r : Reply) → r ≡ reply_or_abort o answer → ((w : World) → StandsFor m w → f w ≡ g w) → IsRule g m n (reply_or_abort o answer) → IsRule f m n r
reply_rule m n f g o answer r is same rule = rule_same m n f g r same (subst (IsRule g m n) (sym is) rule)

-- ---- room

pub rule_after_room : (m k n : Engine) (rule : World → Outcome) (r : Reply) → Reserved m k → IsRule rule k n r → IsRule rule m n r
rule_after_room m k n rule r reserved i = record {
  reply = λ w s. i.reply w (reserved-stands m k reserved w s);
  shows = λ w s. i.shows w (reserved-stands m k reserved w s);
}

pub still_after_room : (m k n : Engine) → Reserved m k → StillShows k n → StillShows m n
still_after_room m k n reserved s = record { world = λ w h. s.world w ((reserved-shows m k reserved).world w h) }

pub aimed_after_room : (m n : Engine) (t : ℕ) (vs : List ℕ) (aim : Aim) → Reserved m n → StandsForSome m → IsAimed m t vs aim → IsAimed n t vs aim
aimed_after_room m n t vs aims.ToRead r o a = tt
aimed_after_room m n t vs (aims.ToWrite target) r o a = a ∙ ap last (sym (seen-same m t vs o.world o.stands) ∙ seen-same n t vs o.world (reserved-stands m n r o.world o.stands))

pub enough_after_room : (m n : Engine) (t key : ℕ) (vs : List ℕ) → Reserved m n → AreEnough m t key vs → AreEnough n t key vs
enough_after_room m n t key vs r e = record {
  below = subst (λ (xs : List Version). All (λ v. v < length xs) vs) (sym r.versions) e.below;
  places = record {
    test = e.places.test;
    same = λ w s. e.places.same w (reserved-back m n r w s);
    there = λ w s. subst (λ b. key % b < w.buckets) (sym r.store_buckets) (e.places.there w (reserved-back m n r w s));
  };
  walked = λ w p s. e.walked w p (reserved-back m n r w s);
  seen = λ w s. e.seen w (reserved-back m n r w s);
  claimed = λ w s. e.claimed w (reserved-back m n r w s);
}

pub holders_declared : (m : Engine) (b : ℕ) → StandsForSome m → All (λ h. Declared m.txns h) (holders_of m.buckets b).items
holders_declared m b o k d l =
    let h = o.stands.shows in
    present-known m.txns o.world _ h.txns ((reachable-sound o.world o.stands.reachable).locker_present _ b (has-first o.world.bucket_locks b (holders_of m.buckets b).items k d (h.buckets.holders b) l))

pub bucket_there : (m : Engine) (key bucket : ℕ) → StandsForSome m → bucket ≡ key % m.store.buckets → bucket < length m.buckets
bucket_there m key bucket o a =
    let w : World = o.world in
    let h = o.stands.shows in
    let e = h.store.buckets in
    subst (λ n. n < length m.buckets) (sym (a ∙ ap (λ n. key % n) e)) (subst (λ n. key % w.buckets < n) (sym h.buckets.count) (mod-lt key (reachable-sound w o.stands.reachable).buckets))

-- ---- a version that is made after the walk

-- the effects of a walk that a world allowed
pub each_allowed : (m n : Engine) (w : World) (t bucket : ℕ) (vs : List ℕ) (p : Purpose) (j : Judgement) → walk w t p bucket vs ≡ j → After n t w j None →
    (es : List Effect) × (walk w t p bucket vs ≡ Allow es) × Shows n (apply_all t w es)
each_allowed m n w t bucket vs p (Refuse cause) e a = absurd a
each_allowed m n w t bucket vs p (Allow es) e a = (es, e, a)

-- t may make a version after an allowed walk
can_add : (m n : Engine) (w : World) (t bucket : ℕ) (vs : List ℕ) (p : Purpose) (es : List Effect) → StandsFor m w → AreVersionPlaces m bucket vs → is_open (txn_in m.txns.cores t) ≡ true →
    length m.store.versions < 2 ^ 58 → walk w t p bucket vs ≡ Allow es → Shows n (apply_all t w es) → CanAddVersion n t (apply_all t w es)
can_add m n w t bucket vs p es s places open_now small allowed shows =
    let same = (apply_all-times t w es).txns in
    let long = length-walked t w es in
    record {
      shows = shows;
      sound = part-sound w t p bucket places.test es [] (record {
        sound = reachable-sound w s.reachable;
        walker = ap (λ ts. is_open (txn_in ts t)) (sym s.shows.txns.cores) ∙ open_now;
        there = places.there w s;
        allowed = ap (walk w t p bucket) (places.same w s) ∙ allowed ∙ ap Allow (sym (append-nil es));
      });
      walker = begun-known n.txns (apply_all t w es) t shows.txns
          (ap (λ ts. is_not_begun (txn_in ts t).state) (same ∙ sym s.shows.txns.cores) ∙ ap is_not_begun (open_active (txn_in m.txns.cores t) open_now));
      small = let c = s.shows.store.count in omega (arith, c, long, small);
      named = let k = ap length same in let q = s.named in omega (arith, k, q);
    }

-- what making the version needs, after the walk
pub record CanMakeIt (m n : Engine) (t key : ℕ) : Type 0 where
  pub able : IsAdding n t
  pub buckets : n.store.buckets ≡ m.store.buckets

pub walk_makes : (m n : Engine) (t key bucket : ℕ) (vs : List ℕ) (p : Purpose) (o : Option Cause) → StandsForSome m → is_open (txn_in m.txns.cores t) ≡ true → length m.store.versions < 2 ^ 58 →
    bucket ≡ key % m.store.buckets → AreEnough m t key vs → o ≡ None → Came m n t p bucket vs o → CanMakeIt m n t key
walk_makes m n t key bucket vs p o order open_now small a b none came =
    let w : World = order.world in
    let r = each_allowed m n w t bucket vs p _ refl (subst (After n t w (walk w t p bucket vs)) none (came w order.stands)) in
    record {
      able = record {
        world = apply_all t w r.0;
        can = can_add m n w t bucket vs p r.0 order.stands (bucket_places m t key bucket vs a b) open_now small r.1 r.2;
      };
      buckets = r.2.store.buckets ∙ (apply_all-times t w r.0).buckets ∙ sym order.stands.shows.store.buckets;
    }

pub room_left : (m n : Engine) (t key : ℕ) → KeepsAdding m n t → n.store.buckets ≡ m.store.buckets → CanMake m t (key % m.store.buckets) → CanMake n t (key % n.store.buckets)
room_left m n t key kept same make = subst (λ b. CanMake n t (key % b)) (sym same) (can_make_kept m n t (key % m.store.buckets) kept make)

pub key_made : (m n new : Engine) (t key value bucket : ℕ) (vs : List ℕ) (p : Purpose) (o : Option Cause) → StandsForSome m → is_open (txn_in m.txns.cores t) ≡ true → length m.store.versions < 2 ^ 58 →
    bucket ≡ key % m.store.buckets → AreEnough m t key vs → o ≡ None → Came m n t p bucket vs o → ((w : World) → CanAddVersion n t w → Shows new (add_version w t key value)) →
    IsRule (λ w. after_making w t key value (key_walk w t p key)) m new reply.Done
key_made m n new t key value bucket vs p o order open_now small a b none came added = record {
  reply = λ w s. ap (λ (x : Outcome). x.reply) (sym (same w s));
  shows = λ w s. subst (λ (x : Outcome). Shows new x.world) (sym (same w s)) (added (apply_all t w (found_in w s).0) (can w s));
}
  where
    found_in : (w : World) → StandsFor m w → (es : List Effect) × (walk w t p bucket vs ≡ Allow es) × Shows n (apply_all t w es)
    found_in w s = each_allowed m n w t bucket vs p _ refl (subst (After n t w (walk w t p bucket vs)) none (came w s))

    same : (w : World) (s : StandsFor m w) → after_making w t key value (key_walk w t p key) ≡ record { reply = reply.Done; world = add_version (apply_all t w (found_in w s).0) t key value }
    same w s = ap (after_making w t key value) (sym (walk-enough m w t key bucket vs p s a b) ∙ (found_in w s).1)

    can : (w : World) (s : StandsFor m w) → CanAddVersion n t (apply_all t w (found_in w s).0)
    can w s = can_add m n w t bucket vs p (found_in w s).0 s (bucket_places m t key bucket vs a b) open_now small (found_in w s).1 (found_in w s).2

-- ---- the versions that t sees

pub seen-target : (m : Engine) (w : World) (t key : ℕ) (vs : List ℕ) (target : Option ℕ) → StandsFor m w → AreEnough m t key vs → target ≡ last (seen_among m t vs) → last (seen_of w t (walking.of_key w key)) ≡ target
seen-target m w t key vs target s b e = ap last (sym (b.seen w s) ∙ seen-same m t vs w s) ∙ sym e

-- ---- the rule of each event

read-is : (w : World) (t : ℕ) (target : Option ℕ) (j : Judgement) → after_read w t target j ≡ after_walk w t (found w target) j
read-is w t target (Refuse cause) = refl
read-is w t target (Allow es) = refl

-- a read answers with the value that it finds, or aborts
pub read_replies : (m n : Engine) (t key : ℕ) (o : Option Cause) (target : Option ℕ) (answer r : Reply) → r ≡ reply_or_abort o answer →
    (o ≡ None → IsShown m (λ w. last (seen_of w t (walking.of_key w key))) target) → IsShown m (λ w. found w target) answer →
    ((w : World) → StandsFor m w → After n t w (key_walk w t ToRead key) o) → IsRule (λ w. read_rule w t key) m n r
read_replies m n t key None target answer r is seen shown after =
    reply_rule m n (λ w. read_rule w t key) (λ w. after_walk w t answer (key_walk w t ToRead key)) None answer r is
    (λ w s. read-is w t (last (seen_of w t (walking.of_key w key))) (key_walk w t ToRead key)
    ∙ ap (λ x. after_walk w t x (key_walk w t ToRead key)) (ap (found w) (seen refl w s) ∙ shown w s))
    (rule_allowed m n t (λ w. after_walk w t answer (key_walk w t ToRead key)) (λ w. key_walk w t ToRead key) answer (λ w es s j. ap (after_walk w t answer) j) after)
read_replies m n t key (Some cause) target answer r is seen shown after =
    subst (IsRule (λ w. read_rule w t key) m n) (sym is)
    (rule_refused m n t (λ w. read_rule w t key) (λ w. key_walk w t ToRead key) cause
    (λ w c s j. read-is w t (last (seen_of w t (walking.of_key w key))) (key_walk w t ToRead key) ∙ ap (after_walk w t (found w (last (seen_of w t (walking.of_key w key))))) j) after)

delete-is : (w : World) (t : ℕ) (target : Option ℕ) (j : Judgement) → after_delete w t target j ≡ after_walk w t (deleted_reply target) j
delete-is w t None (Refuse cause) = refl
delete-is w t (Some v) (Refuse cause) = refl
delete-is w t None (Allow es) = refl
delete-is w t (Some v) (Allow es) = refl

pub delete_row_is : (m : Engine) (t key : ℕ) (vs : List ℕ) (target : Option ℕ) (r : Reply) → AreEnough m t key vs → target ≡ last (seen_among m t vs) → r ≡ deleted_reply target →
    (w : World) → StandsFor m w → delete_rule w t key ≡ after_walk w t r (key_walk w t ToWrite key)
delete_row_is m t key vs target r b e g w s =
    delete-is w t (last (seen_of w t (walking.of_key w key))) (key_walk w t ToWrite key)
    ∙ ap (λ x. after_walk w t x (key_walk w t ToWrite key)) (ap deleted_reply (seen-target m w t key vs target s b e) ∙ sym g)

update-some : (w : World) (t key value v : ℕ) (target : Option ℕ) (j : Judgement) → target ≡ Some v → after_update w t key value target j ≡ after_making w t key value j
update-some w t key value v None j e = cc
update-some w t key value v (Some x) (Refuse cause) e = refl
update-some w t key value v (Some x) (Allow es) e = refl

update-none : (w : World) (t key value : ℕ) (target : Option ℕ) (j : Judgement) → target ≡ None → after_update w t key value target j ≡ after_walk w t reply.Absent j
update-none w t key value None (Refuse cause) e = refl
update-none w t key value None (Allow es) e = refl
update-none w t key value (Some x) j e = cc

pub update_makes : (m : Engine) (t key value v : ℕ) (vs : List ℕ) (target : Option ℕ) → AreEnough m t key vs → target ≡ last (seen_among m t vs) → target ≡ Some v →
    (w : World) → StandsFor m w → update_rule w t key value ≡ after_making w t key value (key_walk w t ToWrite key)
update_makes m t key value v vs target b e some w s =
    update-some w t key value v (last (seen_of w t (walking.of_key w key))) (key_walk w t ToWrite key) (seen-target m w t key vs target s b e ∙ some)

pub update_sees_none : (m : Engine) (t key value : ℕ) (vs : List ℕ) (target : Option ℕ) → AreEnough m t key vs → target ≡ last (seen_among m t vs) → target ≡ None →
    (w : World) → StandsFor m w → update_rule w t key value ≡ after_walk w t reply.Absent (key_walk w t ToWrite key)
update_sees_none m t key value vs target b e none w s =
    update-none w t key value (last (seen_of w t (walking.of_key w key))) (key_walk w t ToWrite key) (seen-target m w t key vs target s b e ∙ none)

insert-some : (w : World) (t key value v : ℕ) (target : Option ℕ) (j : Judgement) → target ≡ Some v → after_insert w t key value target j ≡ after_walk w t reply.Exists j
insert-some w t key value v None j e = cc
insert-some w t key value v (Some x) (Refuse cause) e = refl
insert-some w t key value v (Some x) (Allow es) e = refl

pub insert_exists : (m : Engine) (t key value v : ℕ) (vs : List ℕ) (target : Option ℕ) → AreEnough m t key vs → target ≡ last (seen_among m t vs) → target ≡ Some v →
    (w : World) → StandsFor m w → insert_rule w t key value ≡ after_walk w t reply.Exists (key_walk w t ToRead key)
insert_exists m t key value v vs target b e some w s =
    insert-some w t key value v (last (seen_of w t (walking.of_key w key))) (key_walk w t ToRead key) (seen-target m w t key vs target s b e ∙ some)

pub insert_sees_none : (m : Engine) (t key value : ℕ) (vs : List ℕ) (target : Option ℕ) → AreEnough m t key vs → target ≡ last (seen_among m t vs) → target ≡ None →
    (w : World) → StandsFor m w → insert_rule w t key value ≡ after_insert w t key value None (key_walk w t ToRead key)
insert_sees_none m t key value vs target b e none w s =
    ap (λ x. after_insert w t key value x (key_walk w t ToRead key)) (seen-target m w t key vs target s b e ∙ none)

claimed-is : (w : World) (t key value : ℕ) (j : Judgement) → is_claimed w t (walking.of_key w key) ≡ true → after_insert w t key value None j ≡ after_conflict w t j
claimed-is w t key value (Refuse cause) h = refl
claimed-is w t key value (Allow es) h = ap (λ b. if b then aborted w t Conflict else after_making w t key value (Allow es)) h

unclaimed-is : (w : World) (t key value : ℕ) (j : Judgement) → is_claimed w t (walking.of_key w key) ≡ false → after_insert w t key value None j ≡ after_making w t key value j
unclaimed-is w t key value (Refuse cause) h = refl
unclaimed-is w t key value (Allow es) h = ap (λ b. if b then aborted w t Conflict else after_making w t key value (Allow es)) h

claimed-key : (m : Engine) (w : World) (t key : ℕ) (vs : List ℕ) (b : Bool) → StandsFor m w → AreEnough m t key vs → IsShown m (λ w. is_claimed w t vs) b → is_claimed w t (walking.of_key w key) ≡ b
claimed-key m w t key vs b s e shown = sym (e.claimed w s) ∙ shown w s

pub insert_claimed : (m : Engine) (t key value : ℕ) (vs : List ℕ) (b : Bool) → AreEnough m t key vs → IsShown m (λ w. is_claimed w t vs) b → b ≡ true →
    (w : World) → StandsFor m w → after_insert w t key value None (key_walk w t ToRead key) ≡ after_conflict w t (key_walk w t ToRead key)
insert_claimed m t key value vs b e shown met w s = claimed-is w t key value (key_walk w t ToRead key) (claimed-key m w t key vs b s e shown ∙ met)

pub insert_unclaimed : (m : Engine) (t key value : ℕ) (vs : List ℕ) (b : Bool) → AreEnough m t key vs → IsShown m (λ w. is_claimed w t vs) b → b ≡ false →
    (w : World) → StandsFor m w → after_insert w t key value None (key_walk w t ToRead key) ≡ after_making w t key value (key_walk w t ToRead key)
insert_unclaimed m t key value vs b e shown none w s = unclaimed-is w t key value (key_walk w t ToRead key) (claimed-key m w t key vs b s e shown ∙ none)

pub err_weaker : {A E : Type 0} (r : Result A E) (P Q : Type 0) → (P → Q) → OnErr r P → OnErr r Q
err_weaker (Ok x) P Q h p = tt
err_weaker (Err e) P Q h p = h p

-- a call whose rule has equal outcomes
pub rule_of_last : {E : Type 0} (m n : Engine) (f g : World → Outcome) (r : Result Reply E) → ((w : World) → StandsFor m w → f w ≡ g w) → IfOk r (IsRule g m n) → IfOk r (IsRule f m n)
rule_of_last m n f g r same i = IfOk-weaker r (IsRule g m n) (IsRule f m n) (λ x rule. rule_same m n f g x same rule) i

-- the abort of a claimed insert, whether its walk is refused or allowed
pub conflict_rule : (m n : Engine) (t key bucket : ℕ) (vs : List ℕ) (j : Judgement) (cause : Cause) (r : Reply) → bucket ≡ key % m.store.buckets → AreEnough m t key vs →
    IsShown m (λ w. walk w t ToRead bucket vs) j → ((w : World) → after_conflict w t j ≡ aborted w t cause) → IsRule (λ w. aborted w t cause) m n r →
    IsRule (λ w. after_conflict w t (key_walk w t ToRead key)) m n r
conflict_rule m n t key bucket vs j cause r a b judged is rule =
    rule_same m n (λ w. after_conflict w t (key_walk w t ToRead key)) (λ w. aborted w t cause) r
    (λ w s. ap (after_conflict w t) (sym (walk-enough m w t key bucket vs ToRead s a b) ∙ judged w s) ∙ is w) rule
