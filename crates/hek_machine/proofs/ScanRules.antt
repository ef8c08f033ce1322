-- Scans: a walk over the versions of a bucket, whose reply is the pairs of those seen.
use Rattle.std.proofs.Common.{◌≡◌, ℕ, ◌<◌, ◌%◌, List, [], refl, ◌∙◌, ap, sym, subst, arith, Option, Some, None}
use Rattle.std.specs.Prelude.{◌==◌}
use Rattle.hek_rules.specs.declared.event.Cause.{Cause}
use Rattle.hek_rules.specs.declared.reply.Reply.{Reply}
use Rattle.hek_rules.specs.declared.reply.Reply.TheVariants as reply
use Rattle.hek_rules.specs.World.{World, places}
use Rattle.hek_rules.specs.Walk.{walk, apply_all, seen_of}
use Rattle.hek_rules.specs.Walk as walking
use Rattle.hek_rules.specs.Table.{Outcome, after_scan, pairs_of, scan_rule}
use Rattle.hek_store.specs.Stored.{of_bucket}
use Rattle.hek_machine.specs.declared.engine.Engine.{Engine}
use Rattle.hek_machine.specs.Stands.{StandsFor, IsRule}
use Rattle.hek_machine.specs.Judgements.{IsShown, seen_among}
use Rattle.hek_machine.specs.Walked.{AreVersionPlaces, After, reply_or_abort}
use Rattle.hek_machine.proofs.WalkRules.{seen-same}
use Rattle.hek_machine.proofs.KeyPlaces.{of_bucket-same}
use Rattle.hek_machine.proofs.RuleWalks.{rule_refused, rule_allowed}

abbrev pub in_bucket : Engine → ℕ → List ℕ
in_bucket m bucket = of_bucket m.store.buckets m.store.versions bucket

pub bucket_places : (m : Engine) (bucket : ℕ) (vs : List ℕ) → vs ≡ in_bucket m bucket → bucket < m.store.buckets → AreVersionPlaces m bucket vs
bucket_places m bucket vs a below = record {
  test = λ v x. x.key % m.store.buckets == bucket;
  same = λ w s. ap (λ n. places (λ v x. x.key % n == bucket) 0 w.versions) s.shows.store.buckets ∙ sym (a ∙ of_bucket-same m.store w bucket s.shows.store);
  there = λ w s. let e = s.shows.store.buckets in omega (arith, below, e);
}

-- the walk over a bucket is the table's
pub bucket-walk : (m : Engine) (w : World) (t bucket : ℕ) (vs : List ℕ) → vs ≡ in_bucket m bucket → StandsFor m w →
    walk w t walking.ToRead bucket (walking.of_bucket w bucket) ≡ walk w t walking.ToRead bucket vs
bucket-walk m w t bucket vs a s = ap (walk w t walking.ToRead bucket) (sym (a ∙ of_bucket-same m.store w bucket s.shows.store))

-- the versions seen in a bucket are the table's
pub bucket-seen : (m : Engine) (w : World) (t bucket : ℕ) (vs seen : List ℕ) → vs ≡ in_bucket m bucket → seen ≡ seen_among m t vs → StandsFor m w →
    seen_of w t (walking.of_bucket w bucket) ≡ seen
bucket-seen m w t bucket vs seen a e s =
    ap (seen_of w t) (sym (a ∙ of_bucket-same m.store w bucket s.shows.store)) ∙ seen-same m t vs w s ∙ sym e

-- a scan answers with the pairs of the versions seen, or aborts
pub scan_replies : (m n : Engine) (t bucket : ℕ) (o : Option Cause) (seen : List ℕ) (pairs : List (ℕ × ℕ)) (r : Reply) → r ≡ reply_or_abort o (reply.Rows pairs) →
    (o ≡ None → IsShown m (λ w. seen_of w t (walking.of_bucket w bucket)) seen) → IsShown m (λ w. pairs_of w.versions [] seen) pairs →
    ((w : World) → StandsFor m w → After n t w (walk w t walking.ToRead bucket (walking.of_bucket w bucket)) o) → IsRule (λ w. scan_rule w t bucket) m n r
scan_replies m n t bucket None seen pairs r is met shown after =
    subst (IsRule (λ w. scan_rule w t bucket) m n) (sym is)
    (rule_allowed m n t (λ w. scan_rule w t bucket) (λ w. walk w t walking.ToRead bucket (walking.of_bucket w bucket)) (reply.Rows pairs)
    (λ w es s j. ap (after_scan w t (seen_of w t (walking.of_bucket w bucket))) j
    ∙ ap (λ ps. outcome (reply.Rows ps) (apply_all t w es)) (ap (pairs_of w.versions []) (met refl w s) ∙ shown w s)) after)
  where
    outcome : Reply → World → Outcome
    outcome x v = record { reply = x; world = v }
scan_replies m n t bucket (Some cause) seen pairs r is met shown after =
    subst (IsRule (λ w. scan_rule w t bucket) m n) (sym is)
    (rule_refused m n t (λ w. scan_rule w t bucket) (λ w. walk w t walking.ToRead bucket (walking.of_bucket w bucket)) cause
    (λ w c s j. ap (after_scan w t (seen_of w t (walking.of_bucket w bucket))) j) after)
