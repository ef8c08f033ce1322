-- The changes in which two worlds of a run differ lead from the first to the second; changes one after another lead on.
use Rattle.std.proofs.Common.{◌≡◌, ℕ, ◌+◌, ◌<◌, ◌∙◌, ap, sym, refl, List, [], ◌++◌, arith, length}
use Rattle.std.proofs.lemmas.Bool.{eqb-true}
use Rattle.std.specs.Prelude.{◌==◌}
use Rattle.hek_rules.specs.declared.event.Event.{Event}
use Rattle.hek_rules.specs.World.{World, declared}
use Rattle.hek_rules.specs.Run.{run}
use Rattle.hek_laws.proofs.Worlds.Fixed.{fixed-run}
use Rattle.hek_why.specs.declared.change.Change.{Change}
use Rattle.hek_why.specs.declared.change.Change.TheVariants.{Clock}
use Rattle.hek_why.specs.Changes.{field, each_below, version_changes, txn_changes, bucket_changes, changes_in}
use Rattle.hek_why.specs.Leads.{shown_version, shown_txn, shown_bucket, clock_by, count_by, version_by, txn_by, bucket_by, after, Leads}
use Rattle.hek_why.proofs.Growing.{Grown, grown_run}
use Rattle.hek_why.proofs.Leading.{Leaves, leaves_unless, leaves_each, after_both, after_field}
use Rattle.hek_why.proofs.PartsLeft.{left_version, left_txn, left_bucket}
use Rattle.hek_why.proofs.Parts.{all_versions, all_count, all_txns, all_buckets, declared_in_both}

module _ (w x : World) where
  abbrev clock_part : List Change
  clock_part = field ◌==◌ (λ a b. Clock a b) w.clock x.clock

  abbrev version_part : List Change
  version_part = each_below (version_changes w x) (length x.versions)

  abbrev txn_part : List Change
  txn_part = each_below (λ i. txn_changes w x (i + 1)) (length x.txns)

  abbrev bucket_part : List Change
  bucket_part = each_below (bucket_changes w x) x.buckets

  -- one of the four parts makes b of a, and the others leave both alone
  by_first : {X : Type 0} (by : Change → X → X) (a b : X) → after by clock_part a ≡ b → Leaves by version_part → Leaves by txn_part → Leaves by bucket_part → after by (changes_in w x) a ≡ b
  by_first by a b p q r s = after_both by (clock_part ++ version_part ++ txn_part) bucket_part a b b (after_both by (clock_part ++ version_part) txn_part a b b (after_both by clock_part version_part a b b p (q.all b)) (r.all b)) (s.all b)

  by_versions : {X : Type 0} (by : Change → X → X) (a b : X) → Leaves by clock_part → after by version_part a ≡ b → Leaves by txn_part → Leaves by bucket_part → after by (changes_in w x) a ≡ b
  by_versions by a b p q r s = after_both by (clock_part ++ version_part ++ txn_part) bucket_part a b b (after_both by (clock_part ++ version_part) txn_part a b b (after_both by clock_part version_part a a b (p.all a) q) (r.all b)) (s.all b)

  by_txns : {X : Type 0} (by : Change → X → X) (a b : X) → Leaves by clock_part → Leaves by version_part → after by txn_part a ≡ b → Leaves by bucket_part → after by (changes_in w x) a ≡ b
  by_txns by a b p q r s = after_both by (clock_part ++ version_part ++ txn_part) bucket_part a b b (after_both by (clock_part ++ version_part) txn_part a a b (after_both by clock_part version_part a a a (p.all a) (q.all a)) r) (s.all b)

  by_buckets : {X : Type 0} (by : Change → X → X) (a b : X) → Leaves by clock_part → Leaves by version_part → Leaves by txn_part → after by bucket_part a ≡ b → after by (changes_in w x) a ≡ b
  by_buckets by a b p q r s = after_both by (clock_part ++ version_part ++ txn_part) bucket_part a a b (after_both by (clock_part ++ version_part) txn_part a a a (after_both by clock_part version_part a a a (p.all a) (q.all a)) (r.all a)) s

  no_clock : {X : Type 0} (by : Change → X → X) → ((a b : ℕ) (y : X) → by (Clock a b) y ≡ y) → Leaves by clock_part
  no_clock by h = leaves_unless by (w.clock == x.clock) (Clock w.clock x.clock) (h w.clock x.clock)

  pub leads : Grown w.versions x.versions → length x.txns ≡ length w.txns → x.buckets ≡ w.buckets → Leads w x (changes_in w x)
  leads grown same_txns same_buckets = record {
    clock = by_first clock_by w.clock x.clock (after_field clock_by ◌==◌ (λ a b. Clock a b) w.clock x.clock w.clock (λ e. sym (eqb-true w.clock x.clock e)))
        (leaves_each clock_by (version_changes w x) (λ v. left_version clock_by w x v (λ a b y. refl) (λ a b y. refl) (λ k l a b y. refl)) (length x.versions))
        (leaves_each clock_by (λ i. txn_changes w x (i + 1)) (λ i. left_txn clock_by w x (i + 1) (λ c y. refl)) (length x.txns))
        (leaves_each clock_by (bucket_changes w x) (λ b. left_bucket clock_by w x b (λ m n y. refl) (λ m n y. refl)) x.buckets);
    count = by_versions count_by (length w.versions) (length x.versions) (no_clock count_by (λ a b y. refl)) (all_count w x grown)
        (leaves_each count_by (λ i. txn_changes w x (i + 1)) (λ i. left_txn count_by w x (i + 1) (λ c y. refl)) (length x.txns))
        (leaves_each count_by (bucket_changes w x) (λ b. left_bucket count_by w x b (λ m n y. refl) (λ m n y. refl)) x.buckets);
    versions = λ v. by_versions (version_by v) (shown_version w v) (shown_version x v) (no_clock (version_by v) (λ a b y. refl)) (all_versions w x grown v)
        (leaves_each (version_by v) (λ i. txn_changes w x (i + 1)) (λ i. left_txn (version_by v) w x (i + 1) (λ c y. refl)) (length x.txns))
        (leaves_each (version_by v) (bucket_changes w x) (λ b. left_bucket (version_by v) w x b (λ m n y. refl) (λ m n y. refl)) x.buckets);
    txns = λ t h. by_txns (txn_by t) (shown_txn w t) (shown_txn x t) (no_clock (txn_by t) (λ a b y. refl))
        (leaves_each (txn_by t) (version_changes w x) (λ v. left_version (txn_by t) w x v (λ a b y. refl) (λ a b y. refl) (λ k l a b y. refl)) (length x.versions))
        (all_txns w x same_txns t h)
        (leaves_each (txn_by t) (bucket_changes w x) (λ b. left_bucket (txn_by t) w x b (λ m n y. refl) (λ m n y. refl)) x.buckets);
    buckets = λ b h. by_buckets (bucket_by b) (shown_bucket w b) (shown_bucket x b) (no_clock (bucket_by b) (λ m n y. refl))
        (leaves_each (bucket_by b) (version_changes w x) (λ v. left_version (bucket_by b) w x v (λ m n y. refl) (λ m n y. refl) (λ k l m n y. refl)) (length x.versions))
        (leaves_each (bucket_by b) (λ i. txn_changes w x (i + 1)) (λ i. left_txn (bucket_by b) w x (i + 1) (λ c y. refl)) (length x.txns))
        (all_buckets w x b same_buckets h);
    same_txns = same_txns;
    same_buckets = same_buckets;
  }

-- a run leads from its first world to its last one
pub leads_run : (w : World) (es : List Event) → Leads w (run w es) (changes_in w (run w es))
leads_run w es = let fixed = fixed-run w es in leads w (run w es) (grown_run w es) fixed.count fixed.buckets

-- no change leads from a world to itself
pub leads_none : (w : World) → Leads w w []
leads_none w = record { clock = refl; count = refl; versions = λ v. refl; txns = λ t h. refl; buckets = λ b h. refl; same_txns = refl; same_buckets = refl }

-- changes that lead to a world, and then those that lead on from there
pub leads_on : (w y x : World) (cs ds : List Change) → Leads w y cs → Leads y x ds → Leads w x (cs ++ ds)
leads_on w y x cs ds p q =
    let many = q.same_buckets in
    record {
      clock = after_both clock_by cs ds w.clock y.clock x.clock p.clock q.clock;
      count = after_both count_by cs ds (length w.versions) (length y.versions) (length x.versions) p.count q.count;
      versions = λ v. after_both (version_by v) cs ds (shown_version w v) (shown_version y v) (shown_version x v) (p.versions v) (q.versions v);
      txns = λ t h. after_both (txn_by t) cs ds (shown_txn w t) (shown_txn y t) (shown_txn x t) (p.txns t (declared_in_both y.txns x.txns t q.same_txns h)) (q.txns t h);
      buckets = λ b h. after_both (bucket_by b) cs ds (shown_bucket w b) (shown_bucket y b) (shown_bucket x b) (p.buckets b (omega (arith, h, many))) (q.buckets b h);
      same_txns = q.same_txns ∙ p.same_txns;
      same_buckets = q.same_buckets ∙ p.same_buckets;
    }
