-- Versions and transactions of similar worlds, and the changes that leave them similar.
use Rattle.std.proofs.Common.{◌≡◌, ℕ, ◌<◌, Bool, true, false, List, [], ◌∷◌, ◌++◌, None, inl, refl, ◌∙◌, ap, sym, length, arith, ⊎_elim}
use Rattle.std.proofs.lemmas.Bool.{false≢true, and_parts, lt-ltb, le-ltb}
use Rattle.std.specs.Prelude.{map, not, nat_lt, if◌then◌else◌, ◌⊎◌}
use Rattle.hek_rules.specs.declared.event.State.{State}
use Rattle.hek_rules.specs.declared.event.State.TheVariants as state
use Rattle.hek_rules.specs.declared.word.BeginRecord.{BeginRecord}
use Rattle.hek_rules.specs.declared.word.BeginRecord.TheVariants.{At, By}
use Rattle.hek_rules.specs.Words.{infinity}
use Rattle.hek_rules.specs.World.{World, Version, Txn, Ender, EndedAt, Held, txn_in, set_txn, version_in, is_active, is_prepared}
use Rattle.hek_rules.specs.Checks.{is_open}
use Rattle.hek_rules.specs.Locks.{set_ender, with_ender}
use Rattle.hek_rules.specs.Table.{doom, set_creator}
use Rattle.hek_laws.specs.Sound.{Sound, IsSoundCreator, IsSoundEnder}
use Rattle.hek_similar.specs.Similar.{timeless_txn, timeless_version, timeless_creator, timeless_ender, made_time, ended_time, is_snapshot, looks_back, LookAlike}
use Rattle.hek_similar.proofs.Lists.{same-txn, same-version, same-length, set-same, set_txn-same, each_version-set, each_two_txns-set, each_version-append, append-same}

pub record Alike (vs us : List Version) (ts ss : List Txn) : Type 0 where
  pub versions : map timeless_version vs ≡ map timeless_version us
  pub txns : map timeless_txn ts ≡ map timeless_txn ss
  pub looks : (t : ℕ) → looks_back (txn_in ts t) ≡ true → LookAlike vs us ts ss (txn_in ts t).begin (txn_in ss t).begin

active-unprepared : (s : State) → is_active s ≡ true → is_prepared s ≡ true → ⊥
active-unprepared state.Active a p = cc
active-unprepared s a p = cc

open-unprepared : (x : Txn) → looks_back x ≡ true → is_prepared x.state ≡ true → ⊥
open-unprepared x l p = active-unprepared x.state (and_parts _ _ (and_parts (is_snapshot x.level) (is_open x) l).1).0 p

pub closed-blind : (x : Txn) → is_open x ≡ false → looks_back x ≡ true → ⊥
closed-blind x c l = false≢true (sym c ∙ (and_parts (is_snapshot x.level) (is_open x) l).1)

-- nothing is before 0, the time of a word that has none
pub past-zero : (r q : ℕ) → nat_lt r 0 ≡ nat_lt q 0
past-zero r q = le-ltb r 0 (omega arith) ∙ sym (le-ltb q 0 (omega arith))

module _ (vs us : List Version) (ts ss : List Txn) (a : Alike vs us ts ss) where
  -- ---- a transaction changes
  look-set : (t : ℕ) (y z : Txn) (r q : ℕ) → LookAlike vs us ts ss r q → (is_prepared y.state ≡ true → nat_lt r y.end ≡ nat_lt q z.end) → LookAlike vs us (set_txn ts t y) (set_txn ss t z) r q
  look-set t y z r q l new = record {
    made = l.made;
    ended = l.ended;
    prepared = each_two_txns-set (λ u b c. is_prepared b.state ≡ true → nat_lt r b.end ≡ nat_lt q c.end) ts ss t y z (same-length timeless_txn ts ss a.txns) l.prepared new;
  }

  pub set-txn : (t : ℕ) (y z : Txn) → timeless_txn y ≡ timeless_txn z →
      (is_prepared y.state ≡ true → (u : ℕ) → looks_back (txn_in ts u) ≡ true → nat_lt (txn_in ts u).begin y.end ≡ nat_lt (txn_in ss u).begin z.end) →
      (looks_back y ≡ true → LookAlike vs us ts ss y.begin z.begin) →
      Alike vs us (set_txn ts t y) (set_txn ss t z)
  set-txn t y z e ends begins = record {
    versions = a.versions;
    txns = set_txn-same ts ss t y z a.txns e;
    looks = each_two_txns-set (λ u b c. looks_back b ≡ true → LookAlike vs us (set_txn ts t y) (set_txn ss t z) b.begin c.begin) ts ss t y z (same-length timeless_txn ts ss a.txns)
        (λ u l. look-set t y z _ _ (a.looks u l) (λ p. ends p u l))
        (λ l. look-set t y z _ _ (begins l) (λ p. absurd (open-unprepared y l p)));
  }

  -- ---- a version changes
  pub set-ender : (v : ℕ) (e f : Ender) → timeless_ender e ≡ timeless_ender f →
      ((u : ℕ) → looks_back (txn_in ts u) ≡ true → nat_lt (txn_in ts u).begin (ended_time e) ≡ nat_lt (txn_in ss u).begin (ended_time f)) →
      Alike (set_ender vs v e) (set_ender us v f) ts ss
  set-ender v e f same ends =
      let y : Version = with_ender (version_in vs v) e in
      let z : Version = with_ender (version_in us v) f in
      let long : length vs ≡ length us = same-length timeless_version vs us a.versions in
      record {
        versions = set-same timeless_version vs us v y z a.versions
            (ap {A = Version} {B = Version} (λ x. record x { ender = timeless_ender e }) (same-version vs us a.versions v) ∙ ap {B = Version} (λ d. record (timeless_version (version_in us v)) { ender = d }) same);
        txns = a.txns;
        looks = λ u l. record {
          made = each_version-set (λ n b c. nat_lt (txn_in ts u).begin (made_time b.creator) ≡ nat_lt (txn_in ss u).begin (made_time c.creator)) vs us v y z long (a.looks u l).made ((a.looks u l).made v);
          ended = each_version-set (λ n b c. nat_lt (txn_in ts u).begin (ended_time b.ender) ≡ nat_lt (txn_in ss u).begin (ended_time c.ender)) vs us v y z long (a.looks u l).ended (ends u l);
          prepared = (a.looks u l).prepared;
        };
      }

  pub set-creator : (v : ℕ) (e f : BeginRecord) → timeless_creator e ≡ timeless_creator f →
      ((u : ℕ) → looks_back (txn_in ts u) ≡ true → nat_lt (txn_in ts u).begin (made_time e) ≡ nat_lt (txn_in ss u).begin (made_time f)) →
      Alike (set_creator vs v e) (set_creator us v f) ts ss
  set-creator v e f same makes =
      let y : Version = record (version_in vs v) { creator = e } in
      let z : Version = record (version_in us v) { creator = f } in
      let long : length vs ≡ length us = same-length timeless_version vs us a.versions in
      record {
        versions = set-same timeless_version vs us v y z a.versions
            (ap {A = Version} {B = Version} (λ x. record x { creator = timeless_creator e }) (same-version vs us a.versions v) ∙ ap {B = Version} (λ d. record (timeless_version (version_in us v)) { creator = d }) same);
        txns = a.txns;
        looks = λ u l. record {
          made = each_version-set (λ n b c. nat_lt (txn_in ts u).begin (made_time b.creator) ≡ nat_lt (txn_in ss u).begin (made_time c.creator)) vs us v y z long (a.looks u l).made (makes u l);
          ended = each_version-set (λ n b c. nat_lt (txn_in ts u).begin (ended_time b.ender) ≡ nat_lt (txn_in ss u).begin (ended_time c.ender)) vs us v y z long (a.looks u l).ended ((a.looks u l).ended v);
          prepared = (a.looks u l).prepared;
        };
      }

  pub add-one : (key value t : ℕ) → let x : Version = record { key = key; value = value; creator = By t; ender = Held None false } in Alike (vs ++ x ∷ []) (us ++ x ∷ []) ts ss
  add-one key value t =
      let x : Version = record { key = key; value = value; creator = By t; ender = Held None false } in
      let long : length vs ≡ length us = same-length timeless_version vs us a.versions in
      record {
        versions = append-same timeless_version vs us (x ∷ []) a.versions;
        txns = a.txns;
        looks = λ u l. record {
          made = each_version-append (λ b c. nat_lt (txn_in ts u).begin (made_time b.creator) ≡ nat_lt (txn_in ss u).begin (made_time c.creator)) vs us x x long (a.looks u l).made (past-zero _ _);
          ended = each_version-append (λ b c. nat_lt (txn_in ts u).begin (ended_time b.ender) ≡ nat_lt (txn_in ss u).begin (ended_time c.ender)) vs us x x long (a.looks u l).ended (past-zero _ _);
          prepared = (a.looks u l).prepared;
        };
      }

-- ---- transactions that no longer look
-- a transaction that reads no more: its new state may be prepared only if it was
pub close-txn : (vs us : List Version) (ts ss : List Txn) → Alike vs us ts ss → (t : ℕ) (y z : Txn) → timeless_txn y ≡ timeless_txn z → is_open y ≡ false →
    (is_prepared y.state ≡ true → (u : ℕ) → looks_back (txn_in ts u) ≡ true → nat_lt (txn_in ts u).begin y.end ≡ nat_lt (txn_in ss u).begin z.end) →
    Alike vs us (set_txn ts t y) (set_txn ss t z)
close-txn vs us ts ss a t y z e closed ends = set-txn vs us ts ss a t y z e ends (λ l. absurd (closed-blind y closed l))

pub doom-alike : (vs us : List Version) (ts ss : List Txn) (xs : List ℕ) → Alike vs us ts ss → Alike vs us (doom ts xs) (doom ss xs)
doom-alike vs us ts ss [] a = a
doom-alike vs us ts ss (x ∷ xs) a =
    doom-alike vs us (set_txn ts x (record (txn_in ts x) { abort_now = true })) (set_txn ss x (record (txn_in ss x) { abort_now = true })) xs
    (set-txn vs us ts ss a x (record (txn_in ts x) { abort_now = true }) (record (txn_in ss x) { abort_now = true }) (ap {A = Txn} {B = Txn} (λ y. record y { abort_now = true }) (same-txn ts ss a.txns x))
    (λ p u l. (a.looks u l).prepared x p) (λ l. a.looks x l))

-- ---- the clock
-- every time is below the clock, or infinity
pub record Past (c : ℕ) (vs : List Version) (ts : List Txn) : Type 0 where
  pub clock : c < infinity
  pub begins : (t : ℕ) → (txn_in ts t).begin < c
  pub ends : (t : ℕ) → (txn_in ts t).end < c
  pub made : (v : ℕ) → (made_time (version_in vs v).creator < c) ⊎ (made_time (version_in vs v).creator ≡ infinity)
  pub ended : (v : ℕ) → ended_time (version_in vs v).ender < c

pub sound-past : (w : World) → Sound w → Past w.clock w.versions w.txns
sound-past w s = record {
  clock = s.bounded;
  begins = s.times.begins_below;
  ends = s.times.ends_below;
  made = λ v. makes (version_in w.versions v).creator (s.creators v);
  ended = λ v. ends (version_in w.versions v).ender (s.enders v);
}
  where
    makes : (c : BeginRecord) → IsSoundCreator w c → (made_time c < w.clock) ⊎ (made_time c ≡ infinity)
    makes (At time) h = h
    makes (By u) h = inl s.times.started

    ends : (e : Ender) → IsSoundEnder w e → ended_time e < w.clock
    ends (EndedAt time) h = h
    ends (Held writer no_more) h = s.times.started

-- what the clock finds ahead is what never comes
clock-made : (c time : ℕ) → c < infinity → (time < c) ⊎ (time ≡ infinity) → nat_lt c time ≡ not (nat_lt time infinity)
clock-made c time b h =
    ⊎_elim (λ l. le-ltb c time (omega arith) ∙ sym (ap not (lt-ltb time infinity (omega arith))))
    (λ e. lt-ltb c time (omega arith) ∙ sym (ap not (le-ltb time infinity (omega arith)))) h

pub comes-timeless : (c : BeginRecord) → nat_lt (made_time (timeless_creator c)) infinity ≡ nat_lt (made_time c) infinity
comes-timeless (At time) = by (nat_lt time infinity)
  where
    by : (b : Bool) → nat_lt (if b then 0 else infinity) infinity ≡ b
    by true = refl
    by false = refl
comes-timeless (By u) = refl

pub same-comes : (c d : BeginRecord) → timeless_creator c ≡ timeless_creator d → nat_lt (made_time c) infinity ≡ nat_lt (made_time d) infinity
same-comes c d e = sym (comes-timeless c) ∙ ap (λ b. nat_lt (made_time b) infinity) e ∙ comes-timeless d

pub clock-look : (c d : ℕ) (vs us : List Version) (ts ss : List Txn) → map timeless_version vs ≡ map timeless_version us → Past c vs ts → Past d us ss → LookAlike vs us ts ss c d
clock-look c d vs us ts ss e p q = record {
  made = λ v. clock-made c _ p.clock (p.made v) ∙ ap not (same-comes _ _ (ap (λ x. x.creator) (same-version vs us e v))) ∙ sym (clock-made d _ q.clock (q.made v));
  ended = λ v. le-ltb c _ (omega (arith, p.ended v)) ∙ sym (le-ltb d _ (omega (arith, q.ended v)));
  prepared = λ u _. le-ltb c _ (omega (arith, p.ends u)) ∙ sym (le-ltb d _ (omega (arith, q.ends u)));
}

-- every begin is before the clock, and before infinity
pub begins-before : (c d time later : ℕ) → time < c → later < d → nat_lt time c ≡ nat_lt later d
begins-before c d time later h k = lt-ltb time c h ∙ sym (lt-ltb later d k)
