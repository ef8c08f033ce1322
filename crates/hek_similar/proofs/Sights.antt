-- What a reader sees of a version is the same in similar worlds, if both look alike at its read times.
use Rattle.std.proofs.Common.{◌≡◌, ℕ, Bool, true, List, [], ◌∷◌, Some, None, Option, refl, ◌∙◌, ap, sym, subst}
use Rattle.std.proofs.lemmas.Bool.{and_from}
use Rattle.std.specs.Prelude.{map, ◌==◌, nat_lt, if◌then◌else◌}
use Rattle.hek_rules.specs.declared.event.Level.{Level}
use Rattle.hek_rules.specs.declared.event.Level.TheVariants.{Serializable, Repeatable, Snapshot}
use Rattle.hek_rules.specs.declared.event.State.{State}
use Rattle.hek_rules.specs.declared.event.State.TheVariants as state
use Rattle.hek_rules.specs.declared.event.Sight.{Sight}
use Rattle.hek_rules.specs.declared.event.Sight.TheVariants.{Seen, Hidden, HiddenIf}
use Rattle.hek_rules.specs.declared.word.BeginRecord.{BeginRecord}
use Rattle.hek_rules.specs.declared.word.BeginRecord.TheVariants.{At, By}
use Rattle.hek_rules.specs.World.{World, Version, Txn, Ender, EndedAt, Held, txn_in, version_in, is_prepared}
use Rattle.hek_rules.specs.Visibility.{under_writer, end_sight, promised, from_creator, own_sight, sight_by, sight, is_seen}
use Rattle.hek_rules.specs.Checks.{is_open}
use Rattle.hek_rules.specs.Walk.{looks_at, read_time, seen_of}
use Rattle.hek_similar.specs.Similar.{timeless_txn, timeless_version, timeless_creator, timeless_ender, made_time, ended_time, is_snapshot, LookAlike}
use Rattle.hek_similar.proofs.Lists.{same-txn, same-version}
use Rattle.hek_similar.proofs.Alike.{Alike, Past, clock-look}
use Rattle.hek_similar.proofs.Counts.{beside}

-- under a writer, and from a creator, in one state
under-state : (s : State) (r q u e f : ℕ) → (is_prepared s ≡ true → nat_lt r e ≡ nat_lt q f) → under_writer r u e s ≡ under_writer q u f s
under-state state.NotBegun r q u e f h = refl
under-state state.Active r q u e f h = refl
under-state state.Preparing r q u e f h = ap (λ b. if b then Seen else HiddenIf u) (h refl)
under-state state.Committed r q u e f h = ap (λ b. if b then Seen else Hidden) (h refl)
under-state (state.Aborted cause) r q u e f h = refl
under-state state.Terminated r q u e f h = refl

from-state : (s : State) (r q u e f : ℕ) (by_end : Sight) → (is_prepared s ≡ true → nat_lt r e ≡ nat_lt q f) → from_creator r u e s by_end ≡ from_creator q u f s by_end
from-state state.NotBegun r q u e f o h = refl
from-state state.Active r q u e f o h = refl
from-state state.Preparing r q u e f o h = ap (λ b. if b then Hidden else promised u o) (h refl)
from-state state.Committed r q u e f o h = ap (λ b. if b then Hidden else o) (h refl)
from-state (state.Aborted cause) r q u e f o h = refl
from-state state.Terminated r q u e f o h = refl

own-timeless : (e : Ender) → own_sight (timeless_ender e) ≡ own_sight e
own-timeless (EndedAt time) = refl
own-timeless (Held writer no_more) = refl

same-own : (e f : Ender) → timeless_ender e ≡ timeless_ender f → own_sight e ≡ own_sight f
same-own e f s = sym (own-timeless e) ∙ ap own_sight s ∙ own-timeless f

module _ (vs us : List Version) (ts ss : List Txn) (vers : map timeless_version vs ≡ map timeless_version us) (txns : map timeless_txn ts ≡ map timeless_txn ss) (reader r q : ℕ) (l : LookAlike vs us ts ss r q) where
  same-state : (u : ℕ) → (txn_in ts u).state ≡ (txn_in ss u).state
  same-state u = ap (λ y. y.state) (same-txn ts ss txns u)

  held-same : (writer : Option ℕ) (no_more : Bool) → end_sight ts reader r (Held writer no_more) ≡ end_sight ss reader q (Held writer no_more)
  held-same None no_more = refl
  held-same (Some u) no_more =
      ap (λ s. if u == reader then Hidden else s)
      (under-state (txn_in ts u).state r q u (txn_in ts u).end (txn_in ss u).end (l.prepared u) ∙ ap (under_writer q u (txn_in ss u).end) (same-state u))

  end-same : (e f : Ender) → timeless_ender e ≡ timeless_ender f → nat_lt r (ended_time e) ≡ nat_lt q (ended_time f) → end_sight ts reader r e ≡ end_sight ss reader q f
  end-same (EndedAt a) (EndedAt b) s h = ap (λ c. if c then Seen else Hidden) h
  end-same (EndedAt a) (Held writer no_more) s h = cc
  end-same (Held writer no_more) (EndedAt a) s h = cc
  end-same (Held writer no_more) (Held x n) s h = held-same writer no_more ∙ ap (end_sight ss reader q) s

  by-same : (u : ℕ) (e f : Ender) → timeless_ender e ≡ timeless_ender f → nat_lt r (ended_time e) ≡ nat_lt q (ended_time f) → sight_by ts reader r (By u) e ≡ sight_by ss reader q (By u) f
  by-same u e f s h =
      ap (λ o. if u == reader then o else from_creator r u (txn_in ts u).end (txn_in ts u).state (end_sight ts reader r e)) (same-own e f s)
      ∙ ap (λ o. if u == reader then own_sight f else o)
      (ap (from_creator r u (txn_in ts u).end (txn_in ts u).state) (end-same e f s h)
      ∙ from-state (txn_in ts u).state r q u (txn_in ts u).end (txn_in ss u).end (end_sight ss reader q f) (l.prepared u)
      ∙ ap (λ o. from_creator q u (txn_in ss u).end o (end_sight ss reader q f)) (same-state u))

  both-same : (c d : BeginRecord) (e f : Ender) → timeless_creator c ≡ timeless_creator d → timeless_ender e ≡ timeless_ender f → nat_lt r (made_time c) ≡ nat_lt q (made_time d) → nat_lt r (ended_time e) ≡ nat_lt q (ended_time f) → sight_by ts reader r c e ≡ sight_by ss reader q d f
  both-same (At a) (At b) e f s t h k = ap (λ o. if o then Hidden else end_sight ts reader r e) h ∙ ap (λ o. if nat_lt q b then Hidden else o) (end-same e f t k)
  both-same (At a) (By u) e f s t h k = cc
  both-same (By u) (At a) e f s t h k = cc
  both-same (By u) (By n) e f s t h k = by-same u e f t k ∙ ap (λ o. sight_by ss reader q o f) s

  pub sight-same : (v : ℕ) → sight_by ts reader r (version_in vs v).creator (version_in vs v).ender ≡ sight_by ss reader q (version_in us v).creator (version_in us v).ender
  sight-same v =
      let e : timeless_version (version_in vs v) ≡ timeless_version (version_in us v) = same-version vs us vers v in
      both-same _ _ _ _ (ap (λ y. y.creator) e) (ap (λ y. y.ender) e) (l.made v) (l.ended v)

module _ (w : World) (c : ℕ) (us : List Version) (ss : List Txn) (a : Alike w.versions us w.txns ss) (p : Past w.clock w.versions w.txns) (q : Past c us ss) (t : ℕ) (o : is_open (txn_in w.txns t) ≡ true) where
  abbrev x : World
  x = beside w c us ss

  look-by : (level : Level) → (txn_in w.txns t).level ≡ level → LookAlike w.versions us w.txns ss (looks_at level (txn_in w.txns t).begin w.clock) (looks_at level (txn_in ss t).begin c)
  look-by Serializable is = clock-look w.clock c w.versions us w.txns ss a.versions p q
  look-by Repeatable is = clock-look w.clock c w.versions us w.txns ss a.versions p q
  look-by Snapshot is = a.looks t (and_from _ _ (ap is_snapshot is) o)

  -- an open transaction finds the same before and after its read times
  pub read-look : LookAlike w.versions us w.txns ss (read_time w t) (read_time x t)
  read-look =
      subst (λ n. LookAlike w.versions us w.txns ss (read_time w t) (looks_at n (txn_in ss t).begin c)) (ap (λ y. y.level) (same-txn w.txns ss a.txns t))
      (look-by (txn_in w.txns t).level refl)

  pub same-sight : (v : ℕ) → sight w t (read_time w t) v ≡ sight x t (read_time x t) v
  same-sight v = sight-same w.versions us w.txns ss a.versions a.txns t (read_time w t) (read_time x t) read-look v

  pub same-seen : (vs : List ℕ) → seen_of w t vs ≡ seen_of x t vs
  same-seen [] = refl
  same-seen (v ∷ vs) =
      ap (λ b. if b then v ∷ seen_of w t vs else seen_of w t vs) (ap is_seen (same-sight v))
      ∙ ap (λ n. if is_seen (sight x t (read_time x t) v) then v ∷ n else n) (same-seen vs)
