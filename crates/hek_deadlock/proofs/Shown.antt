-- If a store and a table of transactions show a world's waits, their victim is the world's.
use Rattle.std.proofs.Common.{ℕ, zero, suc, ◌≡◌, ◌+◌, Bool, ◌&&◌, ◌||◌, not, eqb, List, [], ◌∷◌, length, Some, None, refl, ap, ◌∙◌, inl, inr}
use Rattle.std.specs.Prelude.{nat_lt}
use Rattle.std.specs.List.{list_any}
use Rattle.std.proofs.lemmas.Bool.{cases_Bool}
use Rattle.hek_rules.specs.Shown.{end_word_by}
use Rattle.hek_rules.specs.Listing.{is_among, seconds_of, has}
use Rattle.hek_rules.specs.Victim.{victim_of}
use Rattle.hek_rules.specs.WaitGraph.{is_edge as is_world_edge, is_node as is_world_node, waits_by_version, victim}
use Rattle.hek_rules.specs.Waits.{readers}
use Rattle.hek_rules.specs.Words.{writer_of}
use Rattle.hek_rules.specs.World.{World, Txn, Ender, EndedAt, Held, txn_in, version_in, is_active, is_held_by}
use Rattle.hek_rules.proofs.Agree.{victim_of-agree}
use Rattle.hek_store.specs.Stored.{Stored, version_at}
use Rattle.hek_txn.specs.TxnTable.{TxnTable, waits_of, read_set_of, waiting_list_of}
use Rattle.hek_deadlock.specs.Edges.{is_node, is_named, writes_one, is_edge, victim_in}
use Rattle.hek_deadlock.specs.Shown.{ShowsWaits}

-- the writer of a word is the writer of its version
named_holds : (count u : ℕ) (e : Ender) → is_named (writer_of (end_word_by count e)) u ≡ is_held_by u e
named_holds count u (EndedAt time) = refl
named_holds zero u (Held None no_more) = refl
named_holds (suc count) u (Held None no_more) = refl
named_holds count u (Held (Some t) no_more) = refl

-- a test over the second parts of the pairs of t
abbrev of_pair : ℕ → (ℕ → Bool) → ℕ × ℕ → Bool
of_pair t test p = eqb p.0 t && test p.1

any_step : (t : ℕ) (test : ℕ → Bool) (p : ℕ × ℕ) (ps : List (ℕ × ℕ)) → list_any test (seconds_of ps t) ≡ list_any (of_pair t test) ps → list_any test (seconds_of (p ∷ ps) t) ≡ list_any (of_pair t test) (p ∷ ps)
any_step t test p ps rest =
    elim (cases_Bool (eqb p.0 t)) [
      | inl same ↦ rw same (ap (λ (b : Bool). test p.1 || b) rest)
      | inr other ↦ rw other rest
    ]

any_of_seconds : (t : ℕ) (test : ℕ → Bool) (ps : List (ℕ × ℕ)) → list_any test (seconds_of ps t) ≡ list_any (of_pair t test) ps
any_of_seconds t test [] = refl
any_of_seconds t test (p ∷ ps) = any_step t test p ps (any_of_seconds t test ps)

same_tests : (f g : ℕ → Bool) → ((v : ℕ) → f v ≡ g v) → f ≡ g
same_tests f g h = λ i. λ v. h v i

by_version : (s : Stored) (x : TxnTable) (w : World) → ShowsWaits s x w → (u t : ℕ) → writes_one s (read_set_of x t).items u ≡ waits_by_version w u t
unfolding writes_one
by_version s x w shows u t =
    ap (λ (versions : List ℕ). list_any (λ (v : ℕ). is_named (writer_of (version_at s v).end) u) versions) (shows.read_sets t)
    ∙ ap (λ (test : ℕ → Bool). list_any test (seconds_of w.read_locks t))
    (same_tests (λ (v : ℕ). is_named (writer_of (version_at s v).end) u) (λ (v : ℕ). is_held_by u (version_in w.versions v).ender) (λ v. held v))
    ∙ any_of_seconds t (λ (v : ℕ). is_held_by u (version_in w.versions v).ender) w.read_locks
  where
    held : (v : ℕ) → is_named (writer_of (version_at s v).end) u ≡ is_held_by u (version_in w.versions v).ender
    held v = ap (λ e. is_named (writer_of e) u) (shows.ends v) ∙ named_holds (readers w.read_locks v) u (version_in w.versions v).ender

by_list : (s : Stored) (x : TxnTable) (w : World) → ShowsWaits s x w → (u t : ℕ) → is_among (waiting_list_of x t).items u ≡ has w.waiters t u
by_list s x w shows u t =
    ap (λ (waiters : List ℕ). is_among waiters u) (shows.waiting_lists t)
    ∙ any_of_seconds t (λ (m : ℕ). eqb m u) w.waiters

same_node : (s : Stored) (x : TxnTable) (w : World) → ShowsWaits s x w → (u : ℕ) → is_node x u ≡ is_world_node w u
same_node s x w shows u =
    ap (λ (ts : List Txn). is_active (txn_in ts u).state && (txn_in ts u).no_more_waits && nat_lt 0 (waits_of x u)) shows.cores
    ∙ ap (λ (n : ℕ). is_active (txn_in w.txns u).state && (txn_in w.txns u).no_more_waits && nat_lt 0 n) (shows.waits u)

pub same_edge : (s : Stored) (x : TxnTable) (w : World) → ShowsWaits s x w → (u t : ℕ) → is_edge s x u t ≡ is_world_edge w u t
unfolding is_edge
same_edge s x w shows u t =
    ap (λ (b : Bool). b && is_node x t && not (eqb u t) && (writes_one s (read_set_of x t).items u || is_among (waiting_list_of x t).items u)) (same_node s x w shows u)
    ∙ ap (λ (b : Bool). is_world_node w u && b && not (eqb u t) && (writes_one s (read_set_of x t).items u || is_among (waiting_list_of x t).items u)) (same_node s x w shows t)
    ∙ ap (λ (b : Bool). is_world_node w u && is_world_node w t && not (eqb u t) && (b || is_among (waiting_list_of x t).items u)) (by_version s x w shows u t)
    ∙ ap (λ (b : Bool). is_world_node w u && is_world_node w t && not (eqb u t) && (waits_by_version w u t || b)) (by_list s x w shows u t)

pub victim_is_shown : (s : Stored) (x : TxnTable) (w : World) → ShowsWaits s x w → victim_in s x ≡ victim w
victim_is_shown s x w shows =
    ap (λ (ts : List Txn). victim_of (is_edge s x) (length ts + 1)) shows.cores
    ∙ victim_of-agree (is_edge s x) (is_world_edge w) (length w.txns + 1) (same_edge s x w shows)
