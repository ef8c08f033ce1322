-- The victim is a declared transaction that has finished and waits, and it is the victim of closed walks.
use Rattle.std.proofs.Common.{ℕ, zero, suc, ◌≡◌, ◌+◌, ◌<◌, true, List, [], ◌∷◌, length, Option, Some, None, refl, sym, subst, arith}
use Rattle.std.specs.Option.{IfSome}
use Rattle.std.proofs.lemmas.Bool.{and_parts, ltb-true}
use Rattle.hek_rules.specs.declared.event.State.{State}
use Rattle.hek_rules.specs.declared.event.State.TheVariants.{NotBegun, Active, Preparing, Committed, Aborted, Terminated}
use Rattle.hek_rules.specs.Cycles.{IsClosedWalk, JoinsBelow}
use Rattle.hek_rules.specs.World.{txn_in, is_active}
use Rattle.hek_rules.proofs.VictimLaw.{victim_found, none_found}
use Rattle.hek_store.specs.Stored.{Stored}
use Rattle.hek_txn.specs.TxnTable.{TxnTable, waits_of}
use Rattle.hek_deadlock.specs.Edges.{is_node, is_edge, victim_in, IsWaiting}
use Rattle.hek_deadlock.specs.Victims.{IsVictimOrNone}
use Rattle.hek_deadlock.proofs.GraphRows.{node_below, edge_from, edge_to}

active_is : (s : State) → is_active s ≡ true → s ≡ Active
active_is NotBegun e = cc
active_is Active e = refl
active_is Preparing e = cc
active_is Committed e = cc
active_is (Aborted cause) e = cc
active_is Terminated e = cc

pub node_named : (x : TxnTable) (t : ℕ) → is_node x t ≡ true → 0 < t
node_named x zero e = cc
node_named x (suc i) e = omega arith

node_waits : (x : TxnTable) (t : ℕ) → is_node x t ≡ true → IsWaiting x t
node_waits x t e =
    let parts = and_parts _ _ e in
    let first = and_parts _ _ parts.0 in
    let below : t < length x.cores + 1 = node_below x t e in
    record {
      declared = record { named = node_named x t e; within = omega arith };
      active = active_is (txn_in x.cores t).state first.0;
      no_more_waits = first.1;
      waits = ltb-true 0 (waits_of x t) parts.1;
    }

pub joins : (s : Stored) (x : TxnTable) → JoinsBelow (is_edge s x) (length x.cores + 1)
joins s x = record {
  from = (λ u t e. node_below x u (edge_from s x u t e));
  to = (λ u t e. node_below x t (edge_to s x u t e));
}

first_is_node : (s : Stored) (x : TxnTable) (u : ℕ) (walk : List ℕ) → IsClosedWalk (is_edge s x) u walk → is_node x u ≡ true
first_is_node s x u [] c = absurd c
first_is_node s x u (v ∷ []) c = subst (λ (n : ℕ). is_node x n ≡ true) c.0 (edge_from s x v u c.1.0)
first_is_node s x u (v ∷ w ∷ ws) c = subst (λ (n : ℕ). is_node x n ≡ true) c.0 (edge_from s x v w c.1.0)

pub victim_waits : (s : Stored) (x : TxnTable) (answer : Option (ℕ × List ℕ)) → answer ≡ victim_in s x → IfSome answer (λ a. IsWaiting x a.0)
victim_waits s x None e = tt
victim_waits s x (Some a) e =
    node_waits x a.0 (first_is_node s x a.0 a.1 (victim_found (is_edge s x) (length x.cores + 1) (joins s x) a.0 a.1 (sym e)).closed)

pub victim_of_walks : (s : Stored) (x : TxnTable) (answer : Option (ℕ × List ℕ)) → answer ≡ victim_in s x → IsVictimOrNone (is_edge s x) answer
victim_of_walks s x None e = none_found (is_edge s x) (length x.cores + 1) (joins s x) (sym e)
victim_of_walks s x (Some a) e = victim_found (is_edge s x) (length x.cores + 1) (joins s x) a.0 a.1 (sym e)
