-- Fewer than two nodes have no edge between them, and there is no victim.
use Rattle.std.proofs.Common.{ℕ, ◌≡◌, ◌+◌, ◌<◌, Bool, true, false, not, ◌&&◌, eqb, List, [], ◌∷◌, length, None, sym, ap, ◌∙◌, arith}
use Rattle.std.proofs.lemmas.Bool.{eq-eqb}
use Rattle.hek_rules.specs.Cycles.{IsClosedWalk}
use Rattle.hek_rules.specs.Listing.{is_among}
use Rattle.hek_rules.proofs.VictimLaw.{none_from_no_walk}
use Rattle.hek_store.specs.Stored.{Stored}
use Rattle.hek_txn.specs.TxnTable.{TxnTable}
use Rattle.hek_deadlock.specs.Edges.{is_node, is_edge, victim_in}
use Rattle.hek_deadlock.specs.Places.{id_at}
use Rattle.hek_deadlock.proofs.GraphRows.{edge_from, edge_to}
use Rattle.hek_deadlock.proofs.Placed.{IsPlace, place_of}
use Rattle.hek_deadlock.proofs.Waiting.{joins}

-- all nodes, which are fewer than two
pub record AreLone (x : TxnTable) (ids : List ℕ) : Type 0 where
  pub nodes : (u : ℕ) → is_among ids u ≡ is_node x u
  pub few : length ids < 2

only_one : (ids : List ℕ) → length ids < 2 → (u t : ℕ) → is_among ids u ≡ true → is_among ids t ≡ true → u ≡ t
only_one ids few u t has_u has_t =
    let of_u : (i : ℕ) × IsPlace ids u i = place_of ids u has_u in
    let of_t : (i : ℕ) × IsPlace ids t i = place_of ids t has_t in
    let within_u : of_u.0 < length ids = of_u.1.within in
    let within_t : of_t.0 < length ids = of_t.1.within in
    let same : of_u.0 ≡ of_t.0 = omega arith in
    sym of_u.1.is ∙ ap (id_at ids) same ∙ of_t.1.is

third_fails : (a b c d : Bool) → c ≡ true → (a && b && not c && d) ≡ false
third_fails a b c d e = grind arith

-- no transaction waits for itself
edge_to_itself : (s : Stored) (x : TxnTable) (u t : ℕ) → u ≡ t → is_edge s x u t ≡ false
unfolding is_edge
edge_to_itself s x u t same = third_fails (is_node x u) (is_node x t) (eqb u t) _ (eq-eqb u t same)

no_edge : (s : Stored) (x : TxnTable) (ids : List ℕ) → AreLone x ids → (u t : ℕ) → is_edge s x u t ≡ true → ⊥
no_edge s x ids lone u t e =
    let same : u ≡ t = only_one ids lone.few u t (lone.nodes u ∙ edge_from s x u t e) (lone.nodes t ∙ edge_to s x u t e) in
    let none : is_edge s x u t ≡ false = edge_to_itself s x u t same in
    cc

no_walk : (s : Stored) (x : TxnTable) (ids : List ℕ) → AreLone x ids → (u : ℕ) (walk : List ℕ) → IsClosedWalk (is_edge s x) u walk → ⊥
no_walk s x ids lone u [] c = c
no_walk s x ids lone u (v ∷ []) c = no_edge s x ids lone v u c.1.0
no_walk s x ids lone u (v ∷ w ∷ ws) c = no_edge s x ids lone v w c.1.0

pub no_victim : (s : Stored) (x : TxnTable) (ids : List ℕ) → AreLone x ids → None ≡ victim_in s x
no_victim s x ids lone = sym (none_from_no_walk (is_edge s x) (length x.cores + 1) (joins s x) (no_walk s x ids lone))
