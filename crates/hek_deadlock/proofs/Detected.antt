-- The victim among the places of the nodes, as an ID, is that of the store and the transactions.
use Rattle.std.proofs.Common.{ℕ, zero, suc, ◌≡◌, ◌+◌, ◌<◌, List, [], ◌∷◌, length, Vec, Global, Option, Some, None, sym, ap, ◌∙◌, subst, arith}
use Rattle.std.specs.List.{All}
use Rattle.std.specs.Option.{IfSome}
use Rattle.hek_rules.specs.Listing.{is_among}
use Rattle.hek_rules.specs.Victim.{victim_of}
use Rattle.hek_store.specs.Stored.{Stored}
use Rattle.hek_txn.specs.TxnTable.{TxnTable}
use Rattle.hek_deadlock.specs.Edges.{is_node, is_edge, victim_in}
use Rattle.hek_deadlock.specs.Places.{IsRising, AreOfPlaces, ArePlaces, answer_at}
use Rattle.hek_deadlock.specs.Rows.{waits_by_rows}
use Rattle.hek_deadlock.proofs.GraphRows.{edge_from, edge_to, rows_join}
use Rattle.hek_deadlock.proofs.Placed.{IsPlaced, AreBelow, HaveVictimPlaces, victim_places, victim_at, none_at}
use Rattle.hek_deadlock.proofs.Waiting.{joins}

-- the nodes and the rows that the search works on
pub record IsGraph (s : Stored) (x : TxnTable) (ids : List ℕ) (rows : List (Vec ℕ Global)) : Type 0 where
  pub rising : IsRising ids
  pub nodes : (u : ℕ) → is_among ids u ≡ is_node x u
  pub edges : AreOfPlaces (is_edge s x) ids rows

placed : (s : Stored) (x : TxnTable) (ids : List ℕ) (rows : List (Vec ℕ Global)) → IsGraph s x ids rows → IsPlaced (is_edge s x) (waits_by_rows rows) ids
placed s x ids rows g = record {
  rising = g.rising;
  from = λ u t e. g.nodes u ∙ edge_from s x u t e;
  to = λ u t e. g.nodes t ∙ edge_to s x u t e;
  joins = rows_join rows (length ids) g.edges.count g.edges.range;
  same = g.edges.edges;
}

all_below : (n : ℕ) (xs : List ℕ) → AreBelow n xs → All (λ i. i < n) xs
all_below n [] b i d lt = absurd (omega arith)
all_below n (x ∷ xs) b zero d lt = b.0
all_below n (x ∷ xs) b (suc i) d lt = all_below n xs b.1 i d (omega arith)

counted : (s : Stored) (x : TxnTable) (ids : List ℕ) (rows : List (Vec ℕ Global)) → IsGraph s x ids rows → (o : Option (ℕ × List ℕ)) → o ≡ victim_of (waits_by_rows rows) (length rows) → victim_of (waits_by_rows rows) (length ids) ≡ o
counted s x ids rows g o e = ap (λ (n : ℕ). victim_of (waits_by_rows rows) n) (sym g.edges.count) ∙ sym e

pub found_places : (s : Stored) (x : TxnTable) (ids : List ℕ) (rows : List (Vec ℕ Global)) → IsGraph s x ids rows → (found : Option (ℕ × List ℕ)) → found ≡ victim_of (waits_by_rows rows) (length rows) → IfSome found (ArePlaces ids)
found_places s x ids rows g None e = tt
found_places s x ids rows g (Some a) e =
    let h : HaveVictimPlaces ids a.0 a.1 = victim_places (waits_by_rows rows) ids (rows_join rows (length ids) g.edges.count g.edges.range) a.0 a.1 (counted s x ids rows g (Some a) e) in
    record { victim = h.first; members = all_below (length ids) a.1 h.members }

pub found_victim : (s : Stored) (x : TxnTable) (ids : List ℕ) (rows : List (Vec ℕ Global)) → IsGraph s x ids rows → (found : Option (ℕ × List ℕ)) → found ≡ victim_of (waits_by_rows rows) (length rows) → answer_at ids found ≡ victim_in s x
found_victim s x ids rows g None e =
    sym (none_at (is_edge s x) (waits_by_rows rows) (length x.cores + 1) ids (joins s x) (placed s x ids rows g) (counted s x ids rows g None e))
found_victim s x ids rows g (Some a) e =
    sym (victim_at (is_edge s x) (waits_by_rows rows) (length x.cores + 1) ids (joins s x) (placed s x ids rows g) a.0 a.1 (counted s x ids rows g (Some a) e))

-- the nodes and rows of slices that read these lists
pub graph_of : (s : Stored) (x : TxnTable) (ids seen : List ℕ) (rows : List (Vec ℕ Global)) → IsRising ids → ((u : ℕ) → is_among ids u ≡ is_node x u) → seen ≡ ids → AreOfPlaces (is_edge s x) seen rows → IsGraph s x ids rows
graph_of s x ids seen rows rising nodes same edges =
    record { rising = rising; nodes = nodes; edges = subst (λ (ns : List ℕ). AreOfPlaces (is_edge s x) ns rows) same edges }

pub found_in : (rows seen : List (Vec ℕ Global)) (found : Option (ℕ × List ℕ)) → seen ≡ rows → found ≡ victim_of (waits_by_rows seen) (length seen) → found ≡ victim_of (waits_by_rows rows) (length rows)
found_in rows seen found same e = e ∙ ap (λ (r : List (Vec ℕ Global)). victim_of (waits_by_rows r) (length r)) same
