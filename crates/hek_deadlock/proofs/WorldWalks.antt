-- In each world only existing transactions wait for one another, so its victim is the one of closed walks.
use Rattle.std.proofs.Common.{ℕ, ◌≡◌, ◌+◌, ◌<◌, true, length}
use Rattle.std.proofs.lemmas.Bool.{and_parts}
use Rattle.hek_rules.specs.Cycles.{JoinsBelow}
use Rattle.hek_rules.specs.WaitGraph.{is_edge, is_node}
use Rattle.hek_rules.specs.World.{World}
use Rattle.hek_rules.proofs.VictimLaw.{victim_found, found_from_victim, none_found, none_from_no_walk}
use Rattle.hek_deadlock.specs.Victims.{VictimIsOfWalks, NoneIsOfWalks}
use Rattle.hek_deadlock.proofs.GraphRows.{active_below, first_of, second_of}

waiting_below : (w : World) (u : ℕ) → is_node w u ≡ true → u < length w.txns + 1
waiting_below w u e = active_below w.txns u (and_parts _ _ (and_parts _ _ e).0).0

world_joins : (w : World) → JoinsBelow (is_edge w) (length w.txns + 1)
world_joins w = record {
  from = (λ u t e. waiting_below w u (first_of (is_node w u) (is_node w t) _ _ e));
  to = (λ u t e. waiting_below w t (second_of (is_node w u) (is_node w t) _ _ e));
}

pub victim_is_of_walks : VictimIsOfWalks
victim_is_of_walks w u cycle =
    (victim_found (is_edge w) (length w.txns + 1) (world_joins w) u cycle, found_from_victim (is_edge w) (length w.txns + 1) (world_joins w) u cycle)

pub none_is_of_walks : NoneIsOfWalks
none_is_of_walks w =
    (none_found (is_edge w) (length w.txns + 1) (world_joins w), none_from_no_walk (is_edge w) (length w.txns + 1) (world_joins w))
