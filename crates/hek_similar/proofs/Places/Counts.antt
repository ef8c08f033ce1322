-- What counts, and the graph of waits, in a renumbered world.
use Rattle.std.proofs.Common.{◌≡◌, ℕ, ◌+◌, List, [], ◌∷◌, refl, ◌∙◌, ap, length}
use Rattle.std.proofs.lemmas.List.{length-map}
use Rattle.std.specs.Prelude.{map, ◌==◌, ◌&&◌, ◌||◌, not, nat_lt}
use Rattle.std.specs.List.{list_any}
use Rattle.hek_rules.specs.Listing.{firsts_of, seconds_of, has}
use Rattle.hek_rules.specs.World.{World, txn_in, version_in, is_held_by, is_active}
use Rattle.hek_rules.specs.Waits.{waits, is_waited_for}
use Rattle.hek_rules.specs.WaitGraph.{is_node, waits_by_version, is_edge, victim}
use Rattle.hek_rules.specs.Table.{entries_of, holds_nothing}
use Rattle.hek_rules.proofs.Agree.{victim_of-agree}
use Rattle.hek_similar.specs.Places.{Renumbering, renumbered, renumbered_lock, renumbered_entry}
use Rattle.hek_similar.proofs.Places.Renumbered.{Trades, readers-to, seconds-to, entries-to}
use Rattle.hek_similar.proofs.Places.Ordered.{places-count}
use Rattle.hek_similar.proofs.Places.Judged.{word}

module _ (r : Renumbering) (w : World) (trade : Trades r (length w.versions)) where
  abbrev x : World
  x = renumbered r w

  pub waits-to : (u : ℕ) → waits x u ≡ waits w u
  waits-to u =
      ap (λ n. n + length (firsts_of w.waiters u))
      (places-count r (length w.versions) trade w.versions refl (is_waited_for w.read_locks u) (is_waited_for x.read_locks u)
      (λ v l. ap (λ n. is_held_by u (version_in w.versions v).ender && nat_lt 0 n) (readers-to r (length w.versions) trade w.read_locks v)))

  node-to : (u : ℕ) → is_node x u ≡ is_node w u
  node-to u = ap (λ n. (is_active (txn_in w.txns u).state && (txn_in w.txns u).no_more_waits) && nat_lt 0 n) (waits-to u)

  any-to : (u t : ℕ) (ps : List (ℕ × ℕ)) →
      list_any (λ p. p.0 == t && is_held_by u (version_in x.versions p.1).ender) (map (renumbered_lock r) ps) ≡ list_any (λ p. p.0 == t && is_held_by u (version_in w.versions p.1).ender) ps
  any-to u t [] = refl
  any-to u t (p ∷ ps) =
      ap (λ y. (p.0 == t && is_held_by u y.ender) || list_any (λ q. q.0 == t && is_held_by u (version_in x.versions q.1).ender) (map (renumbered_lock r) ps)) (word r w trade p.1)
      ∙ ap (λ b. (p.0 == t && is_held_by u (version_in w.versions p.1).ender) || b) (any-to u t ps)

  edge-to : (u t : ℕ) → is_edge x u t ≡ is_edge w u t
  edge-to u t =
      ap (λ a. ((a && is_node x t) && not (u == t)) && (waits_by_version x u t || has w.waiters t u)) (node-to u)
      ∙ ap (λ a. ((is_node w u && a) && not (u == t)) && (waits_by_version x u t || has w.waiters t u)) (node-to t)
      ∙ ap (λ a. ((is_node w u && is_node w t) && not (u == t)) && (a || has w.waiters t u)) (any-to u t w.read_locks)

  pub victim-to : victim x ≡ victim w
  victim-to = victim_of-agree (is_edge x) (is_edge w) (length w.txns + 1) edge-to

pub idle-to : (r : Renumbering) (w : World) (t : ℕ) → holds_nothing (renumbered r w) t ≡ holds_nothing w t
idle-to r w t =
    ap (λ l. length l + length (seconds_of w.bucket_locks t) + length (seconds_of w.waiters t) + length (entries_of (renumbered r w).writes t) == 0) (seconds-to r w.read_locks t)
    ∙ ap (λ n. n + length (seconds_of w.bucket_locks t) + length (seconds_of w.waiters t) + length (entries_of (renumbered r w).writes t) == 0) (length-map (seconds_of w.read_locks t) r.to)
    ∙ ap (λ l. length (seconds_of w.read_locks t) + length (seconds_of w.bucket_locks t) + length (seconds_of w.waiters t) + length l == 0) (entries-to r w.writes t)
    ∙ ap (λ n. length (seconds_of w.read_locks t) + length (seconds_of w.bucket_locks t) + length (seconds_of w.waiters t) + n == 0) (length-map (entries_of w.writes t) (renumbered_entry r))
