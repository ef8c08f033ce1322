-- What counts, and the graph of waits, in regrouped worlds.
use Rattle.std.proofs.Common.{◌≡◌, ℕ, ◌+◌, Bool, List, [], ◌∷◌, refl, ◌∙◌, ap, sym, length}
use Rattle.std.specs.Prelude.{◌==◌, ◌&&◌, ◌||◌, not, nat_lt, if◌then◌else◌}
use Rattle.std.specs.List.{list_any}
use Rattle.hek_rules.specs.Listing.{firsts_of, seconds_of, has}
use Rattle.hek_rules.specs.World.{World, Version, txn_in, version_in, places, is_held_by, is_active}
use Rattle.hek_rules.specs.Waits.{waits, commit_deps, is_waited_for, readers}
use Rattle.hek_rules.specs.WaitGraph.{is_node, waits_by_version, is_edge, victim}
use Rattle.hek_rules.specs.Table.{entries_of, holds_nothing}
use Rattle.hek_rules.proofs.Agree.{victim_of-agree}
use Rattle.hek_similar.specs.Holdings.{holding}
use Rattle.hek_similar.proofs.Holdings.Pairs.{any-seconds, like-has, like-count, like-seconds, like-entries}
use Rattle.hek_similar.proofs.Holdings.Judged.{Held, lists}

places-by : (a b : ℕ → Version → Bool) (i : ℕ) (vs : List Version) → ((v : ℕ) (y : Version) → a v y ≡ b v y) → places a i vs ≡ places b i vs
places-by a b i [] e = refl
places-by a b i (x ∷ xs) e =
    ap (λ t. if t then i ∷ places a (i + 1) xs else places a (i + 1) xs) (e i x) ∙ ap (λ l. if b i x then i ∷ l else l) (places-by a b (i + 1) xs e)

module _ (w y : World) (h : Held (lists w) (lists y)) where
  abbrev x : World
  x = holding w y

  pub same-readers : (v : ℕ) → readers w.read_locks v ≡ readers y.read_locks v
  same-readers v = like-count w.read_locks y.read_locks h.read_locks v

  pub same-waits : (u : ℕ) → waits w u ≡ waits x u
  same-waits u =
      ap (λ l. length l + length (firsts_of w.waiters u)) (places-by (is_waited_for w.read_locks u) (is_waited_for y.read_locks u) 0 w.versions (λ v z. ap (λ n. is_held_by u z.ender && nat_lt 0 n) (same-readers v)))
      ∙ ap (λ n. length (places (is_waited_for y.read_locks u) 0 w.versions) + n) (like-count w.waiters y.waiters h.waiters u)

  pub same-deps : (t : ℕ) → commit_deps w t ≡ commit_deps x t
  same-deps t = like-count w.dependents y.dependents h.dependents t

  same-node : (u : ℕ) → is_node w u ≡ is_node x u
  same-node u = ap (λ n. (is_active (txn_in w.txns u).state && (txn_in w.txns u).no_more_waits) && nat_lt 0 n) (same-waits u)

  same-by_version : (u t : ℕ) → waits_by_version w u t ≡ waits_by_version x u t
  same-by_version u t =
      let test : ℕ → Bool = λ v. is_held_by u (version_in w.versions v).ender in
      any-seconds t test w.read_locks ∙ ap (list_any test) (h.read_locks t) ∙ sym (any-seconds t test y.read_locks)

  same-edge : (u t : ℕ) → is_edge w u t ≡ is_edge x u t
  same-edge u t =
      ap (λ a. ((a && is_node w t) && not (u == t)) && (waits_by_version w u t || has w.waiters t u)) (same-node u)
      ∙ ap (λ a. ((is_node x u && a) && not (u == t)) && (waits_by_version w u t || has w.waiters t u)) (same-node t)
      ∙ ap (λ a. ((is_node x u && is_node x t) && not (u == t)) && (a || has w.waiters t u)) (same-by_version u t)
      ∙ ap (λ a. ((is_node x u && is_node x t) && not (u == t)) && (waits_by_version x u t || a)) (like-has w.waiters y.waiters h.waiters t u)

  pub same-victim : victim w ≡ victim x
  same-victim = victim_of-agree (is_edge w) (is_edge x) (length w.txns + 1) same-edge

  pub same-idle : (t : ℕ) → holds_nothing w t ≡ holds_nothing x t
  same-idle t =
      ap (λ l. length l + length (seconds_of w.bucket_locks t) + length (seconds_of w.waiters t) + length (entries_of w.writes t) == 0) (like-seconds w.read_locks y.read_locks h.read_locks t)
      ∙ ap (λ l. length (seconds_of y.read_locks t) + length l + length (seconds_of w.waiters t) + length (entries_of w.writes t) == 0) (like-seconds w.bucket_locks y.bucket_locks h.bucket_locks t)
      ∙ ap (λ l. length (seconds_of y.read_locks t) + length (seconds_of y.bucket_locks t) + length l + length (entries_of w.writes t) == 0) (like-seconds w.waiters y.waiters h.waiters t)
      ∙ ap (λ l. length (seconds_of y.read_locks t) + length (seconds_of y.bucket_locks t) + length (seconds_of y.waiters t) + length l == 0) (like-entries w.writes y.writes h.writes t)
