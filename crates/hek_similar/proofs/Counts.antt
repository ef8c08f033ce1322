-- What counts, and graphs of waits, of similar worlds: times don't enter them.
use Rattle.std.proofs.Common.{◌≡◌, ℕ, ◌+◌, Bool, List, [], ◌∷◌, refl, ◌∙◌, ap, sym, length}
use Rattle.std.specs.Prelude.{map, ◌==◌, ◌&&◌, ◌||◌, not, nat_lt}
use Rattle.std.specs.List.{list_any}
use Rattle.hek_rules.specs.Listing.{firsts_of, has}
use Rattle.hek_rules.specs.World.{World, Version, Txn, Ender, EndedAt, Held, txn_in, version_in, is_held_by, is_active}
use Rattle.hek_rules.specs.Waits.{waits, is_waited_for, readers}
use Rattle.hek_rules.specs.WaitGraph.{is_node, waits_by_version, is_edge, victim}
use Rattle.hek_rules.specs.Victim.{victim_of}
use Rattle.hek_rules.proofs.Agree.{victim_of-agree}
use Rattle.hek_similar.specs.Similar.{timeless_txn, timeless_version, timeless_ender}
use Rattle.hek_similar.proofs.Lists.{same-txn, same-version, same-length, places-same}

-- the world w with another clock, other versions and other transactions
abbrev pub beside : World → ℕ → List Version → List Txn → World
beside w c us ss = record w { clock = c; versions = us; txns = ss }

held-timeless : (t : ℕ) (e : Ender) → is_held_by t (timeless_ender e) ≡ is_held_by t e
held-timeless t (EndedAt time) = refl
held-timeless t (Held writer no_more) = refl

pub same-held : (t : ℕ) (e f : Ender) → timeless_ender e ≡ timeless_ender f → is_held_by t e ≡ is_held_by t f
same-held t e f s = sym (held-timeless t e) ∙ ap (is_held_by t) s ∙ held-timeless t f

list_any-same : {X : Type 0} (a b : X → Bool) (xs : List X) → ((x : X) → a x ≡ b x) → list_any a xs ≡ list_any b xs
list_any-same a b [] e = refl
list_any-same a b (x ∷ xs) e = ap (λ c. c || list_any a xs) (e x) ∙ ap (λ c. b x || c) (list_any-same a b xs e)

module _ (w : World) (c : ℕ) (us : List Version) (ss : List Txn) (vers : map timeless_version w.versions ≡ map timeless_version us) (txns : map timeless_txn w.txns ≡ map timeless_txn ss) where
  pub same-waits : (u : ℕ) → waits w u ≡ waits (beside w c us ss) u
  same-waits u =
      let waited : (v : ℕ) (x : Version) → is_waited_for w.read_locks u v (timeless_version x) ≡ is_waited_for w.read_locks u v x = λ v x. ap (λ b. b && nat_lt 0 (readers w.read_locks v)) (held-timeless u x.ender) in
      ap (λ l. length l + length (firsts_of w.waiters u)) (places-same (is_waited_for w.read_locks u) (is_waited_for w.read_locks u) w.versions us waited waited (λ v x. refl) vers)

  same-node : (u : ℕ) → is_node w u ≡ is_node (beside w c us ss) u
  same-node u =
      ap (λ (y : Txn). (is_active y.state && y.no_more_waits) && nat_lt 0 (waits w u)) (same-txn w.txns ss txns u)
      ∙ ap (λ n. (is_active (txn_in ss u).state && (txn_in ss u).no_more_waits) && nat_lt 0 n) (same-waits u)

  same-by_version : (u t : ℕ) → waits_by_version w u t ≡ waits_by_version (beside w c us ss) u t
  same-by_version u t =
      list_any-same _ _ w.read_locks (λ p. ap (λ b. p.0 == t && b) (same-held u (version_in w.versions p.1).ender (version_in us p.1).ender (ap (λ x. x.ender) (same-version w.versions us vers p.1))))

  same-edge : (u t : ℕ) → is_edge w u t ≡ is_edge (beside w c us ss) u t
  same-edge u t =
      ap (λ a. ((a && is_node w t) && not (u == t)) && (waits_by_version w u t || has w.waiters t u)) (same-node u)
      ∙ ap (λ a. ((is_node (beside w c us ss) u && a) && not (u == t)) && (waits_by_version w u t || has w.waiters t u)) (same-node t)
      ∙ ap (λ a. ((is_node (beside w c us ss) u && is_node (beside w c us ss) t) && not (u == t)) && (a || has w.waiters t u)) (same-by_version u t)

  pub same-victim : victim w ≡ victim (beside w c us ss)
  same-victim =
      victim_of-agree (is_edge w) (is_edge (beside w c us ss)) (length w.txns + 1) same-edge
      ∙ ap (λ n. victim_of (is_edge (beside w c us ss)) (n + 1)) (same-length timeless_txn w.txns ss txns)
