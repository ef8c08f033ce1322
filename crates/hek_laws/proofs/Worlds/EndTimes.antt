-- The order of drawn end times, and that of the committed transactions, after every event.
use Rattle.std.proofs.Common.{◌≡◌, ℕ, ◌<◌, ◌+◌, ◌≤◌, Bool, true, false, cond, List, [], ◌∷◌, ◌++◌, Some, None, Option, refl, ◌∙◌, ap, sym, arith, inl, inr, ⊎_elim, subst}
use Rattle.std.proofs.lemmas.Bool.{cases_Bool, cond-true, cond-false, false≢true, eqb-true, eq-eqb, ne_eqb, or_left, or_right, lt-ltb, le-ltb, false_from_ne_true}
use Rattle.std.specs.Prelude.{◌==◌, ◌||◌, filter, nat_lt}
use Rattle.hek_rules.specs.declared.event.Event.{Event}
use Rattle.hek_rules.specs.declared.reply.Reply.{Reply}
use Rattle.hek_rules.specs.Listing.{is_among}
use Rattle.hek_rules.specs.World.{World, txn_in, is_preparing}
use Rattle.hek_rules.specs.declared.event.Effect.{Effect}
use Rattle.hek_rules.specs.Walk.{apply_all}
use Rattle.hek_rules.specs.Serial.{committed_in, committed_by, end_of, end_drawn, is_listed, with_end, place_in, ordered, serial_order}
use Rattle.std.specs.Option.{option_or}
use Rattle.hek_rules.specs.Run.{next, reply as reply_to}
use Rattle.hek_rules.specs.declared.event.Event.TheVariants as event
use Rattle.hek_rules.specs.declared.reply.Reply.TheVariants as reply
use Rattle.hek_laws.specs.Lists.{In}
use Rattle.hek_laws.proofs.Table.Unchanged.{apply_all-times}
use Rattle.hek_laws.proofs.Table.Cases.{IsPreparing, IsActive}
use Rattle.hek_laws.proofs.Table.Changes.{EachChange, each_outcome}
use Rattle.hek_laws.proofs.Worlds.Histories.{committed_in-append, end_of-append, append-nil, ordered-commit, ordered-append}
use Rattle.hek_laws.proofs.Futures.Survivors.{History, has_committed, is_settled}
use Rattle.hek_laws.proofs.Futures.Invariant.{drawn_by, order_in, EndsBefore, Ascends, AllBelow}
use Rattle.hek_laws.proofs.Futures.Prepares.{NotListed, order_in-append}
use Rattle.hek_laws.proofs.Futures.PullBack.{is_among-append}
use Rattle.hek_laws.proofs.Futures.Quiet.{idle-draws}
use Rattle.hek_laws.proofs.Futures.Acted.{unlisted}
use Rattle.hek_laws.proofs.Futures.Precommits.{filter-out}
use Rattle.hek_laws.proofs.Worlds.AsTold.{AsTold, committed-more}

-- a transaction that draws an end time is in the order with it
drawn-listed : (t time : ℕ) (e : Event) (r : Reply) (ys : List (ℕ × ℕ)) → end_drawn t e r ≡ Some time → In (time, t) (drawn_by e r ++ ys)
drawn-listed t time (event.Precommit x) (reply.Precommitted n) ys h =
    ⊎_elim (λ y. let s : Some n ≡ Some time = sym (cond-true (x == t) (Some n) None y) ∙ h in let m : n ≡ time = cc in inl (λ i. (sym m i, sym (eqb-true x t y) i)))
    (λ y. let s : None ≡ Some time = sym (cond-false (x == t) (Some n) None y) ∙ h in cc) (cases_Bool (x == t))
drawn-listed t time (event.Precommit x) r ys h = cc
drawn-listed t time e r ys h = cc

behind-listed : (x : ℕ × ℕ) (e : Event) (r : Reply) (ys : List (ℕ × ℕ)) → In x ys → In x (drawn_by e r ++ ys)
behind-listed x e r ys i = more (drawn_by e r)
  where
    more : (xs : List (ℕ × ℕ)) → In x (xs ++ ys)
    more [] = i
    more (z ∷ zs) = inr (more zs)

by-front : (t time : ℕ) (e : Event) (r : Reply) (ps : History) → (end_of t ps ≡ Some time → In (time, t) (order_in ps)) → (o : Option ℕ) → end_drawn t e r ≡ o → option_or o (end_of t ps) ≡ Some time → In (time, t) (drawn_by e r ++ order_in ps)
by-front t time e r ps rest None q k = behind-listed (time, t) e r (order_in ps) (rest k)
by-front t time e r ps rest (Some n) q k = drawn-listed t time e r (order_in ps) (q ∙ k)

pub end-listed : (t time : ℕ) (h : History) → end_of t h ≡ Some time → In (time, t) (order_in h)
end-listed t time [] h = cc
end-listed t time (p ∷ ps) h = by-front t time p.0 p.1 ps (λ k. end-listed t time ps k) (end_drawn t p.0 p.1) refl h

ends-append : (y : ℕ × ℕ) (ys : List (ℕ × ℕ)) (z : ℕ × ℕ) → EndsBefore y ys → y.0 < z.0 → (z.1 == y.1) ≡ false → EndsBefore y (ys ++ z ∷ [])
ends-append y [] z e l n = (l, n, tt)
ends-append y (x ∷ xs) z e l n = (e.0, e.1, ends-append y xs z e.2 l n)

ascends-append : (xs : List (ℕ × ℕ)) (time x : ℕ) → Ascends xs → AllBelow time xs → NotListed x xs → Ascends (xs ++ (time, x) ∷ [])
ascends-append [] time x a b n = (tt, tt)
ascends-append (y ∷ ys) time x a b n = (ends-append y ys (time, x) a.0 b.0 (ne_eqb x y.1 (λ e. false≢true (sym n.0 ∙ eq-eqb y.1 x (sym e)))), ascends-append ys time x a.1 b.1 n.1)

below-append : (xs : List (ℕ × ℕ)) (time x : ℕ) → AllBelow time xs → AllBelow (time + 1) (xs ++ (time, x) ∷ [])
below-append [] time x b = (omega arith, tt)
below-append (y ∷ ys) time x b = (omega (arith, b.0), below-append ys time x b.1)

below-more : (xs : List (ℕ × ℕ)) (time later : ℕ) → time ≤ later → AllBelow time xs → AllBelow later xs
below-more [] time later l b = tt
below-more (y ∷ ys) time later l b = (omega (arith, b.0, l), below-more ys time later l b.1)

filter-same : (C D : ℕ → Bool) (xs : List (ℕ × ℕ)) → ((u : ℕ) → C u ≡ D u) → filter (λ (x : ℕ × ℕ). C x.1) xs ≡ filter (λ (x : ℕ × ℕ). D x.1) xs
filter-same C D [] e = refl
filter-same C D (x ∷ xs) e = ap (λ b. cond b (x ∷ filter (λ (x : ℕ × ℕ). C x.1) xs) (filter (λ (x : ℕ × ℕ). C x.1) xs)) (e x.1) ∙ ap (λ zs. cond (D x.1) (x ∷ zs) zs) (filter-same C D xs e)

ordered-same : (g h : History) (ts : List ℕ) (o : List (ℕ × ℕ)) → ((t : ℕ) → In t ts → end_of t g ≡ end_of t h) → ordered g ts o ≡ ordered h ts o
ordered-same g h [] o e = refl
ordered-same g h (t ∷ ts) o e = ap (λ x. ordered g ts (with_end t x o)) (e t (inl refl)) ∙ ordered-same g h ts (with_end t (end_of t h) o) (λ u i. e u (inr i))

pub among-In : (xs : List ℕ) (x : ℕ) → In x xs → is_among xs x ≡ true
among-In [] x i = absurd i
among-In (y ∷ ys) x i = ⊎_elim (λ e. or_left _ _ (eq-eqb y x (sym e))) (λ r. or_right (y == x) _ (among-In ys x r)) i

-- ---- one more transaction commits
ends-filter : (x : ℕ × ℕ) (C : ℕ → Bool) (ys : List (ℕ × ℕ)) → EndsBefore x ys → EndsBefore x (filter (λ (y : ℕ × ℕ). C y.1) ys)
ends-filter x C [] e = tt
ends-filter x C (y ∷ ys) e =
    let F = filter (λ (y : ℕ × ℕ). C y.1) ys in
    ⊎_elim (λ b. subst (EndsBefore x) (sym (cond-true (C y.1) (y ∷ F) F b)) (e.0, e.1, ends-filter x C ys e.2)) (λ b. subst (EndsBefore x) (sym (cond-false (C y.1) (y ∷ F) F b)) (ends-filter x C ys e.2)) (cases_Bool (C y.1))

place-first : (x : ℕ × ℕ) (ys : List (ℕ × ℕ)) → EndsBefore x ys → place_in x ys ≡ x ∷ ys
place-first x [] e = refl
place-first x (y ∷ ys) e = cond-true (nat_lt x.0 y.0) (x ∷ y ∷ ys) (y ∷ place_in x ys) (lt-ltb x.0 y.0 e.0)

one-more : (ℕ → Bool) → ℕ → ℕ → Bool
one-more C t u = C u || ((t == u) || false)

filter-unlisted : (C : ℕ → Bool) (x : ℕ × ℕ) (ys : List (ℕ × ℕ)) → EndsBefore x ys → filter (λ (y : ℕ × ℕ). one-more C x.1 y.1) ys ≡ filter (λ (y : ℕ × ℕ). C y.1) ys
unfolding one-more
filter-unlisted C x [] e = refl
filter-unlisted C x (y ∷ ys) e =
    ap (λ b. cond (C y.1 || (b || false)) (y ∷ filter (λ (y : ℕ × ℕ). one-more C x.1 y.1) ys) (filter (λ (y : ℕ × ℕ). one-more C x.1 y.1) ys)) (ne_eqb x.1 y.1 (λ q. false≢true (sym e.1 ∙ eq-eqb y.1 x.1 (sym q))))
    ∙ ap (λ b. cond b (y ∷ filter (λ (y : ℕ × ℕ). one-more C x.1 y.1) ys) (filter (λ (y : ℕ × ℕ). one-more C x.1 y.1) ys)) (or-false (C y.1))
    ∙ ap (λ zs. cond (C y.1) (y ∷ zs) zs) (filter-unlisted C x ys e.2)
  where
    or-false : (b : Bool) → (b || false) ≡ b
    or-false true = refl
    or-false false = refl

pub ends-In : (x y : ℕ × ℕ) (ys : List (ℕ × ℕ)) → EndsBefore x ys → In y ys → (x.0 < y.0) × ((y.1 == x.1) ≡ false)
ends-In x y [] e i = absurd i
ends-In x y (z ∷ zs) e i = ⊎_elim (λ s. subst (λ q. (x.0 < q.0) × ((q.1 == x.1) ≡ false)) (sym s) (e.0, e.1)) (λ r. ends-In x y zs e.2 r) i

place-filter : (C : ℕ → Bool) (time t : ℕ) (xs : List (ℕ × ℕ)) → Ascends xs → In (time, t) xs → C t ≡ false → place_in (time, t) (filter (λ (y : ℕ × ℕ). C y.1) xs) ≡ filter (λ (y : ℕ × ℕ). one-more C t y.1) xs
unfolding one-more
place-filter C time t [] a i n = absurd i
place-filter C time t (x ∷ xs) a i n =
    let F = filter (λ (y : ℕ × ℕ). C y.1) xs in
    let G = filter (λ (y : ℕ × ℕ). one-more C t y.1) xs in
    ⊎_elim
    (λ here.
    let first : x ≡ (time, t) = sym here in
    let e : EndsBefore (time, t) xs = subst (λ q. EndsBefore q xs) first a.0 in
    ap (place_in (time, t)) (cond-false (C x.1) (x ∷ F) F (ap (λ (q : ℕ × ℕ). C q.1) first ∙ n))
    ∙ place-first (time, t) F (ends-filter (time, t) C xs e)
    ∙ ap (λ zs. (time, t) ∷ zs) (sym (filter-unlisted C (time, t) xs e))
    ∙ ap (λ q. q ∷ G) here
    ∙ sym (cond-true (one-more C t x.1) (x ∷ G) G (or_right (C x.1) _ (or_left _ _ (eq-eqb t x.1 (ap (λ (q : ℕ × ℕ). q.1) here))))))
    (λ later.
    let q = ends-In x (time, t) xs a.0 later in
    let rest = place-filter C time t xs a.1 later n in
    ⊎_elim
    (λ y.
    ap (place_in (time, t)) (cond-true (C x.1) (x ∷ F) F y)
    ∙ cond-false (nat_lt time x.0) ((time, t) ∷ x ∷ F) (x ∷ place_in (time, t) F) (le-ltb time x.0 (omega (arith, q.0)))
    ∙ ap (λ zs. x ∷ zs) rest ∙ sym (cond-true (one-more C t x.1) (x ∷ G) G (or_left _ _ y)))
    (λ y.
    ap (place_in (time, t)) (cond-false (C x.1) (x ∷ F) F y) ∙ rest
    ∙ sym (cond-false (one-more C t x.1) (x ∷ G) G (ap (λ b. b || ((t == x.1) || false)) y ∙ ap (λ b. b || false) q.1)))
    (cases_Bool (C x.1)))
    i

listed-filter : (C : ℕ → Bool) (t : ℕ) (xs : List (ℕ × ℕ)) → C t ≡ false → is_listed t (filter (λ (y : ℕ × ℕ). C y.1) xs) ≡ false
listed-filter C t [] n = refl
listed-filter C t (x ∷ xs) n =
    let F = filter (λ (y : ℕ × ℕ). C y.1) xs in
    ⊎_elim
    (λ y. ap (is_listed t) (cond-true (C x.1) (x ∷ F) F y)
    ∙ cond-false (x.1 == t) true (is_listed t F) (ne_eqb x.1 t (λ e. false≢true (sym n ∙ ap C (sym e) ∙ y))) ∙ listed-filter C t xs n)
    (λ y. ap (is_listed t) (cond-false (C x.1) (x ∷ F) F y) ∙ listed-filter C t xs n) (cases_Bool (C x.1))

pub record InOrder (clock : ℕ) (h : History) : Type 0 where
  pub ascends : Ascends (order_in h)
  pub below : AllBelow clock (order_in h)
  pub committed_order : serial_order h ≡ filter (λ (x : ℕ × ℕ). has_committed h x.1) (order_in h)

module _ (w : World) (h : History) (k : (u : ℕ) → AsTold h u (txn_in w.txns u)) (o : InOrder w.clock h) where
  -- a committed transaction keeps its end time
  kept-end : (e : Event) (r : Reply) (t : ℕ) → In t (committed_in h) → end_of t (h ++ (e, r) ∷ []) ≡ end_of t h
  kept-end e r t i =
      let d = (k t).drawn (or_right _ _ (among-In (committed_in h) t i)) in
      end_of-append t h ((e, r) ∷ []) ∙ ap (λ x. option_or x (end_of t ((e, r) ∷ []))) d ∙ sym d

  serial-same : (e : Event) (r : Reply) → committed_by e r ≡ [] → serial_order (h ++ (e, r) ∷ []) ≡ serial_order h
  serial-same e r c =
      ap (λ ts. ordered (h ++ (e, r) ∷ []) ts []) (committed_in-append h ((e, r) ∷ []) ∙ ap (λ xs. committed_in h ++ (xs ++ [])) c ∙ append-nil (committed_in h))
      ∙ ordered-same (h ++ (e, r) ∷ []) h (committed_in h) [] (kept-end e r)

  order-same : (e : Event) (r : Reply) → ((t : ℕ) → end_drawn t e r ≡ None) → order_in (h ++ (e, r) ∷ []) ≡ order_in h
  order-same e r d = order_in-append h ((e, r) ∷ []) ∙ ap (λ xs. order_in h ++ (xs ++ [])) (idle-draws e r d) ∙ append-nil (order_in h)

  plain : (clock : ℕ) (e : Event) (r : Reply) → w.clock ≤ clock → committed_by e r ≡ [] → ((t : ℕ) → end_drawn t e r ≡ None) → InOrder clock (h ++ (e, r) ∷ [])
  plain clock e r l c d = record {
    ascends = subst Ascends (sym (order-same e r d)) o.ascends;
    below = subst (AllBelow clock) (sym (order-same e r d)) (below-more (order_in h) w.clock clock l o.below);
    committed_order = serial-same e r c ∙ o.committed_order ∙ filter-same (has_committed h) (has_committed (h ++ (e, r) ∷ [])) (order_in h) (λ u. sym (committed-more h e r u c)) ∙ ap (filter (λ (x : ℕ × ℕ). has_committed (h ++ (e, r) ∷ []) x.1)) (sym (order-same e r d));
  }

  walked : (t : ℕ) (es : List Effect) (e : Event) (r : Reply) → committed_by e r ≡ [] → ((u : ℕ) → end_drawn u e r ≡ None) → InOrder (apply_all t w es).clock (h ++ (e, r) ∷ [])
  walked t es e r c d = plain (apply_all t w es).clock e r (let q = (apply_all-times t w es).clock in omega (arith, q)) c d

  prepared-order : (t : ℕ) → IsActive w t true → InOrder (w.clock + 1) (h ++ (event.Precommit t, reply.Precommitted w.clock) ∷ [])
  prepared-order t a =
      let is = order_in-append h ((event.Precommit t, reply.Precommitted w.clock) ∷ []) in
      let new = unlisted t h ((k t).undrawn a.state) in
      let later : History = h ++ (event.Precommit t, reply.Precommitted w.clock) ∷ [] in
      let out : has_committed later t ≡ false = committed-more h (event.Precommit t) (reply.Precommitted w.clock) t refl ∙ false_from_ne_true _ (λ y. false≢true (sym (ap is_settled a.state) ∙ (k t).settled y)) in
      record {
        ascends = subst Ascends (sym is) (ascends-append (order_in h) w.clock t o.ascends o.below new);
        below = subst (AllBelow (w.clock + 1)) (sym is) (below-append (order_in h) w.clock t o.below);
        committed_order = serial-same (event.Precommit t) (reply.Precommitted w.clock) refl ∙ o.committed_order
            ∙ filter-same (has_committed h) (has_committed later) (order_in h) (λ u. sym (committed-more h (event.Precommit t) (reply.Precommitted w.clock) u refl))
            ∙ sym (filter-out (has_committed later) (order_in h) (w.clock, t) out) ∙ ap (filter (λ (x : ℕ × ℕ). has_committed later x.1)) (sym is);
      }

  committed-order : (t : ℕ) → IsPreparing w t → InOrder w.clock (h ++ (event.Commit t, reply.Committed) ∷ [])
  unfolding one-more
  committed-order t p =
      let later : History = h ++ (event.Commit t, reply.Committed) ∷ [] in
      let same = order-same (event.Commit t) reply.Committed (λ _. refl) in
      let among : (n : ℕ) → one-more (has_committed h) t n ≡ has_committed later n = λ n. sym (ap (λ xs. is_among xs n) (committed_in-append h ((event.Commit t, reply.Committed) ∷ [])) ∙ is_among-append (committed_in h) (t ∷ []) n) in
      let out : has_committed h t ≡ false = false_from_ne_true _ (λ y. false≢true (sym (ap is_settled p.state) ∙ (k t).settled y)) in
      let time = (txn_in w.txns t).end in
      let drawn : end_of t h ≡ Some time = (k t).drawn (or_left _ _ (ap is_preparing p.state)) in
      let F = filter (λ (x : ℕ × ℕ). has_committed h x.1) (order_in h) in
      let unl : is_listed t (serial_order h) ≡ false = ap (is_listed t) o.committed_order ∙ listed-filter (has_committed h) t (order_in h) out in
      record {
        ascends = subst Ascends (sym same) o.ascends;
        below = subst (AllBelow w.clock) (sym same) o.below;
        committed_order = ordered-commit t h (committed_in later) [] ∙ ap (λ xs. ordered h xs []) (committed_in-append h ((event.Commit t, reply.Committed) ∷ []))
            ∙ ordered-append h (committed_in h) (t ∷ []) [] ∙ ap (λ x. with_end t x (serial_order h)) drawn
            ∙ cond-false (is_listed t (serial_order h)) (serial_order h) (place_in (time, t) (serial_order h)) unl
            ∙ ap (place_in (time, t)) o.committed_order
            ∙ place-filter (has_committed h) time t (order_in h) o.ascends (end-listed t time h drawn) out
            ∙ filter-same (one-more (has_committed h) t) (has_committed later) (order_in h) among
            ∙ ap (filter (λ (x : ℕ × ℕ). has_committed later x.1)) (sym same);
      }

  each_order : EachChange w (λ e x. InOrder x.world.clock (h ++ (e, x.reply) ∷ []))
  each_order = record {
    same = λ e r i _. plain w.clock e r (omega arith) i.commits i.draws;
    aborts = λ e r t cause i _ _. plain w.clock e r (omega arith) i.commits i.draws;
    begins = λ t _ _. plain (w.clock + 1) (event.Begin t) _ (omega arith) refl (λ _. refl);
    reads = λ t key es _ _. walked t es (event.Read t key) _ refl (λ _. refl);
    scans = λ t b es _ _. walked t es (event.Scan t b) _ refl (λ _. refl);
    exists = λ t key value v es _ _ _. walked t es (event.Insert t key value) _ refl (λ _. refl);
    inserts = λ t key value es _ _ _ _. walked t es (event.Insert t key value) _ refl (λ _. refl);
    misses_update = λ t key value es _ _ _. walked t es (event.Update t key value) _ refl (λ _. refl);
    updates = λ t key value v es _ _ _. walked t es (event.Update t key value) _ refl (λ _. refl);
    misses_delete = λ t key es _ _ _. walked t es (event.Delete t key) _ refl (λ _. refl);
    deletes = λ t key v es _ _ _. walked t es (event.Delete t key) _ refl (λ _. refl);
    finishes = λ t _. plain w.clock (event.Finish t) _ (omega arith) refl (λ _. refl);
    prepares = λ t a _ _. prepared-order t a;
    drops = λ t v r _ i _. plain w.clock (event.Release t) r (omega arith) i.commits i.draws;
    unlocks = λ t b _. plain w.clock (event.Release t) _ (omega arith) refl (λ _. refl);
    frees = λ t u _. plain w.clock (event.Release t) _ (omega arith) refl (λ _. refl);
    commits = λ t p _. committed-order t p;
    stamps_begin = λ t v _ _ _. plain w.clock (event.Stamp t) _ (omega arith) refl (λ _. refl);
    stamps_end = λ t v _ _ _. plain w.clock (event.Stamp t) _ (omega arith) refl (λ _. refl);
    voids = λ t v _ _ _ _. plain w.clock (event.Stamp t) _ (omega arith) refl (λ _. refl);
    gives_back = λ t v _ _ r _ _ i _. plain w.clock (event.Stamp t) r (omega arith) i.commits i.draws;
    ends = λ t _ _. plain w.clock (event.End t) _ (omega arith) refl (λ _. refl);
  }

  pub order-next : (e : Event) → InOrder (next w e).clock (h ++ (e, reply_to w e) ∷ [])
  order-next e = each_outcome w (λ e x. InOrder x.world.clock (h ++ (e, x.reply) ∷ [])) each_order e
