-- The rows that a committed transaction finds, by the order of draws alone.
use Rattle.std.proofs.Common.{◌≡◌, ℕ, ◌<◌, Bool, true, false, List, [], ◌∷◌, ◌++◌, refl, ◌∙◌, ap, sym, arith, ⊎_elim, subst}
use Rattle.std.proofs.lemmas.Bool.{cases_Bool, cond-true, cond-false, cond_both, false≢true, eq-eqb, eqb-true, ne_eqb, or_cases, or_from, or_left, or_right, false_from_ne_true, lt-ltb, le-ltb}
use Rattle.std.specs.Prelude.{◌==◌, filter, map, nat_lt, if◌then◌else◌}
use Rattle.hek_rules.specs.declared.event.Event.{Event}
use Rattle.hek_rules.specs.declared.event.Event.TheVariants as event
use Rattle.hek_rules.specs.declared.reply.Reply.{Reply}
use Rattle.hek_rules.specs.declared.reply.Reply.TheVariants as reply
use Rattle.hek_rules.specs.declared.serial.Write.{Write}
use Rattle.hek_rules.specs.Listing.{is_among}
use Rattle.hek_rules.specs.Serial.{lay_all, writes_of, laid_over}
use Rattle.hek_laws.specs.Lists.{In}
use Rattle.hek_laws.proofs.Futures.Invariant.{order_in, drawn_by as draws_by, EndsBefore, Ascends}
use Rattle.hek_laws.proofs.Worlds.EndTimes.{ends-In}
use Rattle.hek_similar.specs.Verdicts.{drawn_by, drawn_in}

-- the transactions of an order
abbrev pub names : List (ℕ × ℕ) → List ℕ
names order = map (λ (x : ℕ × ℕ). x.1) order

pub drawn-names : (h : List (Event × Reply)) → names (order_in h) ≡ drawn_in h
drawn-names [] = refl
drawn-names (p ∷ ps) = one p.0 p.1 (order_in ps) ∙ ap (λ ts. drawn_by p.0 p.1 ++ ts) (drawn-names ps)
  where
    one : (e : Event) (r : Reply) (order : List (ℕ × ℕ)) → names (draws_by e r ++ order) ≡ drawn_by e r ++ names order
    one (event.Precommit t) (reply.Precommitted time) order = refl
    one e r order = refl

-- ---- members of filtered lists
pub among-filter : (kept : ℕ → Bool) (ts : List ℕ) (t : ℕ) → kept t ≡ true → is_among ts t ≡ true → is_among (filter kept ts) t ≡ true
among-filter kept [] t y i = i
among-filter kept (u ∷ us) t y i =
    ⊎_elim
    (λ here. ap (λ l. is_among l t) (cond-true (kept u) (u ∷ filter kept us) (filter kept us) (ap kept (eqb-true u t here) ∙ y)) ∙ or_left (u == t) (is_among (filter kept us) t) here)
    (λ later. let rest = among-filter kept us t y later in cond_both (kept u) (u ∷ filter kept us) (filter kept us) (λ l. is_among l t ≡ true) (λ _. or_right (u == t) _ rest) (λ _. rest))
    (or_cases (u == t) (is_among us t) i)

pub filter-keeps : (kept : ℕ → Bool) (ts : List ℕ) (t : ℕ) → is_among (filter kept ts) t ≡ true → kept t ≡ true
filter-keeps kept [] t i = absurd (false≢true i)
filter-keeps kept (u ∷ us) t i =
    ⊎_elim
    (λ y. ⊎_elim (λ here. ap kept (sym (eqb-true u t here)) ∙ y) (λ later. filter-keeps kept us t later)
    (or_cases (u == t) (is_among (filter kept us) t) (ap (λ l. is_among l t) (sym (cond-true (kept u) (u ∷ filter kept us) (filter kept us) y)) ∙ i)))
    (λ n. filter-keeps kept us t (ap (λ l. is_among l t) (sym (cond-false (kept u) (u ∷ filter kept us) (filter kept us) n)) ∙ i))
    (cases_Bool (kept u))

pub name-among : (order : List (ℕ × ℕ)) (x : ℕ × ℕ) → In x order → is_among (names order) x.1 ≡ true
name-among [] x i = absurd i
name-among (y ∷ ys) x i =
    ⊎_elim (λ same. or_left (y.1 == x.1) _ (eq-eqb y.1 x.1 (ap (λ (z : ℕ × ℕ). z.1) (sym same)))) (λ rest. or_right (y.1 == x.1) _ (name-among ys x rest)) i

-- ---- the front of an order
-- those that come before t
abbrev pub before : ℕ → List ℕ → List ℕ
before t [] = []
before t (u ∷ us) = if u == t then [] else u ∷ before t us

-- none of those after the time of x ends before it
none-early : (kept : ℕ → Bool) (x : ℕ × ℕ) (ys : List (ℕ × ℕ)) → EndsBefore x ys → filter (λ (y : ℕ × ℕ). nat_lt y.0 x.0) (filter (λ (y : ℕ × ℕ). kept y.1) ys) ≡ []
none-early kept x [] e = refl
none-early kept x (y ∷ ys) e =
    let early : ℕ × ℕ → Bool = λ z. nat_lt z.0 x.0 in
    let left : List (ℕ × ℕ) = filter (λ (z : ℕ × ℕ). kept z.1) ys in
    let rest : filter early left ≡ [] = none-early kept x ys e.2 in
    cond_both (kept y.1) (y ∷ left) left (λ l. filter early l ≡ [])
    (λ _. cond-false (nat_lt y.0 x.0) (y ∷ filter early left) (filter early left) (le-ltb y.0 x.0 (omega (arith, e.0))) ∙ rest) (λ _. rest)

-- of those that are kept, the ones that end before the time of t come before t
pub early-names : (kept : ℕ → Bool) (time t : ℕ) (xs : List (ℕ × ℕ)) → Ascends xs → In (time, t) xs → kept t ≡ true →
    names (filter (λ (x : ℕ × ℕ). nat_lt x.0 time) (filter (λ (x : ℕ × ℕ). kept x.1) xs)) ≡ before t (filter kept (names xs))
early-names kept time t [] a i y = absurd i
early-names kept time t (x ∷ xs) a i y =
    let early : ℕ × ℕ → Bool = λ z. nat_lt z.0 time in
    let left : List (ℕ × ℕ) = filter (λ (z : ℕ × ℕ). kept z.1) xs in
    let named : List ℕ = filter kept (names xs) in
    ⊎_elim
    (λ here.
    let same : t ≡ x.1 = ap (λ (z : ℕ × ℕ). z.1) here in
    let at : time ≡ x.0 = ap (λ (z : ℕ × ℕ). z.0) here in
    let on : kept x.1 ≡ true = ap kept (sym same) ∙ y in
    let ends : EndsBefore (time, t) xs = subst (λ q. EndsBefore q xs) (sym here) a.0 in
    ap (λ l. names (filter early l)) (cond-true (kept x.1) (x ∷ left) left on)
    ∙ ap names (cond-false (nat_lt x.0 time) (x ∷ filter early left) (filter early left) (le-ltb x.0 time (omega (arith, at))) ∙ none-early kept (time, t) xs ends)
    ∙ sym (ap (before t) (cond-true (kept x.1) (x.1 ∷ named) named on) ∙ cond-true (x.1 == t) [] (x.1 ∷ before t named) (eq-eqb x.1 t (sym same))))
    (λ later.
    let ends : (x.0 < time) × ((t == x.1) ≡ false) = ends-In x (time, t) xs a.0 later in
    let other : (x.1 == t) ≡ false = ne_eqb x.1 t (λ e. false≢true (sym ends.1 ∙ eq-eqb t x.1 (sym e))) in
    let rest : names (filter early left) ≡ before t named = early-names kept time t xs a.1 later y in
    ⊎_elim
    (λ on.
    ap (λ l. names (filter early l)) (cond-true (kept x.1) (x ∷ left) left on)
    ∙ ap names (cond-true (nat_lt x.0 time) (x ∷ filter early left) (filter early left) (lt-ltb x.0 time ends.0))
    ∙ ap (λ l. x.1 ∷ l) rest
    ∙ sym (ap (before t) (cond-true (kept x.1) (x.1 ∷ named) named on) ∙ cond-false (x.1 == t) [] (x.1 ∷ before t named) other))
    (λ off.
    ap (λ l. names (filter early l)) (cond-false (kept x.1) (x ∷ left) left off) ∙ rest
    ∙ sym (ap (before t) (cond-false (kept x.1) (x.1 ∷ named) named off)))
    (cases_Bool (kept x.1)))
    i

-- ---- each once
-- no transaction is in the list twice
abbrev pub AreApart : List ℕ → Type 0
AreApart [] = Unit {0}
AreApart (t ∷ ts) = (is_among ts t ≡ false) × AreApart ts

names-apart : (xs : List (ℕ × ℕ)) → Ascends xs → AreApart (names xs)
names-apart [] a = tt
names-apart (x ∷ xs) a = (none xs a.0, names-apart xs a.1)
  where
    none : (ys : List (ℕ × ℕ)) → EndsBefore x ys → is_among (names ys) x.1 ≡ false
    none [] e = refl
    none (y ∷ ys) e = or_from (y.1 == x.1) _ e.1 (none ys e.2)

pub filter-among : (kept : ℕ → Bool) (ts : List ℕ) (t : ℕ) → is_among (filter kept ts) t ≡ true → is_among ts t ≡ true
filter-among kept [] t i = i
filter-among kept (u ∷ us) t i =
    cond_both (kept u) (u ∷ filter kept us) (filter kept us) (λ l. is_among l t ≡ true → is_among (u ∷ us) t ≡ true)
    (λ _ j. ⊎_elim (λ here. or_left (u == t) _ here) (λ later. or_right (u == t) _ (filter-among kept us t later)) (or_cases (u == t) (is_among (filter kept us) t) j))
    (λ _ j. or_right (u == t) _ (filter-among kept us t j)) i

filter-apart : (kept : ℕ → Bool) (ts : List ℕ) → AreApart ts → AreApart (filter kept ts)
filter-apart kept [] a = tt
filter-apart kept (t ∷ ts) a =
    cond_both (kept t) (t ∷ filter kept ts) (filter kept ts) AreApart
    (λ _. (false_from_ne_true _ (λ i. false≢true (sym a.0 ∙ filter-among kept ts t i)), filter-apart kept ts a.1)) (λ _. filter-apart kept ts a.1)

pub kept-apart : (kept : ℕ → Bool) (xs : List (ℕ × ℕ)) → Ascends xs → AreApart (filter kept (names xs))
kept-apart kept xs a = filter-apart kept (names xs) (names-apart xs a)

-- ---- rows
-- the rows under the writes of these transactions, in order
abbrev pub laid_by : (ℕ → List Write) → List ℕ → List (ℕ × ℕ) → List (ℕ × ℕ)
laid_by writes [] rows = rows
laid_by writes (t ∷ ts) rows = laid_by writes ts (lay_all (writes t) rows)

pub laid-names : (h : List (Event × Reply)) (order rows : List (ℕ × ℕ)) → laid_over h order rows ≡ laid_by (λ t. writes_of t h) (names order) rows
laid-names h [] rows = refl
laid-names h (x ∷ xs) rows = laid-names h xs (lay_all (writes_of x.1 h) rows)
