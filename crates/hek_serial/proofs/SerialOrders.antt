-- Replies that are right place by place, and who may come next.
use Rattle.std.proofs.Common.{◌≡◌, ℕ, zero, suc, ◌<◌, ◌≤◌, Option, Some, None, Bool, true, false, List, [], ◌∷◌, length, ◌∙◌, sym, subst, ap, arith, take, ⊎_elim}
use Rattle.std.proofs.lemmas.Option.{slice_get_past}
use Rattle.std.proofs.lemmas.Bool.{cases_Bool, cases_lt, cond-true, cond-false, false≢true, or_left, or_right}
use Rattle.std.specs.Option.{MatchOption}
use Rattle.std.specs.Prelude.{◌==◌, ◌||◌, slice_get, if◌then◌else◌}
use Rattle.hek_rules.specs.declared.event.Level.{Level}
use Rattle.hek_rules.specs.declared.event.Event.{Event}
use Rattle.hek_rules.specs.declared.reply.Reply.{Reply}
use Rattle.hek_rules.specs.Listing.{is_among}
use Rattle.hek_rules.specs.Serial.{lay_all, write_of, writes_of, AreRight}
use Rattle.hek_laws.proofs.Worlds.Histories.{lay_all-append}
use Rattle.hek_serial.specs.Replay.{IsRightFor, IsRightEntry, IsPlain, IsPlainEntry, IsFirstPlain}
use Rattle.hek_serial.specs.SerialOrders.{have_common, comes_next, without}

-- ---- place by place
pub right-place : (level : Level) (buckets t : ℕ) (rows : List (ℕ × ℕ)) (h : List (Event × Reply)) → AreRight level buckets t rows h → (j : ℕ) → IsRightFor level buckets t rows h j
right-place level buckets t rows [] right zero = tt
right-place level buckets t rows [] right (suc j) = tt
right-place level buckets t rows (p ∷ ps) right zero = right.0
right-place level buckets t rows (p ∷ ps) right (suc j) =
    subst (λ rs. IsRightEntry level buckets t rs (slice_get ps j)) (sym (lay_all-append (write_of t p.0 p.1) (writes_of t (take j ps)) rows))
    (right-place level buckets t (lay_all (write_of t p.0 p.1) rows) ps right.1 j)

pub right-all : (level : Level) (buckets t : ℕ) (rows : List (ℕ × ℕ)) (h : List (Event × Reply)) → ((j : ℕ) → j < length h → IsRightFor level buckets t rows h j) → AreRight level buckets t rows h
right-all level buckets t rows [] right = tt
right-all level buckets t rows (p ∷ ps) right = (
  right zero (omega arith),
  right-all level buckets t (lay_all (write_of t p.0 p.1) rows) ps
      (λ j l. subst (λ rs. IsRightEntry level buckets t rs (slice_get ps j)) (lay_all-append (write_of t p.0 p.1) (writes_of t (take j ps)) rows) (right (suc j) (omega (arith, l)))),
)

-- ---- who may come next
later-next : (here met next : Bool) → (if here then true else if met then false else next) ≡ true → here ≡ false → next ≡ true
later-next true met next h off = absurd (false≢true (sym off))
later-next false true next h off = absurd (false≢true h)
later-next false false next h off = h

pub next-among : (h : List (Event × Reply)) (left : List ℕ) (t : ℕ) → comes_next h left t ≡ true → is_among left t ≡ true
next-among h [] t next = absurd (false≢true next)
next-among h (u ∷ us) t next =
    ⊎_elim (λ here. or_left (u == t) (is_among us t) here)
    (λ other. or_right (u == t) (is_among us t) (next-among h us t (later-next (u == t) (have_common (writes_of u h) (writes_of t h)) (comes_next h us t) next other)))
    (cases_Bool (u == t))

pub without-shorter : (left : List ℕ) (t : ℕ) → is_among left t ≡ true → length (without t left) < length left
without-shorter [] t i = absurd (false≢true i)
without-shorter (u ∷ us) t i =
    ⊎_elim (λ here. subst (λ (rest : List ℕ). length rest < length (u ∷ us)) (sym (cond-true (u == t) us (u ∷ without t us) here)) (omega arith))
    (λ other.
    let shorter : length (without t us) < length us = without-shorter us t (among-later (u == t) (is_among us t) i other) in
    subst (λ (rest : List ℕ). length rest < length (u ∷ us)) (sym (cond-false (u == t) us (u ∷ without t us) other)) (omega (arith, shorter)))
    (cases_Bool (u == t))
  where
    among-later : (here later : Bool) → (here || later) ≡ true → here ≡ false → later ≡ true
    among-later true later h off = absurd (false≢true (sym off))
    among-later false later h off = h

pub none-among : (left : List ℕ) (t : ℕ) → length left ≡ 0 → is_among left t ≡ true → ⊥
none-among [] t none i = false≢true i
none-among (u ∷ us) t none i = absurd (omega (arith, none))

-- ---- a whole transcript
pub all-plain : (levels : List Level) (h : List (Event × Reply)) (n : ℕ) → IsFirstPlain levels h n → length h ≤ n → (i : ℕ) → IsPlain levels h i
all-plain levels h n first l i =
    ⊎_elim (λ (inside : i < length h). first.right i (omega (arith, inside, l)))
    (λ (past : length h ≤ i). subst (IsPlainEntry levels (take i h)) (sym (slice_get_past h i past)) tt)
    (cases_lt i (length h))

pub match-both : {X : Type 0} (o : Option X) (P R : Type 0) (Q S : X → Type 0) → (P → R) → ((x : X) → Q x → S x) → MatchOption o P Q → MatchOption o R S
match-both None P R Q S none some is = none is
match-both (Some x) P R Q S none some is = some x is
