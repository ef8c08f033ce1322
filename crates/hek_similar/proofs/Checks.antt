-- The checks before a rule come to the same in similar worlds.
use Rattle.std.proofs.Common.{◌≡◌, ℕ, zero, suc, Bool, false, List, [], ◌∷◌, refl, ◌∙◌, ap, sym}
use Rattle.std.specs.Prelude.{map, slice_get, is_some, ◌==◌}
use Rattle.hek_rules.specs.declared.event.Event.{Event}
use Rattle.hek_rules.specs.declared.event.Event.TheVariants as event
use Rattle.hek_rules.specs.World.{Txn, declared}
use Rattle.hek_rules.specs.Checks.{check_of, clock_end}
use Rattle.hek_similar.specs.Similar.{timeless_txn}

some-map : {X : Type 0} (g : X → X) (xs : List X) (i : ℕ) → is_some (slice_get (map g xs) i) ≡ is_some (slice_get xs i)
some-map g [] i = refl
some-map g (x ∷ xs) zero = refl
some-map g (x ∷ xs) (suc i) = some-map g xs i

declared-timeless : (ts : List Txn) (t : ℕ) → declared (map timeless_txn ts) t ≡ declared ts t
declared-timeless ts zero = refl
declared-timeless ts (suc i) = some-map timeless_txn ts i

pub same-declared : (ts ss : List Txn) (t : ℕ) → map timeless_txn ts ≡ map timeless_txn ss → declared ts t ≡ declared ss t
same-declared ts ss t e = sym (declared-timeless ts t) ∙ ap (λ l. declared l t) e ∙ declared-timeless ss t

check-timeless : (x : Txn) (idle : Bool) (c : ℕ) (e : Event) → (c == clock_end) ≡ false → check_of x idle c e ≡ check_of (timeless_txn x) idle 0 e
check-timeless x idle c (event.Begin t) h = rw h refl
check-timeless x idle c (event.Precommit t) h = rw h refl
check-timeless x idle c e h = refl

pub same-check : (x y : Txn) (idle : Bool) (c d : ℕ) (e : Event) → timeless_txn x ≡ timeless_txn y → (c == clock_end) ≡ false → (d == clock_end) ≡ false → check_of x idle c e ≡ check_of y idle d e
same-check x y idle c d e s h k = check-timeless x idle c e h ∙ ap (λ z. check_of z idle 0 e) s ∙ sym (check-timeless y idle d e k)
