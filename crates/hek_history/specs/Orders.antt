-- Which of two points an order of explanations asks to be first.
use Rattle.std.specs.Prelude.{ℕ, ◌≡◌, Bool, true, false, nat_lt, if◌then◌else◌, Option, Some, None}
use Rattle.hek_history.specs.declared.history.History.{History}
use Rattle.hek_history.specs.declared.history.Point.{Point}
use Rattle.hek_history.specs.declared.history.Point.TheVariants.{Begin, Commit}
use Rattle.hek_history.specs.declared.history.Order.{Order}
use Rattle.hek_history.specs.declared.history.Order.TheVariants.{Any, Versions, Times, Real}
use Rattle.hek_history.specs.Histories.{is_serializable, begin_of, end_of, invoked_of, answered_of, writes}

-- whether both times are given, and the first is less
abbrev pub earlier : Option ℕ → Option ℕ → Bool
earlier None b = false
earlier (Some x) None = false
earlier (Some x) (Some y) = nat_lt x y

-- the time of a point; both points of a serializable transaction are at its end
abbrev pub time_of : History → Point → Option ℕ
time_of h (Begin t) = if is_serializable h t then end_of h t else begin_of h t
time_of h (Commit t) = end_of h t

-- a writer of a key commits before another writer of it that ends later
abbrev pub AreVersions : History → Point → Point → Type 0
AreVersions h (Commit t) (Commit x) = (key : ℕ) × (writes h t key ≡ true) × (writes h x key ≡ true) × (earlier (end_of h t) (end_of h x) ≡ true)
AreVersions h p q = ⊥

-- when a transaction was answered, at its commit, and invoked, at its begin
abbrev pub answered_at : History → Point → Option ℕ
answered_at h (Begin t) = None
answered_at h (Commit t) = answered_of h t

abbrev pub invoked_at : History → Point → Option ℕ
invoked_at h (Begin t) = invoked_of h t
invoked_at h (Commit t) = None

abbrev pub IsAsked : History → Order → Point → Point → Type 0
IsAsked h Any p q = ⊥
IsAsked h Versions p q = AreVersions h p q
IsAsked h Times p q = earlier (time_of h p) (time_of h q) ≡ true
IsAsked h Real p q = earlier (answered_at h p) (invoked_at h q) ≡ true
