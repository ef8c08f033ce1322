-- The places of each transaction's events.
use Rattle.std.specs.Prelude.{ℕ, ◌≡◌, ◌+◌, ◌<◌, ◌≤◌, Bool, true, false, List, Option, Some, None, length, slice_get, slice_index, slice_set, unwrap_or, nat_lt, if◌then◌else◌}
use Rattle.hek_rules.specs.declared.event.Event.{Event}
use Rattle.hek_rules.specs.Serial.{is_of}
use Rattle.hek_rules.specs.Listing.{put, value_of}

-- whether there is an event, and it is of t
abbrev pub is_event_of : ℕ → Option Event → Bool
is_event_of t None = false
is_event_of t (Some e) = is_of t e

abbrev pub comes_at : ℕ → List Event → ℕ → Bool
comes_at t es i = is_event_of t (slice_get es i)

-- n is the first place, from a given one on, of an event of t, or the number of places
pub record IsNextOf (t : ℕ) (es : List Event) (from n : ℕ) : Type 0 where
  pub on : from ≤ n
  pub within : n ≤ length es
  pub between : (j : ℕ) → from ≤ j → j < n → comes_at t es j ≡ false
  pub there : n < length es → comes_at t es n ≡ true

-- the place that is kept for t, or the number of places; for low numbers the places are kept in a list
abbrev pub linked_place : List ℕ → List (ℕ × ℕ) → ℕ → ℕ → ℕ
linked_place near far count t = if nat_lt t (length near) then slice_index near t else unwrap_or (value_of far t) count

-- the place that is kept for the transaction of an event, if there is one
abbrev pub next_in : List ℕ → List (ℕ × ℕ) → ℕ → Option ℕ → ℕ
next_in near far count None = count
next_in near far count (Some t) = linked_place near far count t

-- the list with a place kept for the transaction of an event, if the event has one and its number is low
abbrev pub with_near : List ℕ → ℕ → Option ℕ → List ℕ
with_near near place None = near
with_near near place (Some t) = if nat_lt t (length near) then slice_set near t place else near

-- the map with a place kept for the transaction of an event, if the event has one and its number isn't low
abbrev pub with_far : List ℕ → List (ℕ × ℕ) → ℕ → Option ℕ → List (ℕ × ℕ)
with_far near far place None = far
with_far near far place (Some t) = if nat_lt t (length near) then far else put t place far

pub record AreEventLinks (es : List Event) (near : List ℕ) (far : List (ℕ × ℕ)) (next : List ℕ) : Type 0 where
  pub long : length next ≡ length es
  pub starts : (t : ℕ) → IsNextOf t es 0 (linked_place near far (length es) t)
  pub follows : (t i : ℕ) → comes_at t es i ≡ true → IsNextOf t es (i + 1) (slice_index next i)
