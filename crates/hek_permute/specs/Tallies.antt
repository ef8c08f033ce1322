-- How often each outcome occurred.
use Rattle.std.specs.Prelude.{ℕ, ◌≡◌, ◌+◌, ◌<◌, ◌⊎◌, Bool, true, false, ◌&&◌, cond, if◌then◌else◌, nat_le, nat_lt, List, [], ◌∷◌, ◌++◌, length, reverse, slice_get, slice_set, Some, sum_by}
use Rattle.hek_rules.specs.Plan.{Plan}
use Rattle.hek_worker.specs.declared.entry.Entry.{Entry}
use Rattle.hek_worker.specs.History.{IsHistory, history_events, replies_in}
use Rattle.hek_rules.specs.declared.event.Event.{Event}
use Rattle.hek_rules.specs.declared.reply.Reply.{Reply}
use Rattle.hek_rules.specs.Run.{transcript}
use Rattle.hek_machine.specs.Observed.{opening_of}
use Rattle.hek_permute.specs.declared.moves.Form.{Form}
use Rattle.hek_permute.specs.Found.{Found, IsSame, Line}
use Rattle.hek_permute.specs.Moves.{Work}
use Rattle.hek_permute.specs.Plays.{IsPlay}
use Rattle.hek_permute.specs.Outcomes.{IsOutcomeOf}
use Rattle.std.specs.Prelude.{map}

abbrev pub one_if : Bool → ℕ
one_if b = cond b 1 0

-- a row that counts one more order
abbrev pub more : Line → Bool → Line
more r waited = record r { orders = r.orders + 1; waited = r.waited + one_if waited }

-- a row for a new outcome
abbrev pub row_of : Found → List ℕ → Line
row_of o order = record { outcome = o; orders = 1; waited = one_if o.waited; first = order }

abbrev pub NoneSame : List Line → Found → Type 0
NoneSame rows o = (i : ℕ) (r : Line) → slice_get rows i ≡ Some r → IsSame r.outcome o → ⊥

-- the row at the place is the first one with the outcome
pub record IsFirstSame (rows : List Line) (o : Found) (place : ℕ) : Type 0 where
  pub row : Line
  pub is : slice_get rows place ≡ Some row
  pub same : IsSame row.outcome o
  pub first : (i : ℕ) (r : Line) → i < place → slice_get rows i ≡ Some r → IsSame r.outcome o → ⊥

-- the row of the outcome counts one more order
pub record IsCounted (old new : List Line) (o : Found) : Type 0 where
  pub place : ℕ
  pub found : IsFirstSame old o place
  pub counted : new ≡ slice_set old place (more found.row o.waited)

-- the tally had no row of the outcome, and has one now
pub record IsAdded (old new : List Line) (o : Found) (order : List ℕ) : Type 0 where
  pub none : NoneSame old o
  pub added : new ≡ old ++ row_of o order ∷ []

-- an order with this outcome was noted
abbrev pub IsNoted : List Line → List Line → Found → List ℕ → Type 0
IsNoted old new o order = IsCounted old new o ⊎ IsAdded old new o order

-- a row that counts n more orders, which have all waited or none of them
abbrev pub many_more : Line → ℕ → Bool → Line
many_more r n waited = record r { orders = r.orders + n; waited = r.waited + (if waited then n else 0) }

-- a row for n orders with a new outcome
abbrev pub row_for : Found → ℕ → List ℕ → Line
row_for o n first = record { outcome = o; orders = n; waited = if o.waited then n else 0; first = first }

-- the row of the outcome counts n more orders
pub record AreCounted (old new : List Line) (o : Found) (n : ℕ) : Type 0 where
  pub place : ℕ
  pub found : IsFirstSame old o place
  pub counted : new ≡ slice_set old place (many_more found.row n o.waited)

-- the tally had no row of the outcome, and has one of n orders now
pub record AreAdded (old new : List Line) (o : Found) (n : ℕ) (first : List ℕ) : Type 0 where
  pub none : NoneSame old o
  pub added : new ≡ old ++ row_for o n first ∷ []

-- n orders with this outcome were noted
abbrev pub AreNoted : List Line → List Line → Found → ℕ → List ℕ → Type 0
AreNoted old new o n first = AreCounted old new o n ⊎ AreAdded old new o n first

-- how many orders were noted
abbrev pub total : List Line → ℕ
total rows = sum_by (λ r. r.orders) rows

-- the outcome is that of a play of the order, whose replies are those of the rule table, event by event
pub record IsPlayed (p : Plan) (form : Form) (works : List Work) (order : List ℕ) (o : Found) : Type 0 where
  pub history : List Entry
  pub formed : IsHistory (length p.txns) history
  pub replies : replies_in history ≡ map (λ (x : Event × Reply). x.1) (transcript (opening_of p 1) (history_events history))
  pub play : IsPlay form works (reverse order) history
  pub outcome : IsOutcomeOf p history o

-- whether the order with this number, from 0, is in the part
abbrev pub is_between : ℕ → ℕ → ℕ → Bool
is_between from to n = nat_le from n && nat_lt n to

-- an order in the part is played and noted, another is skipped
abbrev pub Goes : Plan → Form → List Work → Bool → List ℕ → List Line → List Line → Type 0
Goes p form works true order old new = (o : Found) × IsPlayed p form works order o × IsNoted old new o order
Goes p form works false order old new = new ≡ old

-- the tally of these orders; the list has the last order first
abbrev pub IsTally : Plan → Form → List Work → ℕ → ℕ → List (List ℕ) → List Line → Type 0
IsTally p form works from to [] rows = rows ≡ []
IsTally p form works from to (order ∷ past) rows =
    (was : List Line) × IsTally p form works from to past was × Goes p form works (is_between from to (length past)) order was rows
