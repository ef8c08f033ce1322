-- A search for a reply among the plays of the beginnings of orders.
use Rattle.std.specs.Prelude.{ℕ, ◌≡◌, ◌+◌, ◌<◌, ◌⊎◌, IsTrue, Option, Some, None, List, [], ◌∷◌, length, map, reverse, take}
use Rattle.hek_rules.specs.Plan.{Plan}
use Rattle.hek_program.specs.declared.rule.Rule.{Rule}
use Rattle.hek_rules.specs.Run.{transcript}
use Rattle.hek_rules.specs.declared.event.Event.{Event}
use Rattle.hek_rules.specs.declared.reply.Reply.{Reply}
use Rattle.hek_machine.specs.Observed.{opening_of}
use Rattle.hek_worker.specs.declared.entry.Entry.{Entry}
use Rattle.hek_worker.specs.History.{IsHistory, history_events, replies_in, is_that}
use Rattle.hek_permute.specs.declared.find.Sought.{Sought}
use Rattle.hek_permute.specs.declared.moves.Form.{Form}
use Rattle.hek_permute.specs.Moves.{Work, AreMoves}
use Rattle.hek_permute.specs.Orders.{AreAlike, IsBelow}
use Rattle.hek_permute.specs.Plays.{IsPlay}
use Rattle.hek_permute.specs.Wholes.{first_in}

-- the entry has the reply, and is of the transaction that is asked for, if one is
abbrev pub IsHit : Sought → Entry → Type 0
IsHit s x = IsTrue (is_that x.worker s.who) × (x.reply ≡ s.reply)

-- some entry of the history has it
abbrev pub HasHit : Sought → List Entry → Type 0
HasHit s [] = ⊥
HasHit s (x ∷ xs) = IsHit s x ⊎ HasHit s xs

-- the history is a play of these moves, whose replies are those of the rule table, event by event
pub record IsPlayOf (p : Plan) (form : Form) (works : List Work) (moves : List ℕ) (history : List Entry) : Type 0 where
  pub formed : IsHistory (length p.txns) history
  pub replies : replies_in history ≡ map (λ (x : Event × Reply). x.1) (transcript (opening_of p 1) (history_events history))
  pub play : IsPlay form works (reverse moves) history

-- a play of these moves has the reply
abbrev pub Meets : Plan → Form → List Work → Sought → List ℕ → Type 0
Meets p form works s moves = (history : List Entry) × IsPlayOf p form works moves history × HasHit s history

-- a play of these moves does not have the reply
abbrev pub Misses : Plan → Form → List Work → Sought → List ℕ → Type 0
Misses p form works s moves = (history : List Entry) × IsPlayOf p form works moves history × (HasHit s history → ⊥)

-- no order has the reply in its first n moves
abbrev pub NoneAt : Plan → Form → List Work → Sought → ℕ → Type 0
NoneAt p form works s n = (o : List ℕ) → AreAlike (first_in form works) o → Misses p form works s (take n o)

-- the moves are the first n of an order, and have the reply; the orders before it do not have it in their first n moves
pub record IsFirstAt (p : Plan) (form : Form) (works : List Work) (s : Sought) (n : ℕ) (moves : List ℕ) : Type 0 where
  pub order : List ℕ
  pub alike : AreAlike (first_in form works) order
  pub front : moves ≡ take n order
  pub meets : Meets p form works s moves
  pub first : (o : List ℕ) → AreAlike (first_in form works) o → IsBelow o order → Misses p form works s (take n o)

-- what the search among the first n moves of all orders finds
abbrev pub IsFoundAt : Plan → Form → List Work → Sought → ℕ → Option (List ℕ) → Type 0
IsFoundAt p form works s n None = NoneAt p form works s n
IsFoundAt p form works s n (Some moves) = IsFirstAt p form works s n moves

-- no order has the reply in fewer than n moves, of at least one
abbrev pub NoneBelow : Plan → Form → List Work → Sought → ℕ → Type 0
NoneBelow p form works s n = (k : ℕ) → 0 < k → k < n → NoneAt p form works s k

-- the moves are the shortest beginning of an order that has the reply, and of equally long ones the first
pub record IsShortest (p : Plan) (form : Form) (works : List Work) (s : Sought) (moves : List ℕ) : Type 0 where
  pub length : ℕ
  pub first : IsFirstAt p form works s length moves
  pub shortest : NoneBelow p form works s length

-- what the search among all orders finds; with none, no beginning of an order has the reply
abbrev pub IsFound : Plan → Form → List Work → Sought → Option (List ℕ) → Type 0
IsFound p form works s None = NoneBelow p form works s (length (first_in form works) + 1)
IsFound p form works s (Some moves) = IsShortest p form works s moves

-- the same, for the moves of the transactions of a schedule whose steps have these rules
pub record IsAnswer (p : Plan) (rules : List Rule) (form : Form) (s : Sought) (found : Option (List ℕ)) : Type 0 where
  pub works : List Work
  pub are : AreMoves p rules works
  pub answer : IsFound p form works s found
