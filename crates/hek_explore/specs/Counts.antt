-- How many orders have each outcome, and the classes by which they are counted.
use Rattle.std.specs.List.{All}
use Rattle.std.specs.Prelude.{ℕ, suc, ◌≡◌, ◌+◌, ◌<◌, ◌⊎◌, nat_lt, if◌then◌else◌, List, [], ◌∷◌, ◌++◌, Option, Some, None, count_by, length, map, reverse, slice_get, slice_set, slice_index, sum_by}
use Rattle.hek_rules.specs.Checks.{clock_end}
use Rattle.hek_rules.specs.Plan.{Plan}
use Rattle.hek_program.specs.declared.rule.Rule.{Rule}
use Rattle.hek_worker.specs.declared.entry.Entry.{Entry}
use Rattle.hek_permute.specs.declared.moves.Form.{Form}
use Rattle.hek_permute.specs.declared.play.Place.{Place}
use Rattle.hek_permute.specs.Found.{Found, IsSame, Line}
use Rattle.hek_permute.specs.Moves.{Work, AreMoves, counts_of}
use Rattle.hek_permute.specs.Numbers.{all_orders, order_total}
use Rattle.hek_permute.specs.Orders.{IsAmong, IsBelow}
use Rattle.hek_permute.specs.Plays.{Plays}
use Rattle.hek_permute.specs.Tallies.{IsPlayed, total}
use Rattle.hek_explore.specs.Codes.{code_of}
use Rattle.hek_explore.specs.Steps.{HasKey, LeadsBy}

-- ---- what is counted

-- an order has a play with this outcome, which is the same as the row's
abbrev pub HasOutcome : Plan → Form → List Work → Line → List ℕ × Found → Type 0
HasOutcome p form works r x = IsPlayed p form works x.0 x.1 × IsSame x.1 r.outcome

-- the orders that were noted
abbrev pub orders_in : List (List ℕ × Found) → List (List ℕ)
orders_in noted = map (λ (x : List ℕ × Found). x.0) noted

-- These orders, each with its outcome, are those of the row, whose first order is the least of them.
pub record AreOf (p : Plan) (form : Form) (works : List Work) (r : Line) (noted : List (List ℕ × Found)) : Type 0 where
  pub played : All (HasOutcome p form works r) noted
  pub orders : r.orders ≡ length noted
  pub waited : r.waited ≡ count_by (λ (x : List ℕ × Found). x.1.waited) noted
  pub first : IsAmong r.first (orders_in noted)
  pub least : (o : List ℕ) → IsAmong o (orders_in noted) → IsBelow o r.first → ⊥

-- how much the orders that were noted weigh
abbrev pub weight_in : (List ℕ → ℕ) → List (List ℕ × Found) → ℕ
weight_in weight noted = sum_by (λ (x : List ℕ × Found). weight x.0) noted

-- Each row has the orders with its number in the list. However orders are weighed, those of all rows weigh as much as
-- these: each order is one of exactly one row, and once.
pub record AreCountedOut (p : Plan) (form : Form) (works : List Work) (orders : List (List ℕ)) (rows : List Line) : Type 0 where
  pub noted : List (List (List ℕ × Found))
  pub long : length noted ≡ length rows
  pub each : (i : ℕ) (r : Line) (xs : List (List ℕ × Found)) → slice_get rows i ≡ Some r → slice_get noted i ≡ Some xs → AreOf p form works r xs
  pub all : (weight : List ℕ → ℕ) → sum_by (weight_in weight) noted ≡ sum_by weight orders

-- no two rows have the same outcome
abbrev pub AreApart : List Line → Type 0
AreApart rows = (i j : ℕ) (r s : Line) → i < j → slice_get rows i ≡ Some r → slice_get rows j ≡ Some s → IsSame r.outcome s.outcome → ⊥

-- all orders of these moves, counted by their outcomes
pub record IsCensusOf (p : Plan) (form : Form) (moves : List Work) (rows : List Line) : Type 0 where
  pub counted : AreCountedOut p form moves (all_orders (counts_of form moves)) rows
  pub count : total rows ≡ order_total (counts_of form moves)
  pub apart : AreApart rows

-- all orders of the moves of a schedule whose steps have these rules, counted by their outcomes
pub record IsCensus (p : Plan) (rules : List Rule) (form : Form) (rows : List Line) : Type 0 where
  pub moves : List Work
  pub are : AreMoves p rules moves
  pub all : IsCensusOf p form moves rows

-- ---- how it is counted

-- where the two first differ, xs has the lower transaction
abbrev pub IsBefore : List ℕ → List ℕ → Type 0
IsBefore [] ys = ⊥
IsBefore (x ∷ xs) [] = ⊥
IsBefore (x ∷ xs) (y ∷ ys) = (x < y) ⊎ ((x ≡ y) × IsBefore xs ys)

-- what contracts see of a class of beginnings
pub record Group : Type 0 where
  pub first : List ℕ
  pub orders : ℕ
  pub left : List ℕ
  pub key : List ℕ
  pub longest : ℕ

-- the same moves are left, and the keys are equal
pub record AreLike (g c : Group) : Type 0 where
  pub left : g.left ≡ c.left
  pub key : g.key ≡ c.key

-- g with the beginnings of c
abbrev pub joined : Group → Group → Group
joined g c = record g { orders = g.orders + c.orders; longest = if nat_lt g.longest c.longest then c.longest else g.longest }

-- g became `new` when it took c's beginnings, the first of which comes after its own
abbrev pub IsJoined : Group → Group → Group → Type 0
IsJoined g c new = (new ≡ joined g c) × IsBefore g.first c.first

-- the first of these classes comes after this one
abbrev pub IsAhead : Group → List Group → Type 0
IsAhead g [] = Unit {0}
IsAhead g (c ∷ cs) = IsBefore g.first c.first

-- the class at the place is like this one
pub record HasLike (groups : List Group) (c : Group) (place : ℕ) : Type 0 where
  pub group : Group
  pub is : slice_get groups place ≡ Some group
  pub like : AreLike group c

-- the class was joined to one that is like it, or added
abbrev pub IsPut : List Group → List Group → Group → Type 0
IsPut old new c = ((place : ℕ) × (like : HasLike old c place) × (now : Group) × IsJoined like.group c now × (new ≡ slice_set old place now)) ⊎ (new ≡ old ++ c ∷ [])

-- the play of a class's first beginning, by which its beginnings are known
pub record IsReplayed (p : Plan) (form : Form) (works : List Work) (g : Group) (plan : Plan) (places : List Place) (h : List Entry) : Type 0 where
  pub plan_is : plan ≡ p
  pub come : Plays form works (reverse g.first) places h
  pub key : code_of p places h ≡ g.key

-- one move fewer at the place
pub record IsFewer (old : List ℕ) (place : ℕ) (new : List ℕ) : Type 0 where
  pub fewer : ℕ
  pub had : slice_index old place ≡ suc fewer
  pub is : new ≡ slice_set old place fewer

-- c has the beginnings of g with one more move of the transaction at the place
pub record IsGrown (p : Plan) (form : Form) (works : List Work) (g : Group) (place : ℕ) (c : Group) : Type 0 where
  pub more : ℕ
  pub leads : LeadsBy p form works (place + 1) g.key c.key more
  pub longest : c.longest ≡ g.longest + more
  pub short : c.longest < clock_end
  pub orders : c.orders ≡ g.orders
  pub first : c.first ≡ g.first ++ (place + 1) ∷ []
  pub left : IsFewer g.left place c.left

-- what a class becomes by one more move of the transaction at the place: none, if it has no move left
abbrev pub IsGrownAt : Plan → Form → List Work → Group → ℕ → Option Group → Type 0
IsGrownAt p form works g place None = slice_index g.left place ≡ 0
IsGrownAt p form works g place (Some c) = IsGrown p form works g place c

-- what a class becomes by one more move, by the place of the transaction that moves
pub record AreGrown (p : Plan) (form : Form) (works : List Work) (g : Group) (grown : List (Option Group)) : Type 0 where
  pub long : length grown ≡ length g.left
  pub each : (place : ℕ) (found : Option Group) → slice_get grown place ≡ Some found → IsGrownAt p form works g place found

-- what each of these classes becomes by one more move
abbrev pub AreAllGrown : Plan → Form → List Work → List Group → List (List (Option Group)) → Type 0
AreAllGrown p form works [] [] = Unit {0}
AreAllGrown p form works [] (grown ∷ rest) = ⊥
AreAllGrown p form works (g ∷ gs) [] = ⊥
AreAllGrown p form works (g ∷ gs) (grown ∷ rest) = AreGrown p form works g grown × AreAllGrown p form works gs rest

-- the class, if there is one, was put among the others
abbrev pub IsPutIf : Option Group → List Group → List Group → Type 0
IsPutIf None old new = new ≡ old
IsPutIf (Some c) old new = IsPut old new c

-- the class of the beginning without moves
pub record IsStart (p : Plan) (form : Form) (works : List Work) (left : List ℕ) (g : Group) : Type 0 where
  pub key : HasKey p form works [] g.key g.longest
  pub orders : g.orders ≡ 1
  pub first : g.first ≡ []
  pub left_is : g.left ≡ left
