-- How beginnings of orders are dealt out to classes, and to rows.
use Rattle.std.specs.List.{All}
use Rattle.std.specs.Prelude.{ℕ, suc, ◌≡◌, ◌+◌, ◌⊎◌, List, [], ◌∷◌, ◌++◌, Option, length, map, reverse, sum_by}
use Rattle.hek_rules.specs.Plan.{Plan}
use Rattle.hek_permute.specs.declared.moves.Form.{Form}
use Rattle.hek_permute.specs.Found.{Found, Line}
use Rattle.hek_permute.specs.Moves.{Work}
use Rattle.hek_permute.specs.Numbers.{orders_of}
use Rattle.hek_permute.specs.Orders.{IsAmong}
use Rattle.hek_explore.specs.Counts.{AreAllGrown, AreApart, AreGrown, AreOf, Group, IsBefore, orders_in}
use Rattle.hek_explore.specs.Steps.{HasKey}

-- what the orders weigh that begin with q and go on with one of these; q has its last move first, and so do the orders
abbrev pub weight_on : (List ℕ → ℕ) → List (List ℕ) → List ℕ → ℕ
weight_on f rest q = sum_by (λ s. f (reverse s ++ q)) rest

-- what the orders weigh that begin with one of qs and go on with one of these
abbrev pub weigh : (List ℕ → ℕ) → List (List ℕ) → List (List ℕ) → ℕ
weigh f rest qs = sum_by (weight_on f rest) qs

-- what orders weigh, however they are weighed
abbrev pub Measure : Type 0
Measure = (List ℕ → ℕ) → ℕ

-- Beginnings are dealt out to the members, each to one that it fits. n moves are left; the orders that begin with one of
-- them weigh as much as `all` says.
abbrev pub Deals : {G : Type 0} → (G → List ℕ) → (G → List (List ℕ) → Type 0) → ℕ → List G → Measure → Type 0
Deals left Fits n [] all = (f : List ℕ → ℕ) → all f ≡ 0
Deals left Fits n (g ∷ gs) all =
    (qs : List (List ℕ)) × (rest : Measure) × Fits g qs × Deals left Fits n gs rest × ((f : List ℕ → ℕ) → all f ≡ weigh f (orders_of n (left g)) qs + rest f)

abbrev pub left_of : Group → List ℕ
left_of g = g.left

-- these are the beginnings of a class: each has a play of its key, and none comes before its first
pub record FitsClass (p : Plan) (form : Form) (works : List Work) (g : Group) (qs : List (List ℕ)) : Type 0 where
  pub keys : All (λ q. HasKey p form works q g.key g.longest) qs
  pub orders : g.orders ≡ length qs
  pub first : IsAmong (reverse g.first) qs
  pub least : (q : List ℕ) → IsAmong q qs → (g.first ≡ reverse q) ⊎ IsBefore g.first (reverse q)

abbrev pub DealsClasses : Plan → Form → List Work → ℕ → List Group → Measure → Type 0
DealsClasses p form works n groups all = Deals left_of (FitsClass p form works) n groups all

-- the beginnings of a class, with one more move, were dealt out too
abbrev pub IsExtended : Plan → Form → List Work → Group → List Group → List Group → Type 0
IsExtended p form works g old new =
    (n : ℕ) (all : Measure) (qs : List (List ℕ)) → DealsClasses p form works n old all → FitsClass p form works g qs
    → DealsClasses p form works n new (λ f. all f + weigh f (orders_of (suc n) g.left) qs)

-- what a class becomes by one more move was dealt out
abbrev pub IsExtendedBy : Group → List (Option Group) → List Group → List Group → Type 0
IsExtendedBy g grown old new = (p : Plan) (form : Form) (works : List Work) → AreGrown p form works g grown → IsExtended p form works g old new

-- the beginnings of these classes, each with one more move, were dealt out one class after another
abbrev pub AreExtended : Plan → Form → List Work → List Group → List Group → List Group → Type 0
AreExtended p form works [] old new = new ≡ old
AreExtended p form works (g ∷ gs) old new = (mid : List Group) × IsExtended p form works g old mid × AreExtended p form works gs mid new

-- what these classes become by one more move was dealt out
abbrev pub AreAllExtended : List Group → List (List (Option Group)) → List Group → List Group → Type 0
AreAllExtended groups all old new =
    (p : Plan) (form : Form) (works : List Work) → AreAllGrown p form works groups all → AreExtended p form works groups old new

-- the classes of beginnings with one more move
abbrev pub IsNextLayer : Plan → Form → List Work → List Group → List Group → Type 0
IsNextLayer p form works old new = (n : ℕ) (all : Measure) → DealsClasses p form works (suc n) old all → DealsClasses p form works n new all

-- these are the orders of a row, each with its last move first
pub record FitsRow (p : Plan) (form : Form) (works : List Work) (r : Line) (qs : List (List ℕ)) : Type 0 where
  pub noted : List (List ℕ × Found)
  pub are : AreOf p form works r noted
  pub orders : orders_in noted ≡ map (λ q. reverse q) qs

abbrev pub no_moves : Line → List ℕ
no_moves r = []

abbrev pub DealsRows : Plan → Form → List Work → List Line → Measure → Type 0
DealsRows p form works rows all = Deals no_moves (FitsRow p form works) 0 rows all

-- the orders of the classes are those of the rows
pub record IsTallied (p : Plan) (form : Form) (works : List Work) (groups : List Group) (rows : List Line) : Type 0 where
  pub dealt : (all : Measure) → DealsClasses p form works 0 groups all → DealsRows p form works rows all
  pub apart : AreApart rows
