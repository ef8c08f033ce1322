-- Two tallies added.
use Rattle.std.specs.Prelude.{◌≡◌, ◌+◌, ◌⊎◌, List, [], ◌∷◌}
use Rattle.hek_permute.specs.Found.{IsSame, Line}

-- a row that counts the orders of another one too
abbrev pub both : Line → Line → Line
both row other = record row { orders = row.orders + other.orders; waited = row.waited + other.waited }

-- the first row of the same outcome counts the orders of the other row too; a row of a new outcome becomes the last
abbrev pub IsRowAdded : List Line → Line → List Line → Type 0
IsRowAdded [] other new = new ≡ other ∷ []
IsRowAdded (row ∷ rows) other new =
    (IsSame row.outcome other.outcome × (new ≡ both row other ∷ rows))
    ⊎ ((IsSame row.outcome other.outcome → ⊥) × ((rest : List Line) × IsRowAdded rows other rest × (new ≡ row ∷ rest)))

-- the rows of the other tally are added, one after another
abbrev pub AreAdded : List Line → List Line → List Line → Type 0
AreAdded old [] new = new ≡ old
AreAdded old (other ∷ others) new = (was : List Line) × IsRowAdded old other was × AreAdded was others new
