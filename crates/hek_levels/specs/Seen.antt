-- What a read sees, by the rules of a level.
use Rattle.std.specs.Prelude.{ℕ, suc, ◌≡◌, ◌<◌, ◌≤◌, ◌==◌, ◌⊎◌, true, if◌then◌else◌, List, [], ◌∷◌, Some, slice_get}
use Rattle.hek_levels.specs.declared.log.Log.{Log}
use Rattle.hek_levels.specs.declared.log.Read.{Read}
use Rattle.hek_levels.specs.declared.log.Place.{Place}
use Rattle.hek_levels.specs.declared.certificate.Writer.{Writer}
use Rattle.hek_levels.specs.declared.certificate.Writer.TheVariants as writer
use Rattle.hek_levels.specs.declared.rules.Rules.{Rules}
use Rattle.hek_levels.specs.declared.rules.Links.{Links}
use Rattle.hek_levels.specs.declared.rules.Own.{Own}
use Rattle.hek_levels.specs.declared.rules.Own.TheVariants.{Nothing, Earlier, All}
use Rattle.hek_levels.specs.Logs.{read_at, does_write, is_earlier}

-- the order of commits, and the source of each read
pub record Explanation : Type 0 where
  pub order : List ℕ
  pub source : ℕ → Place → Writer

-- t stands at the place i
abbrev pub At : List ℕ → ℕ → ℕ → Type 0
At order i t = slice_get order i ≡ Some t

abbrev pub TakesPlace : Explanation → ℕ → Type 0
TakesPlace e t = (i : ℕ) × At e.order i t

-- the first place of t; of one that is not there a place after all, by its number
abbrev pub place : List ℕ → ℕ → ℕ
place [] t = t
place (x ∷ order) t = if x == t then 0 else suc (place order t)

-- all writers in one order, the opening first
abbrev pub rank : List ℕ → Writer → ℕ
rank order writer.Opening = 0
rank order (writer.Transaction t) = suc (place order t)

abbrev pub IsBefore : Explanation → ℕ → ℕ → Type 0
IsBefore e x t = rank e.order (writer.Transaction x) < rank e.order (writer.Transaction t)

-- t reads from x
abbrev pub ReadsFrom : Log → Explanation → ℕ → ℕ → Type 0
ReadsFrom log e t x = (r : Place) × (read : Read) × (read_at log t r ≡ Some read) × (e.source t r ≡ writer.Transaction x)

-- t reads from x by the n-th operation or one before it
abbrev pub ReadsTo : Log → Explanation → ℕ → ℕ → ℕ → Type 0
ReadsTo log e t n x = (r : Place) × (read : Read) × (read_at log t r ≡ Some read) × (read.operation ≤ n) × (e.source t r ≡ writer.Transaction x)

-- what a read of t, by its n-th operation, sees by the reads of t
abbrev pub SeesByOwn : Own → Log → Explanation → ℕ → ℕ → ℕ → Type 0
SeesByOwn Nothing log e t n x = ⊥
SeesByOwn Earlier log e t n x = ReadsTo log e t n x
SeesByOwn All log e t n x = ReadsFrom log e t x

-- both write a key, x before t
abbrev pub IsOverwritten : Log → Explanation → ℕ → ℕ → Type 0
IsOverwritten log e x t = (key : ℕ) × (does_write log x key ≡ true) × (does_write log t key ≡ true) × IsBefore e x t

-- x is before t, by turns that t sees too
abbrev pub Precedes : Log → Explanation → ℕ → ℕ → Type 0
Precedes log e x t = (is_earlier log x t ≡ true) × IsBefore e x t

-- t sees x by writes or by its turns
abbrev pub IsLinked : Links → Log → Explanation → ℕ → ℕ → Type 0
IsLinked links log e t x =
    ((links.writers ≡ true) × IsOverwritten log e x t)
    ⊎ (((links.turns ≡ true) × Precedes log e x t)
    ⊎ ((links.turn_reads ≡ true) × ((z : ℕ) × Precedes log e z t × ReadsFrom log e z x)))

-- a read of t by its n-th operation sees x at once
abbrev pub SeesFirst : Rules → Log → Explanation → ℕ → ℕ → ℕ → Type 0
SeesFirst rules log e t n x =
    ((rules.whole ≡ true) × IsBefore e x t) ⊎ (SeesByOwn rules.own log e t n x ⊎ IsLinked rules.first log e t x)

-- who sees y sees x
abbrev pub Shows : Rules → Log → Explanation → ℕ → ℕ → Type 0
Shows rules log e y x =
    ((rules.prefix ≡ true) × IsBefore e x y) ⊎ (((rules.causes ≡ true) × ReadsFrom log e y x) ⊎ IsLinked rules.next log e y x)

-- the read sees the last of these at once, and by each the one before it, and so x by the first
abbrev pub SeesBy : Rules → Log → Explanation → ℕ → ℕ → List ℕ → ℕ → Type 0
SeesBy rules log e t n [] x = SeesFirst rules log e t n x
SeesBy rules log e t n (y ∷ ys) x = Shows rules log e y x × SeesBy rules log e t n ys y

-- a read of t by its n-th operation sees x
abbrev pub Sees : Rules → Log → Explanation → ℕ → ℕ → ℕ → Type 0
Sees rules log e t n x = (ys : List ℕ) × SeesBy rules log e t n ys x

-- an order in which each stands once, after the sources of its reads
pub record IsOrdered (log : Log) (e : Explanation) : Type 0 where
  pub once : (i j t : ℕ) → At e.order i t → At e.order j t → i ≡ j
  pub back : (t : ℕ) (r : Place) (read : Read) (x : ℕ) → TakesPlace e t → read_at log t r ≡ Some read → e.source t r ≡ writer.Transaction x → IsBefore e x t
