-- What the steps of a certificate say, and when it follows.
use Rattle.std.specs.Prelude.{ℕ, suc, ◌≡◌, ◌<◌, ◌≤◌, List, [], ◌∷◌, ◌++◌, Some, None, slice_get, take}
use Rattle.hek_levels.specs.declared.log.Log.{Log}
use Rattle.hek_levels.specs.declared.log.Read.{Read}
use Rattle.hek_levels.specs.declared.rules.Asked.{Asked}
use Rattle.hek_levels.specs.Levels.{asked_of}
use Rattle.hek_levels.specs.declared.certificate.Writer.{Writer}
use Rattle.hek_levels.specs.declared.certificate.Writer.TheVariants as writer
use Rattle.hek_levels_refutation.specs.declared.claim.Claim.{Claim}
use Rattle.hek_levels_refutation.specs.declared.claim.Claim.TheVariants.{Before, Occurs, From, Source, Not, Visible, Contradiction}
use Rattle.hek_levels_refutation.specs.declared.claim.Context.{Context}
use Rattle.hek_levels_refutation.specs.declared.claim.Shown.{Shown}
use Rattle.hek_levels_refutation.specs.declared.refutation.Outcome.{Outcome}
use Rattle.hek_levels_refutation.specs.declared.refutation.Outcome.TheVariants.{Refused, Accepted, Refuted}
use Rattle.hek_levels.specs.Logs.{read_at}
use Rattle.hek_levels.specs.Seen.{Explanation, TakesPlace, rank, Sees}
use Rattle.hek_levels.specs.Explanations.{Explains, HasNoExplanation}

abbrev pub number_of : Writer → ℕ
number_of writer.Opening = 0
number_of (writer.Transaction x) = suc x

-- what a claim says of an explanation
abbrev pub Holds : Asked → Log → Explanation → Claim → Type 0
Holds asked log e (Before first second) = rank e.order first < rank e.order second
Holds asked log e (Occurs t) = TakesPlace e t
Holds asked log e (From reader r number end) =
    TakesPlace e reader × (number ≤ number_of (e.source reader r)) × ((read : Read) → read_at log reader r ≡ Some read → number_of (e.source reader r) < end)
Holds asked log e (Source reader r w) = TakesPlace e reader × (e.source reader r ≡ w)
Holds asked log e (Not reader r w) = TakesPlace e reader → e.source reader r ≡ w → ⊥
Holds asked log e (Visible reader r x) = TakesPlace e reader × ((read : Read) → read_at log reader r ≡ Some read → Sees (asked_of asked reader) log e reader read.operation x)
Holds asked log e Contradiction = ⊥

abbrev pub AllHold : Asked → Log → Explanation → List Shown → Type 0
AllHold asked log e shown = (n : ℕ) (s : Shown) → slice_get shown n ≡ Some s → Holds asked log e s.claim

-- the claim holds in every explanation in which all that is shown holds
abbrev pub Follows : Asked → Log → List Shown → Claim → Type 0
Follows asked log shown claim = (e : Explanation) → Explains asked log e → AllHold asked log e shown → Holds asked log e claim

abbrev pub FollowsFrom : Context → Claim → Type 0
FollowsFrom context claim = Follows context.asked.now context.log.now context.shown.now claim

-- the assumed ones among the first n hold
abbrev pub AssumedHold : Asked → Log → Explanation → List Shown → ℕ → Type 0
AssumedHold asked log e shown n = (k : ℕ) (s : Shown) (c : Claim) → k < n → slice_get shown k ≡ Some s → s.contrary ≡ Some c → Holds asked log e s.claim

-- where the one doesn't hold, the other does
abbrev pub IsContrary : Asked → Log → Claim → Claim → Type 0
IsContrary asked log claim other = (e : Explanation) → Explains asked log e → (Holds asked log e claim → ⊥) → Holds asked log e other

abbrev pub IsContraryIn : Context → Claim → Claim → Type 0
IsContraryIn context claim other = IsContrary context.asked.now context.log.now claim other

-- what is not assumed holds where all hold that are assumed before it; and what is assumed has its contrary
pub record IsSound (asked : Asked) (log : Log) (shown : List Shown) : Type 0 where
  pub holds : (e : Explanation) → Explains asked log e → (n : ℕ) (s : Shown) → slice_get shown n ≡ Some s → s.contrary ≡ None →
      AssumedHold asked log e shown n → Holds asked log e s.claim
  pub turns : (n : ℕ) (s : Shown) (c : Claim) → slice_get shown n ≡ Some s → s.contrary ≡ Some c → IsContrary asked log s.claim c

abbrev pub NoneAssumed : List Shown → Type 0
NoneAssumed shown = (n : ℕ) (s : Shown) → slice_get shown n ≡ Some s → s.contrary ≡ None

pub record IsLastAssumed (shown : List Shown) (n : ℕ) (c : Claim) : Type 0 where
  pub step : Shown
  pub there : slice_get shown n ≡ Some step
  pub assumed : step.contrary ≡ Some c
  pub last : (k : ℕ) (s : Shown) → n < k → slice_get shown k ≡ Some s → s.contrary ≡ None

-- what is shown once the n-th, which was assumed, has come to a contradiction
abbrev pub IsTurned : List Shown → ℕ → Claim → List Shown → Type 0
IsTurned shown n c new = new ≡ take n shown ++ record { claim = c; contrary = None } ∷ []

-- what is known after a step
abbrev pub IsOutcome : Asked → Log → List Shown → Outcome → Type 0
IsOutcome asked log shown Refused = Unit {0}
IsOutcome asked log shown Accepted = IsSound asked log shown
IsOutcome asked log shown Refuted = HasNoExplanation asked log
