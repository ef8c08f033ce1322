-- What a verdict says.
use Rattle.hek_levels.specs.declared.log.Log.{Log}
use Rattle.hek_levels.specs.declared.rules.Asked.{Asked}
use Rattle.hek_levels.specs.Explanations.{Explains, HasNoExplanation, explanation}
use Rattle.hek_levels.specs.Points.{commits_of, IsExplainedBy}
use Rattle.hek_levels_search.specs.declared.judging.Shown.{Shown}
use Rattle.hek_levels_search.specs.declared.judging.Shown.TheVariants.{Points, Sources}
use Rattle.hek_levels_search.specs.declared.judging.Turned.{Turned}
use Rattle.hek_levels_search.specs.declared.judging.Turned.TheVariants.{Judged, Missed}
use Rattle.hek_levels_search.specs.declared.judging.Verdict.{Verdict}
use Rattle.hek_levels_search.specs.declared.judging.Verdict.TheVariants.{Holds, Fails, Unknown}

-- an order of commits explains the log, by points or with these sources
abbrev pub IsShown : Asked → Log → Shown → Type 0
IsShown asked log (Points points) = IsExplainedBy asked log (commits_of points.items)
IsShown asked log (Sources certificate) = Explains asked log (explanation certificate)

-- the log has an explanation, or it has none
abbrev pub IsVerdict : Asked → Log → Verdict → Type 0
IsVerdict asked log (Holds shown) = IsShown asked log shown
IsVerdict asked log (Fails steps) = HasNoExplanation asked log
IsVerdict asked log (Unknown progress) = Unit {0}

-- a verdict, if there is one yet
abbrev pub IsTurned : Asked → Log → Turned → Type 0
IsTurned asked log (Judged verdict) = IsVerdict asked log verdict
IsTurned asked log (Missed missed) = Unit {0}
