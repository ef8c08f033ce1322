use Rattle.std.proofs.Common.{rules}
use Rattle.std.proofs.lemmas.Result.{IfOk-weaker}
use Rattle.hek_levels.specs.declared.log.Log.{Log}
use Rattle.hek_levels.specs.declared.rules.Asked.{Asked}
use Rattle.hek_levels.specs.Uncommitted.{AreFound, IsBare}
use Rattle.hek_ladder.specs.declared.asking.Finding.{Finding}
use Rattle.hek_ladder.specs.declared.asking.Finding.TheVariants.{Holds, Fails, Lost, Unknown}
use Rattle.hek_ladder.specs.Findings.{IsJudged, IsJudgedUncommitted}
use Rattle.hek_ladder.proofs.asking.found_uncommitted.Goals as goal

-- what is found of the bare log is found of read uncommitted
found-bare : (asked : Asked) (log bare : Log) → AreFound log → IsBare log bare → (finding : Finding) → IsJudged asked bare finding → IsJudgedUncommitted asked log finding
found-bare asked log bare all is_bare (Holds shown) so = (all, bare, is_bare, so)
found-bare asked log bare all is_bare (Fails steps) so = (bare, is_bare, so)
found-bare asked log bare all is_bare (Lost t place) so = absurd so
found-bare asked log bare all is_bare (Unknown progress) so = tt

pub returns : goal.returns
returns c =
    let all : AreFound c.args.scene.now.seen = search rules in
    IfOk-weaker c.found.result (IsJudged c.args.asked.now c.in_ok-turns.turns) (IsJudgedUncommitted c.args.asked.now c.args.scene.now.seen)
    (found-bare c.args.asked.now c.args.scene.now.seen c.in_ok-turns.turns all c.in_ok-turns.ensures) c.found.ensures
