-- Each run explains itself at its own levels.
use Rattle.hek_laws.specs.Runs.{recorded_run}
use Rattle.hek_history_runs.specs.Laws.{RunsExplainThemselves}
use Rattle.hek_history_runs.proofs.Explained.{RepeatableAnswers, explanation, times-in-order, versions-in-order}
use Rattle.hek_history_runs.proofs.Repeatable.{repeatable-answers}

pub runs_explain_themselves : RunsExplainThemselves
runs_explain_themselves buckets clock rows levels events some distinct first h place rec =
    let found : RepeatableAnswers (recorded_run buckets rows levels clock events) = repeatable-answers buckets clock rows levels events some distinct first in
    let e = explanation buckets clock rows levels events some distinct first h place rec found in (
      (e, λ p q asked i j a b. absurd asked),
      (e, versions-in-order buckets clock rows levels events some distinct first h place rec found),
      (e, times-in-order buckets clock rows levels events some distinct first h place rec found),
    )
