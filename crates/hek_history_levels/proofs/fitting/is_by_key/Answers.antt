use Rattle.std.proofs.Common.{◌≡◌, ◌<◌, ◌↔◌, ℕ, suc, List, Some, sym, subst}
use Rattle.std.specs.Prelude.{slice_get, IsTrue}
use Rattle.hek_history.specs.declared.history.Operation.{Operation}
use Rattle.hek_history.specs.Answers.{IsByKey}
use Rattle.hek_history_levels.proofs.fitting.is_by_key.Goals as goal

pub returns-in-Scan : goal.returns-in-Scan
returns-in-Scan c =
    let rising = subst (λ (ps : List (ℕ × ℕ)). IsTrue c.is_rising.result ↔ ((n : ℕ) (p q : ℕ × ℕ) → slice_get ps n ≡ Some p → slice_get ps (suc n) ≡ Some q → p.0 < q.0)) c.as_slice.ensures.value c.is_rising.ensures in
    subst (λ (op : Operation). IsTrue c.is_rising.result ↔ IsByKey op) (sym c.in-Scan.is) rising
