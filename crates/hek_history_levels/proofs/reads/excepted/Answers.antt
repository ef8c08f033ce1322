use Rattle.std.proofs.Common.{◌==◌, ◌∙◌, ℕ, Bool, sym, ap}
use Rattle.std.specs.Prelude.{is_some, ◌||◌}
use Rattle.std.proofs.lemmas.List.Sorted.{list_any-IsPermutation}
use Rattle.hek_history_levels.specs.Taking.{own_left}
use Rattle.hek_history_levels.proofs.reads.excepted.Goals as goal

pub returns : goal.returns
returns c key cover =
    sym (list_any-IsPermutation (λ (k : ℕ). k == key) _ _ c.sort_unstable.ensures.permutation) ∙ c.in_ok-add_own.ensures key cover
    ∙ ap (λ (b : Bool). b || is_some (own_left c.args.own.now key)) (c.in_ok-keys.ensures key)
