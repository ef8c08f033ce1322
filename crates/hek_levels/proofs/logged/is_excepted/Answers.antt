use Rattle.std.proofs.Common.{ℕ, List, ap, ◌∙◌, sym}
use Rattle.std.specs.Prelude.{slice_get}
use Rattle.hek_levels.proofs.Turned.{excepted}
use Rattle.hek_levels.proofs.logged.is_excepted.Goals as goal

pub returns-in-Ok : goal.returns-in-Ok
returns-in-Ok c is_so =
    excepted c.args.scan.now c.in-Ok.n c.args.key (ap (λ (xs : List ℕ). slice_get xs c.in-Ok.n) (sym c.as_slice.ensures.value) ∙ c.is_there.ensures is_so)
