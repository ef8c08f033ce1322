use Rattle.std.proofs.Common.{◌≡◌, drop, map}
use Rattle.hek_asm.specs.Likely.{form_among}
use Rattle.hek_asm.proofs.likely.form_among.Given as goal

abbrev pub invariant-loop-form : goal.invariant-loop-form
invariant-loop-form l = form_among (drop l.form-index l.forms) (map (λ w. w.now) l.words) ≡ form_among l.forms (map (λ w. w.now) l.words)
