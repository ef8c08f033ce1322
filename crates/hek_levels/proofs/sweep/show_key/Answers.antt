use Rattle.std.proofs.Common.{◌∙◌, refl, sym, subst, arith}
use Rattle.std.specs.Prelude.{◌==◌}
use Rattle.std.specs.HashMap.{get}
use Rattle.std.proofs.lemmas.Option.{slice_get_read, slice_get_within}
use Rattle.hek_levels.specs.declared.log.Change.{Change}
use Rattle.hek_levels.specs.Sweeps.{IsMarked}
use Rattle.hek_levels.proofs.Marks.{marked_entry}
use Rattle.hek_levels.proofs.Turned.{one-same}
use Rattle.hek_levels.proofs.Sourcing.{on_ok}
use Rattle.hek_levels.proofs.sweep.show_key.Goals as goal

pub returns-in-Some-clause-there : goal.returns-in-Some-clause-there
returns-in-Some-clause-there c =
    let at = slice_get_read c.args.changes.now _ c.args.n c.in-Some.change.now refl c.in-Some.ensures.lookup.3.0 c.in-Some.ensures.lookup.1 in
    on_ok c.mark_key.result c.mark_key.ensures
    (λ more change there.
    subst (λ (m : Change). IsMarked (get ◌==◌ c.mark_key.new.keys) m.key) (one-same c.in-Some.change.now change (sym at ∙ there))
    (marked_entry (get ◌==◌ c.args.keys.now) (get ◌==◌ c.mark_key.new.keys) c.in-Some.change.now.key c.in-Some.change.now.key more))

pub returns-in-None-clause-there : goal.returns-in-None-clause-there
returns-in-None-clause-there c change there =
    let lt = slice_get_within c.args.changes.now c.args.n change there in
    let le = c.in-None.ensures.lookup.3 in
    absurd (omega (arith, lt, le))
