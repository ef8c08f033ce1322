use Rattle.std.proofs.Common.{◌≡◌, ◌≤◌, ◌∙◌, ℕ, Some, refl, sym, subst, arith}
use Rattle.std.specs.Prelude.{◌==◌}
use Rattle.std.specs.HashMap.{get}
use Rattle.std.proofs.lemmas.Option.{slice_get_read, slice_get_within}
use Rattle.hek_levels.specs.declared.log.Read.{Read}
use Rattle.hek_levels.specs.declared.log.Place.TheVariants as place
use Rattle.hek_levels.specs.declared.certificate.Missing.{Missing}
use Rattle.hek_levels.specs.declared.certificate.Writer.TheVariants as writer
use Rattle.hek_levels.specs.Logs.{read_at}
use Rattle.hek_levels.specs.Sweeps.{IsMarked}
use Rattle.hek_levels.proofs.Turned.{one-same}
use Rattle.hek_levels.proofs.Sourcing.{on_ok}
use Rattle.hek_levels.proofs.sweep.mark_given_to.Goals as goal

pub returns-in-Some-clause-there : goal.returns-in-Some-clause-there
returns-in-Some-clause-there c =
    let at = slice_get_read c.args.given.now _ c.args.m c.in-Some.one.now refl c.in-Some.ensures.lookup.3.0 c.in-Some.ensures.lookup.1 in
    on_ok c.mark_one_to.result c.mark_one_to.ensures.there
    (λ marks x one read there.
    subst
    (λ (m : Missing).
    (y : ℕ) (r : Read) → read_at c.args.log.now c.args.t (place.Missing m.scan m.key) ≡ Some r → r.operation ≤ c.args.n → m.writer ≡ writer.Transaction y → IsMarked (get ◌==◌ c.mark_one_to.new.marked) y)
    (one-same c.in-Some.one.now one (sym at ∙ there)) marks x read)

pub returns-in-None-clause-there : goal.returns-in-None-clause-there
returns-in-None-clause-there c x one read there at by is =
    let lt = slice_get_within c.args.given.now c.args.m one there in
    let le = c.in-None.ensures.lookup.3 in
    absurd (omega (arith, lt, le))
