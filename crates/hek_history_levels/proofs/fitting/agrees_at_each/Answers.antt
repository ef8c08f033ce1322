use Rattle.std.proofs.Common.{◌≡◌, ◌≤◌, ◌∙◌, ℕ, true, List, Some, length, refl, sym, ap, subst, arith}
use Rattle.std.specs.HashMap.{get}
use Rattle.std.specs.Prelude.{◌==◌, slice_get}
use Rattle.std.proofs.lemmas.Option.{slice_get_within}
use Rattle.hek_history.specs.Answers.{allows}
use Rattle.hek_levels.specs.declared.log.Change.{Change}
use Rattle.hek_history_levels.specs.Taking.{own_left}
use Rattle.hek_history_levels.proofs.Owned.{own-entry}
use Rattle.hek_history_levels.proofs.fitting.agrees_at_each.Goals as goal

pub returns : goal.returns
returns c = (
  λ yes' key v is.
      let r = own-entry (get ◌==◌ c.args.own.now.places) c.args.own.now.writes.items c.requires key v is in
      let there : slice_get c.as_slice-writes.result.now r.0 ≡ Some r.1 = subst (λ (xs : List Change). slice_get xs r.0 ≡ Some r.1) (sym c.as_slice-writes.ensures.value) r.2 in
      let within = slice_get_within c.as_slice-writes.result.now r.0 r.1 there in
      let end : length c.as_slice-writes.result.now ≤ c.loop-n.n = omega (arith, c.loop-n-test.false) in
      subst (λ (k : ℕ). allows c.args.lenient k c.args.operation.now v ≡ true) r.3
      (c.loop-n.invariant r.0 r.1 (omega (arith, within, end)) there v (ap (λ (k : ℕ). own_left c.args.own.now k) r.3 ∙ is)),
  λ all. refl,
)
