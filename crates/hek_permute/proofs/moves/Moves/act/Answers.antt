use Rattle.std.proofs.Common.{◌≡◌, ◌∙◌, ℕ, Some, ap, refl, subst}
use Rattle.std.proofs.lemmas.Option.{slice_get_read}
use Rattle.std.specs.Prelude.{slice_get}
use Rattle.hek_program.specs.declared.rule.Act.{Act}
use Rattle.hek_program.specs.Acts.{act_of}
use Rattle.hek_program.specs.Told.{seen_by}
use Rattle.hek_permute.specs.declared.moves.Move.{Move}
use Rattle.hek_permute.specs.Plays.{own_of}
use Rattle.hek_permute.proofs.Acts.{act-at}
use Rattle.hek_permute.proofs.moves.Moves.act.Goals as goal

pub returns-in-Some : goal.returns-in-Some
returns-in-Some c =
    let f : Move → Act = λ (m : Move). act_of (seen_by c.args.self.now.buckets (own_of c.args.txn c.args.history.now)) m.event m.rule in
    let read : slice_get c.steps.result.now c.args.place ≡ Some c.in-Some.step.now =
    slice_get_read c.steps.result.now _ c.args.place c.in-Some.step.now refl c.in-Some.ensures.lookup.3.0 c.in-Some.ensures.lookup.1 in
    let got : slice_get c.args.self.now.steps c.args.place ≡ Some c.in-Some.step.now = subst (λ l. slice_get l c.args.place ≡ Some c.in-Some.step.now) c.steps.ensures read in
    let is : c.act_of.result ≡ f c.in-Some.step.now =
    c.act_of.ensures ∙ ap (λ (b : ℕ). act_of (seen_by b (own_of c.args.txn c.args.history.now)) c.in-Some.step.now.event c.in-Some.step.now.rule) c.buckets.ensures.value in
    act-at f c.args.self.now.steps c.args.place c.in-Some.step.now c.act_of.result is got
