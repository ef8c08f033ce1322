use Rattle.std.proofs.Common.{rules, List, subst, sym, ◌≡◌, ◌++◌}
use Rattle.std.proofs.lemmas.Result.{IfOk-at_ok}
use Rattle.std.specs.Prelude.{Option}
use Rattle.hek_explore.specs.Counts.{AreAllGrown, Group}
use Rattle.hek_explore.proofs.Growing.{all-append}
use Rattle.hek_explore.proofs.crew.+parts.Goals as goal

pub returns : goal.returns
returns g t c =
    let front = c.split_at.result.0.now in
    let back = c.split_at.result.1.now in
    subst (λ (l : List Group). AreAllGrown c.args.schedule.now c.args.form c.args.moves.now l c.append.new.self.items) (sym c.split_at.ensures.by_index.0)
    (subst (λ (l : List (List (Option Group))). AreAllGrown c.args.schedule.now c.args.form c.args.moves.now (front ++ back) l) (sym c.in_ok-append.ensures.items)
    (all-append c.args.schedule.now c.args.form c.args.moves.now front back c.in_ok-all.all.items c.in_ok-others.others.items
    (IfOk-at_ok (λ all. AreAllGrown c.args.schedule.now c.args.form c.args.moves.now front all.items) c.in_ok-all.was c.join-first.ensures.first)
    (IfOk-at_ok (λ all. AreAllGrown c.args.schedule.now c.args.form c.args.moves.now back all.items) c.in_ok-others.was c.join-first.ensures.second)))
