use Rattle.std.proofs.Common.{rules, List, ◌≡◌, subst, sym}
use Rattle.hek_worker.specs.declared.entry.Entry.{Entry}
use Rattle.hek_worker.specs.History.{Replays}
use Rattle.hek_worker.proofs.book.Book.copy.Goals as goal

pub invariant_of-result : goal.invariant_of-result
invariant_of-result c =
    let b = c.self.inside in
    let was = c.self.invariant in
    let same : c.in_ok-history.history.items ≡ b.history.items = search rules in
    subst (λ (h : List Entry). Replays b.schedule.now c.in_ok-machine.machine h) (sym same)
    (record { plan = was.plan; formed = was.formed; ran = record { replies = was.ran.replies; machine = c.in_ok-machine.ensures _ was.ran.machine } })
