use Rattle.std.proofs.Common.{rules, ◌≡◌, length, sym, subst}
use Rattle.std.specs.List.{AllByRecursion}
use Rattle.hek_asm.specs.Trace.{NamesDeclared}
use Rattle.hek_worker.specs.History.{history_events}
use Rattle.hek_threads_command.proofs.Histories.{all_named}
use Rattle.hek_threads_command.proofs.text.trace_text.Goals as goal

pub text_of-requires-clause-declared : goal.text_of-requires-clause-declared
text_of-requires-clause-declared c =
    let n = length c.args.schedule.now.txns in
    let is : c.as_slice-2.result.now ≡ history_events c.args.history.items = search rules in
    subst (AllByRecursion (NamesDeclared n)) (sym is) (all_named n c.args.history.items c.requires)
