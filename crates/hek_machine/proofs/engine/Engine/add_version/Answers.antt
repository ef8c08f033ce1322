use Rattle.std.proofs.Common.{◌∙◌, ◌%◌, ap, sym, subst}
use Rattle.std.specs.List.{All}
use Rattle.hek_rules.specs.declared.event.WriteEntry.TheVariants.{BeginOf}
use Rattle.hek_txn.specs.Entries.{joined, same_entry}
use Rattle.hek_txn.specs.TxnTable.{Declared, write_set_of}
use Rattle.hek_buckets.specs.LockLists.{holders_of}
use Rattle.hek_buckets.specs.Waited.{IsReady, waiting_of, waiting_for_all}
use Rattle.hek_machine.proofs.AddRules.{add_holders, add_counted, add_shows}
use Rattle.hek_machine.proofs.engine.Engine.add_version.Goals as goal

pub wait_for_holders-requires-clause-holders : goal.wait_for_holders-requires-clause-holders
wait_for_holders-requires-clause-holders c =
    let m = c.args.self.now in
    subst (λ b. All (λ h. Declared c.push_write.new.self h × IsReady c.push_write.new.self c.args.t h) (holders_of m.buckets b).items) (sym c.requires.bucket)
    (add_holders m c.args.t (c.args.key % m.store.buckets) c.push_write.new.self c.requires.able c.requires.room c.requires.make c.push_write.ensures.table)

pub wait_for_holders-requires-clause-counted : goal.wait_for_holders-requires-clause-counted
wait_for_holders-requires-clause-counted c =
    add_counted c.args.self.now c.args.t c.args.bucket c.push_write.new.self c.requires.able c.push_write.ensures.table

pub returns : goal.returns
returns c =
    let m = c.args.self.now in
    let e = c.push_write.ensures in
    let f = c.wait_for_holders.ensures in
    add_shows m c.args.t c.args.key c.args.value c.add_version.new.self c.push_write.new.self c.wait_for_holders.new.txns c.add_version.ensures.buckets
    (rw (sym c.by.ensures) (rw (sym c.infinity.ensures) c.add_version.ensures.versions)) e.table
    (e.items ∙ ap (λ n. joined same_entry (write_set_of m.txns c.args.t).items (BeginOf n)) (c.new.ensures ∙ c.len.ensures.count))
    f.frame (f.waiting ∙ ap (λ b. waiting_for_all c.args.t (waiting_of c.push_write.new.self c.args.t) (holders_of m.buckets b).items) c.requires.bucket)
