use Rattle.std.proofs.Common.{rules, ◌≡◌, ◌∙◌, false, sym}
use Rattle.std.specs.Prelude.{nat_eq}
use Rattle.hek_rules.specs.Listing.{is_among}
use Rattle.hek_txn.specs.TxnTable.{read_set_of}
use Rattle.hek_txn.specs.TxnLemmas.{among_flipped}
use Rattle.hek_txn.proofs.Held.{none_out}
use Rattle.hek_locks.proofs.write.give_up.Goals as goal

-- a version without readers is not read-locked by t
pub returns-else-readers-gt0-clause-reads : goal.returns-else-readers-gt0-clause-reads
returns-else-readers-gt0-clause-reads c =
    let none : is_among (read_set_of c.args.txns.now c.args.t).items c.args.v ≡ false = search rules in
    sym (none_out (nat_eq c.args.v) (read_set_of c.args.txns.now c.args.t).items (among_flipped (read_set_of c.args.txns.now c.args.t).items c.args.v ∙ none))
