use Rattle.std.proofs.Common.{◌≡◌, ◌<◌, ◌++◌, ◌∷◌, [], suc, length, None, arith, refl, sym, ap, ◌∙◌}
use Rattle.std.proofs.lemmas.Grind.{common_steps}
use Rattle.std.specs.Prelude.{codes}
use Rattle.json.specs.Find.{get}
use Rattle.json.specs.Value.{value_view}
use Rattle.hek_history_log.specs.HasRead.{HasRead}
use Rattle.hek_history_log.specs.Kept.{AddsTransaction}
use Rattle.hek_history_log.specs.declared.fault.LogFault.TheVariants.{NoMemory}
use Rattle.hek_history_log.specs.declared.symbols.Symbols.{Symbols}
use Rattle.hek_history_log.proofs.FieldLemmas.{get-txn, get-session}
use Rattle.hek_history_log.proofs.KeptLemmas.{ok_is, ok_or_err, gives_map, gives_err}
use Rattle.hek_history_log.proofs.NameLemmas.{transaction_names}
use Rattle.hek_history_log.proofs.ReadLemmas.{reads_next}
use Rattle.hek_history_log.proofs.reader.add_next.Goals as goal

pub returns-in_err-label : goal.returns-in_err-label
returns-in_err-label c buckets rows ts t had readable few is =
    absurd (ok_or_err _ _ (sym (c.name_of.ensures (suc (length ts)) (omega arith) (ap (get (codes "txn")) is ∙ get-txn (suc (length ts)) t)) ∙ c.in_err-label.was))

pub returns-in_err-check_members : goal.returns-in_err-check_members
returns-in_err-check_members c buckets rows ts t had readable few is =
    absurd (ok_or_err _ _ (sym (c.check_members.ensures (transaction_names _ refl (suc (length ts)) t (value_view c.args.object.now) _ is c.members_of.ensures)) ∙ c.in_err-check_members.was))

pub returns-in_err-name : goal.returns-in_err-name
returns-in_err-name c buckets rows ts t had readable few is =
    let label = ok_is _ _ (sym c.in_ok-label.was ∙ c.name_of.ensures (suc (length ts)) (omega arith) (ap (get (codes "txn")) is ∙ get-txn (suc (length ts)) t)) in
    let e = c.in_err-name.ensures (suc (length ts)) few label (had.seen (suc (length ts)) (omega arith)) in
    grind (arith, common_steps)

pub returns-in_err-turn : goal.returns-in_err-turn
returns-in_err-turn c buckets rows ts t had readable few is =
    absurd (ok_or_err _ _ (sym (c.turn_of.ensures (ap (get (codes "session")) is ∙ get-session (suc (length ts)) t)) ∙ c.in_err-turn.was))

pub returns : goal.returns
returns c buckets rows ts t had readable few is =
    let label = ok_is _ _ (sym c.in_ok-label.was ∙ c.name_of.ensures (suc (length ts)) (omega arith) (ap (get (codes "txn")) is ∙ get-txn (suc (length ts)) t)) in
    let named = c.in_ok-name.ensures (suc (length ts)) few label (had.seen (suc (length ts)) (omega arith)) in
    let turn : c.in_ok-turn.turn ≡ None = ok_is _ _ (sym c.in_ok-turn.was ∙ c.turn_of.ensures (ap (get (codes "session")) is ∙ get-session (suc (length ts)) t)) in
    let adds = c.add_transaction.ensures buckets (suc (length ts)) t readable (ap (λ (s : Symbols). s.buckets) named.1.symbols ∙ had.bucket_count) turn is in
    gives_map c.add_transaction.result NoMemory _ _ (λ _ added. reads_next buckets rows ts t _ _ _ _ had named.1 (record { history = refl; symbols = refl; opening = refl; turns = record { twins = refl; turns = refl }; seen = refl }) added) adds
