use Rattle.std.proofs.Common.{◌≡◌, ◌++◌, [], ℕ, List, Some, nat_eq, refl, sym, ap, subst, ◌∙◌, arith}
use Rattle.std.proofs.lemmas.Grind.{common_steps}
use Rattle.std.specs.Prelude.{codes}
use Rattle.std.specs.List.{AllZip, list_any}
use Rattle.json.specs.Find.{get}
use Rattle.json.specs.Value.{value_view}
use Rattle.hek_history.specs.declared.history.Transaction.{Transaction}
use Rattle.hek_history_log.specs.Contents.{SameTransaction}
use Rattle.hek_history_log.specs.HasRead.{HasNoEntry}
use Rattle.hek_history_log.proofs.KeptLemmas.{ok_is, ok_or_err}
use Rattle.hek_history_log.proofs.NameLemmas.{opening_names}
use Rattle.hek_history_log.proofs.reader.add_opening.Goals as goal

pub returns-in_err-check_members : goal.returns-in_err-check_members
returns-in_err-check_members c buckets rows positive small are fresh is number =
    absurd (ok_or_err _ _ (sym (c.check_members.ensures (opening_names _ refl buckets rows (value_view c.args.object.now) _ is c.members_of-members.ensures)) ∙ c.in_err-check_members.was))

pub returns-in_err-buckets : goal.returns-in_err-buckets
returns-in_err-buckets c buckets rows positive small are fresh is number =
    absurd (ok_or_err _ _ (sym (c.buckets_of.ensures buckets positive small (ap (get (codes "buckets")) is)) ∙ c.in_err-buckets.was))

pub returns-in_err-read_rows : goal.returns-in_err-read_rows
returns-in_err-read_rows c buckets rows positive small are fresh is number =
    let e = c.in_err-read_rows.ensures rows are.own (ap (get (codes "rows")) is) in
    grind (arith, common_steps)

pub returns : goal.returns
returns c buckets rows positive small are fresh is number =
    let count = ok_is _ _ (sym c.in_ok-buckets.was ∙ c.buckets_of.ensures buckets positive small (ap (get (codes "buckets")) is)) in
    let read = c.in_ok-read_rows.ensures rows are.own (ap (get (codes "rows")) is) in
    record {
      opening = number;
      bucket_count = read.0.buckets ∙ count;
      opening_rows = read.1 ∙ ap (λ (l : List (ℕ × ℕ)). l ++ rows) fresh.rows;
      transactions = subst (λ (l : List Transaction). AllZip SameTransaction l []) (sym fresh.transactions) tt;
      keys = subst HasNoEntry (sym read.0.keys) fresh.keys;
      values = subst HasNoEntry (sym read.0.values) fresh.values;
      twins = fresh.twins;
      turns = fresh.turns;
      seen = λ name above. ap (list_any (nat_eq name)) fresh.seen;
    }
