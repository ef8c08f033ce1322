-- Commit and abort are their rules.
use Rattle.std.proofs.Common.{◌≡◌, ℕ, ◌<◌, [], refl, ◌∙◌, ap, sym, subst, arith, length, nat_eq}
use Rattle.std.proofs.lemmas.Bool.{cond-true}
use Rattle.std.proofs.lemmas.Bool.Decides.{nat_tests}
use Rattle.std.specs.Prelude.{slice_index_or}
use Rattle.hek_rules.specs.declared.event.Cause.{Cause}
use Rattle.hek_rules.specs.declared.reply.Reply.{Reply}
use Rattle.hek_rules.specs.declared.reply.Reply.TheVariants as reply
use Rattle.hek_rules.specs.World.{World}
use Rattle.hek_rules.specs.Waits.{commit_deps}
use Rattle.hek_rules.specs.Table.{Outcome, abort, commit, commit_rule}
use Rattle.hek_txn.specs.TxnTable.{TxnTable, Declared, commit_deps_of, dependents_of, with_dependents}
use Rattle.hek_commit.specs.Committed.{AreCounted, table_after_commit, table_after_abort}
use Rattle.hek_laws.proofs.Runs.Reachable.{reachable-sound}
use Rattle.hek_refinement.proofs.Dependents.{dependents-counted, shows-commit, shows-abort}
use Rattle.hek_refinement.proofs.Known.{dependents-known}
use Rattle.hek_machine.specs.declared.engine.Engine.{Engine}
use Rattle.hek_machine.specs.Stands.{Shows, StandsFor, StandsForSome, IsRule}

-- a rule whose outcome is that of another rule
pub rule-is : (m new : Engine) (one other : World → Outcome) (r : Reply) → ((w : World) → StandsFor m w → one w ≡ other w) → IsRule other m new r → IsRule one m new r
rule-is m new one other r same rule = record {
  reply = λ w s. rule.reply w s ∙ ap (λ (x : Outcome). x.reply) (sym (same w s));
  shows = λ w s. subst (λ (x : Outcome). Shows new x.world) (sym (same w s)) (rule.shows w s);
}

pub dependents_declared : (m : Engine) (t : ℕ) → StandsForSome m → (k d : ℕ) → k < length (dependents_of m.txns t).items → Declared m.txns (slice_index_or (dependents_of m.txns t).items k d)
dependents_declared m t o = dependents-known m.txns o.world t (reachable-sound o.world o.stands.reachable) o.stands.shows.txns

pub dependents_counted : (m : Engine) (t : ℕ) → StandsForSome m → AreCounted m.txns.commit_deps (dependents_of m.txns t).items
dependents_counted m t o = dependents-counted m.txns o.world t (reachable-sound o.world o.stands.reachable).dependents_once o.stands.shows.txns

pub row_of_commit : (m : Engine) (t : ℕ) (x : TxnTable) → Declared m.txns t → commit_deps_of m.txns t ≡ 0 →
    x ≡ with_dependents (table_after_commit m.txns t) t (dependents_of x t) → (dependents_of x t).items ≡ [] →
    IsRule (λ w. commit_rule w t) m (record m { txns = x }) reply.Committed
row_of_commit m t x d none is empty =
    rule-is m _ (λ w. commit_rule w t) (λ w. record { reply = reply.Committed; world = commit w t }) _
    (λ w s. let i = sym (s.shows.txns.commit_deps t) ∙ none in cond-true (nat_eq (commit_deps w t) 0) _ _ (grind (arith, nat_tests, i)))
    (record {
      reply = λ w s. refl;
      shows = λ w s. let h = s.shows in record {
        clock = h.clock;
        store = h.store;
        txns = rw is (shows-commit m.txns w t (dependents_of x t) d (reachable-sound w s.reachable).dependents_once empty h.txns);
        buckets = h.buckets;
      };
    })

-- the rule of an abort, with any reply
pub row_of_abort : (m : Engine) (t : ℕ) (cause : Cause) (r : Reply) (x : TxnTable) → Declared m.txns t →
    x ≡ with_dependents (table_after_abort m.txns t cause) t (dependents_of x t) → (dependents_of x t).items ≡ [] →
    IsRule (λ w. record { reply = r; world = abort w t cause }) m (record m { txns = x }) r
row_of_abort m t cause r x d is empty = record {
  reply = λ w s. refl;
  shows = λ w s. let h = s.shows in record {
    clock = h.clock;
    store = h.store;
    txns = rw is (shows-abort m.txns w t cause (dependents_of x t) d (reachable-sound w s.reachable).dependents_once empty h.txns);
    buckets = h.buckets;
  };
}
