-- Deadlock detection is its rule.
use Rattle.std.proofs.Common.{◌≡◌, ℕ, List, refl, ◌∙◌, ap, sym}
use Rattle.std.specs.Prelude.{Some, None}
use Rattle.hek_rules.specs.declared.event.Cause.TheVariants.{Deadlock}
use Rattle.hek_rules.specs.declared.reply.Reply.{Reply}
use Rattle.hek_rules.specs.declared.reply.Reply.TheVariants as reply
use Rattle.hek_rules.specs.WaitGraph.{victim}
use Rattle.hek_rules.specs.World.{World}
use Rattle.hek_rules.specs.Table.{unchanged, abort, aborted, detect_rule}
use Rattle.hek_store.specs.declared.version.Version.{Version as StoredVersion}
use Rattle.hek_deadlock.specs.Edges.{victim_in}
use Rattle.hek_deadlock.specs.Shown.{ShowsWaits}
use Rattle.hek_deadlock.proofs.Shown.{victim_is_shown}
use Rattle.hek_machine.specs.declared.engine.Engine.{Engine}
use Rattle.hek_machine.specs.Stands.{Shows, IsRule}
use Rattle.hek_machine.proofs.PhaseRules.{rule-is}

shown_waits : (m : Engine) (w : World) → Shows m w → ShowsWaits m.store m.txns w
shown_waits m w h = record {
  cores = h.txns.cores;
  waits = h.txns.waits;
  read_sets = h.txns.read_sets;
  waiting_lists = h.txns.waiting_lists;
  ends = λ v. ap (λ (x : StoredVersion). x.end) (h.store.versions v);
}

pub same_victim : (m : Engine) (w : World) → Shows m w → victim_in m.store m.txns ≡ victim w
same_victim m w h = victim_is_shown m.store m.txns w (shown_waits m w h)

pub rule_of_none : (m : Engine) → None ≡ victim_in m.store m.txns → IsRule (λ w. detect_rule w (victim w)) m m reply.NoCycle
rule_of_none m none =
    rule-is m m (λ w. detect_rule w (victim w)) (λ w. unchanged w reply.NoCycle) reply.NoCycle
    (λ w s. ap (detect_rule w) (sym (none ∙ same_victim m w s.shows)))
    (record { reply = λ w s. refl; shows = λ w s. s.shows })

-- the rule of a victim that has aborted
pub rule_of_victim : (m new : Engine) (t : ℕ) (cycle : List ℕ) (r : Reply) → Some (t, cycle) ≡ victim_in m.store m.txns →
    IsRule (λ w. aborted w t Deadlock) m new r → IsRule (λ w. detect_rule w (victim w)) m new (reply.Victim t cycle)
rule_of_victim m new t cycle r is gone =
    rule-is m new (λ w. detect_rule w (victim w)) (λ w. record { reply = reply.Victim t cycle; world = abort w t Deadlock }) (reply.Victim t cycle)
    (λ w s. ap (detect_rule w) (sym (is ∙ same_victim m w s.shows)))
    (record { reply = λ w s. refl; shows = gone.shows })
