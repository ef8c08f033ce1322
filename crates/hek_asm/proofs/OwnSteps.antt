-- The steps of a schedule: what holds of each, and that lines of them are entries.
use Rattle.std.proofs.Common.{◌≡◌, ℕ, ◌≤◌, List, ◌++◌, length, sym, ap, subst, ◌∙◌, append_assoc, arith}
use Rattle.hek_rules.specs.declared.event.Event.{Event}
use Rattle.hek_rules.specs.declared.event.Event.TheVariants as event
use Rattle.hek_rules.specs.declared.reply.Reply.{Reply}
use Rattle.hek_rules.specs.Plan.{Plan, IsPlan, IsStep}
use Rattle.hek_asm.specs.Likely.{likely_reply}
use Rattle.hek_asm.specs.Reading.{IsSmallReply, IsFront, IsLineRest}
use Rattle.hek_asm.specs.Trace.{line_front, line_rest}
use Rattle.hek_asm.proofs.LineLemmas.{line_halves}
use Rattle.hek_asm.proofs.RowLemmas.{step_declared}
use Rattle.hek_asm.proofs.SmallEntry.{IsSmallEvent, reply_small, zero_small}

step_small : (buckets txns : ℕ) (e : Event) → buckets ≤ 1024 → IsStep buckets txns e → IsSmallEvent e
step_small b n (event.Begin t) few h = (zero_small, zero_small)
step_small b n (event.Read t k) few h = (h.1, zero_small)
step_small b n (event.Scan t k) few h = (omega (arith, h.1, few), zero_small)
step_small b n (event.Insert t k v) few h = (h.1.0, h.1.1)
step_small b n (event.Update t k v) few h = (h.1.0, h.1.1)
step_small b n (event.Delete t k) few h = (h.1, zero_small)
step_small b n (event.Finish t) few h = (zero_small, zero_small)
step_small b n (event.Precommit t) few h = (zero_small, zero_small)
step_small b n (event.Release t) few h = (zero_small, zero_small)
step_small b n (event.Commit t) few h = (zero_small, zero_small)
step_small b n (event.Fail t) few h = (zero_small, zero_small)
step_small b n (event.Stamp t) few h = (zero_small, zero_small)
step_small b n (event.End t) few h = (zero_small, zero_small)
step_small b n event.Detect few h = (zero_small, zero_small)

-- a step's line, by its two parts
pub step_front : (p : Plan) (n : ℕ) (e : Event) (r : Reply) (text rest after : List ℕ) → IsPlan p → IsStep p.buckets (length p.txns) e →
    text ≡ line_front p n e ++ rest → IsLineRest r rest after → IsFront p n (e, r) text after
step_front p n e r text rest after is step front back =
    let small = step_small p.buckets (length p.txns) e is.buckets.1 step in
    record {
      entry = record { declared = step_declared p.buckets (length p.txns) e step; first = small.0; second = small.1; reply = back.small };
      is = front
          ∙ ap (λ (bs : List ℕ). line_front p n e ++ bs) back.is
          ∙ sym (append_assoc (line_front p n e) (line_rest r) after)
          ∙ ap (λ (bs : List ℕ). bs ++ after) (sym (line_halves p n e r));
    }

-- the reply that words say is small
pub words_rest : (r : Reply) (ws : List (List ℕ)) (text after : List ℕ) → r ≡ likely_reply ws → text ≡ line_rest r ++ after → IsLineRest r text after
words_rest r ws text after reply is = record { small = subst IsSmallReply (sym reply) (reply_small ws); is = is }
