-- The parts of a world that the effects of a walk, and the other changes, leave alone.
use Rattle.std.proofs.Common.{◌≡◌, ℕ, List, [], ◌∷◌, refl, ◌∙◌}
use Rattle.std.proofs.lemmas.Bool.{cond_both}
use Rattle.hek_rules.specs.declared.event.Cause.{Cause}
use Rattle.hek_rules.specs.World.{World, txn_in}
use Rattle.hek_rules.specs.declared.event.Effect.{Effect}
use Rattle.hek_rules.specs.declared.event.Effect.TheVariants.{LockBucket, DependOn, MakeWait, ReadLock, WriteLock}
use Rattle.hek_rules.specs.Walk.{apply, apply_all}
use Rattle.hek_rules.specs.Table.{abort}
use Rattle.hek_rules.specs.Listing.{seconds_of}
use Rattle.hek_laws.proofs.Table.SetTxns.{each_txn-set, each_txn-doom}

-- the parts of a world that no walk changes
pub record SameTimes (old new : World) : Type 0 where
  pub txns : new.txns ≡ old.txns
  pub clock : new.clock ≡ old.clock
  pub buckets : new.buckets ≡ old.buckets

pub same_times : (w : World) → SameTimes w w
same_times w = record { txns = refl; clock = refl; buckets = refl }

apply-times : (t : ℕ) (w : World) (e : Effect) → SameTimes w (apply t w e)
apply-times t w (LockBucket b) = record { txns = refl; clock = refl; buckets = refl }
apply-times t w (DependOn u) = record { txns = refl; clock = refl; buckets = refl }
apply-times t w (MakeWait u) = record { txns = refl; clock = refl; buckets = refl }
apply-times t w (ReadLock v) = cond_both _ _ _ (SameTimes w) (λ _. same_times w) (λ _. record { txns = refl; clock = refl; buckets = refl })
apply-times t w (WriteLock v) = record { txns = refl; clock = refl; buckets = refl }

pub apply_all-times : (t : ℕ) (w : World) (es : List Effect) → SameTimes w (apply_all t w es)
apply_all-times t w [] = same_times w
apply_all-times t w (e ∷ es) =
    let now = apply-times t w e in
    let rest = apply_all-times t (apply t w e) es in
    record { txns = rest.txns ∙ now.txns; clock = rest.clock ∙ now.clock; buckets = rest.buckets ∙ now.buckets }

pub end-abort : (w : World) (t : ℕ) (cause : Cause) (u : ℕ) → (txn_in (abort w t cause).txns u).end ≡ (txn_in w.txns u).end
end-abort w t cause u =
    each_txn-doom (λ n x. x.end ≡ (txn_in w.txns n).end) _ (seconds_of w.dependents t) (λ n x h. h)
    (each_txn-set (λ n x. x.end ≡ (txn_in w.txns n).end) w.txns t _ (λ n. refl) refl) u

pub begin-abort : (w : World) (t : ℕ) (cause : Cause) (u : ℕ) → (txn_in (abort w t cause).txns u).begin ≡ (txn_in w.txns u).begin
begin-abort w t cause u =
    each_txn-doom (λ n x. x.begin ≡ (txn_in w.txns n).begin) _ (seconds_of w.dependents t) (λ n x h. h)
    (each_txn-set (λ n x. x.begin ≡ (txn_in w.txns n).begin) w.txns t _ (λ n. refl) refl) u
