-- The checks of the machine, on what it shows, are those of the table.
use Rattle.std.proofs.Common.{◌≡◌, ℕ, zero, suc, Bool, true, false, not, refl, Some, ◌∙◌, ap, sym, arith, length}
use Rattle.std.specs.Prelude.{◌==◌, ◌&&◌}
use Rattle.std.proofs.lemmas.Bool.{cond-false}
use Rattle.hek_rules.specs.declared.event.Event.{Event}
use Rattle.hek_rules.specs.declared.reply.Refusal.TheVariants as refusal
use Rattle.hek_rules.specs.World.{World, txn_in, declared}
use Rattle.hek_rules.specs.declared.check.Check.TheVariants.{Passed}
use Rattle.hek_rules.specs.Events.{txn_of}
use Rattle.hek_rules.specs.Checks.{check_of, is_passed}
use Rattle.hek_rules.specs.Table.{refused, checked, answered, holds_nothing, passes, passes_by}
use Rattle.hek_txn.specs.TxnTable.{TxnTable, Declared}
use Rattle.hek_laws.proofs.Sound.Grounded.{there}
use Rattle.hek_refinement.specs.Shows.{ShowsTxns}
use Rattle.hek_machine.specs.declared.engine.Engine.{Engine}
use Rattle.hek_machine.specs.Checks.{is_idle}
use Rattle.hek_machine.specs.Stands.{Shows, StandsForSome}
use Rattle.hek_machine.specs.Steps.{NeedsNone, takes_memory}

idle-same : (x : TxnTable) (w : World) (t : ℕ) → ShowsTxns x w → is_idle x t ≡ holds_nothing w t
idle-same x w t s =
    let a = ap length (s.read_sets t) in let b = ap length (s.bucket_sets t) in
    let c = ap length (s.waiting_lists t) in let d = ap length (s.write_sets t) in
    ap (λ n. n == 0) (omega (arith, a, b, c, d))

known-there : (x : TxnTable) (w : World) (t : ℕ) → ShowsTxns x w → Declared x t → declared w.txns t ≡ true
known-there x w zero s d = absurd (let h = d.named in omega (arith, h))
known-there x w (suc i) s d = there w.txns i (let h = d.within in let long = ap length s.cores in omega (arith, h, long))

-- the machine's check of an event is the table's
check-same : (m : Engine) (w : World) (t : ℕ) (e : Event) → Shows m w →
    check_of (txn_in w.txns t) (holds_nothing w t) w.clock e ≡ check_of (txn_in m.txns.cores t) (is_idle m.txns t) m.clock e
check-same m w t e s =
    ap (λ ts. check_of (txn_in ts t) (holds_nothing w t) w.clock e) (sym s.txns.cores)
    ∙ ap (λ idle. check_of (txn_in m.txns.cores t) idle w.clock e) (sym (idle-same m.txns w t s.txns))
    ∙ ap (λ clock. check_of (txn_in m.txns.cores t) (is_idle m.txns t) clock e) (sym s.clock)

pub checks-agree : (m : Engine) (w : World) (t : ℕ) (e : Event) → Declared m.txns t → Shows m w →
    checked w t e ≡ answered w t e (check_of (txn_in m.txns.cores t) (is_idle m.txns t) m.clock e)
checks-agree m w t e d s =
    cond-false (not (declared w.txns t)) (refused w refusal.UnknownTxn) (answered w t e (check_of (txn_in w.txns t) (holds_nothing w t) w.clock e))
    (ap not (known-there m.txns w t s.txns d))
    ∙ ap (answered w t e) (check-same m w t e s)

-- ---- an event that passes the checks, and needs no memory

left-false : (a b : Bool) → b ≡ true → (a && b) ≡ false → a ≡ false
left-false true b y h = sym y ∙ h
left-false false b y h = refl

pub needs-none : (m : Engine) (t : ℕ) (e : Event) → StandsForSome m → Declared m.txns t → check_of (txn_in m.txns.cores t) (is_idle m.txns t) m.clock e ≡ Passed →
    txn_of e ≡ Some t → NeedsNone m e → takes_memory e ≡ false
needs-none m t e o d c is none =
    let w : World = o.world in
    let known : declared w.txns t ≡ true = known-there m.txns w t o.stands.shows.txns d in
    let passed : passes w e ≡ true =
    ap (passes_by w e) is
    ∙ ap (λ b. b && is_passed (check_of (txn_in w.txns t) (holds_nothing w t) w.clock e)) known
    ∙ ap is_passed (check-same m w t e o.stands.shows ∙ c) in
    left-false (takes_memory e) (passes w e) passed (none w o.stands)
