use Rattle.std.proofs.Common.{◌≡◌, ◌↔◌, ◌⊎◌, ℕ, Bool, true, false, None, List, refl, sym, subst}
use Rattle.hek_history.specs.declared.history.Operation.{Operation}
use Rattle.hek_levels.specs.declared.log.Need.{Need}
use Rattle.hek_levels.specs.declared.log.Scan.{Scan}
use Rattle.hek_history_levels.specs.Reads.{IsPaired, HasRead}
use Rattle.hek_history_levels.specs.Taking.{own_left, AreReadsWith, AreExcepted}
use Rattle.hek_history_levels.proofs.Results.{on_ok}
use Rattle.hek_history_levels.proofs.Readings.{lenient-read, scan-read}
use Rattle.hek_history_levels.proofs.reads.take_reads.Goals as goal

pub returns-in_default : goal.returns-in_default
returns-in_default c = on_ok c.take_own.result c.take_own.ensures (λ each. each c.args.scans.now.items)

pub returns-then-lenient : goal.returns-then-lenient
returns-then-lenient c =
    let own = own_left c.args.own.now in
    let reads = c.args.reads.now.items in
    let more = c.take_pairs.new.reads.items in
    let paired : (scans : List Scan) (m k : ℕ) (x : Need) → HasRead more scans m k x ↔ (HasRead reads scans m k x ⊎ ((m ≡ c.args.n) × IsPaired c.in-Scan.pairs.items k x × (own k ≡ None))) =
    subst (λ (ps : List (ℕ × ℕ)). (scans : List Scan) (m k : ℕ) (x : Need) → HasRead more scans m k x ↔ (HasRead reads scans m k x ⊎ ((m ≡ c.args.n) × IsPaired ps k x × (own k ≡ None))))
    c.as_slice.ensures.value c.in_ok-take_pairs.ensures in
    subst (λ (b : Bool). AreReadsWith b own c.args.n c.args.operation.now reads c.args.scans.now.items more c.args.scans.now.items) (sym c.if-lenient.true)
    (subst (λ (o : Operation). AreReadsWith true own c.args.n o reads c.args.scans.now.items more c.args.scans.now.items) (sym c.in-Scan.is)
    (lenient-read own c.args.n c.in-Scan.scope c.in-Scan.pairs reads more paired c.args.scans.now.items))

pub returns : goal.returns
returns c =
    let own = own_left c.args.own.now in
    let reads = c.args.reads.now.items in
    let more = c.take_pairs.new.reads.items in
    let paired : (scans : List Scan) (m k : ℕ) (x : Need) → HasRead more scans m k x ↔ (HasRead reads scans m k x ⊎ ((m ≡ c.args.n) × IsPaired c.in-Scan.pairs.items k x × (own k ≡ None))) =
    subst (λ (ps : List (ℕ × ℕ)). (scans : List Scan) (m k : ℕ) (x : Need) → HasRead more scans m k x ↔ (HasRead reads scans m k x ⊎ ((m ≡ c.args.n) × IsPaired ps k x × (own k ≡ None))))
    c.as_slice.ensures.value c.in_ok-take_pairs.ensures in
    let scan : Scan = record { operation = c.args.n; scope = c.in-Scan.scope; except = c.in_ok-excepted.field-0 } in
    let except : AreExcepted c.in-Scan.scope c.in-Scan.pairs.items own scan.except.items =
    subst (λ (ps : List (ℕ × ℕ)). AreExcepted c.in-Scan.scope ps own scan.except.items) c.as_slice-2.ensures.value c.in_ok-excepted.ensures in
    subst (λ (b : Bool). AreReadsWith b own c.args.n c.args.operation.now reads c.args.scans.now.items more c.push.new.self.items) (sym c.if-lenient.false)
    (subst (λ (o : Operation). AreReadsWith false own c.args.n o reads c.args.scans.now.items more c.push.new.self.items) (sym c.in-Scan.is)
    (scan-read own c.args.n c.in-Scan.scope c.in-Scan.pairs reads more paired c.args.scans.now.items c.push.new.self.items scan refl refl except c.in_ok-push.ensures.items))
