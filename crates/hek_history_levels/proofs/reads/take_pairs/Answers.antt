use Rattle.std.proofs.Common.{◌≡◌, ◌+◌, ◌≤◌, ◌↔◌, ◌⊎◌, ◌∙◌, None, Vec, Global, length, get_or, sym, subst, arith}
use Rattle.hek_levels.specs.declared.log.Need.TheVariants.{Value}
use Rattle.hek_levels.specs.declared.log.Read.{Read}
use Rattle.hek_history_levels.specs.Reads.{HasRead}
use Rattle.hek_history_levels.specs.Taking.{own_left}
use Rattle.hek_history_levels.proofs.Readings.{IsPairedTo, none_from, some_from, pair-taken, pair-left, pairs-all}
use Rattle.hek_history_levels.proofs.reads.take_pairs.Goals as goal
use Rattle.hek_history_levels.proofs.reads.take_pairs.Goals.{then-is_none+in_ok-push_read, else-is_none}

pub loop-i-preserved : goal.loop-i-preserved
loop-i-preserved c scans m k need =
    let pairs = c.args.pairs.now in
    let i = c.loop-i.i in
    elim c.if-is_none.branch [
      | then-is_none+in_ok-push_read w ↦
          let none : own_left c.args.own.now (get_or pairs i (0, 0)).0 ≡ None = sym c.own_of.ensures ∙ none_from c.own_of.result c.is_none.result c.is_none.ensures w.if-is_none.true in
          pair-taken (own_left c.args.own.now) c.args.n pairs i m k need (HasRead c.args.reads.now.items scans m k need) (HasRead c.loop-i.reads.items scans m k need) c.loop-i-test.true
          (c.loop-i.invariant scans m k need) (HasRead c.if-is_none.reads.items scans m k need) none
          (subst (λ (v : Vec Read Global). HasRead v.items scans m k need ↔ (HasRead c.loop-i.reads.items scans m k need ⊎ ((m ≡ c.args.n) × (k ≡ (get_or pairs i (0, 0)).0) × (need ≡ Value (get_or pairs i (0, 0)).1))))
          (sym w.reads-is) (w.in_ok-push_read.ensures scans m k need))
      | else-is_none w ↦
          let some : own_left c.args.own.now (get_or pairs i (0, 0)).0 ≡ None → ⊥ =
          λ none. some_from c.own_of.result c.is_none.result c.is_none.ensures w.if-is_none.false (c.own_of.ensures ∙ none) in
          subst (λ (v : Vec Read Global). HasRead v.items scans m k need ↔ (HasRead c.args.reads.now.items scans m k need ⊎ ((m ≡ c.args.n) × IsPairedTo pairs (i + 1) k need × (own_left c.args.own.now k ≡ None))))
          (sym w.reads-is)
          (pair-left (own_left c.args.own.now) c.args.n pairs i m k need (HasRead c.args.reads.now.items scans m k need) (HasRead c.loop-i.reads.items scans m k need) c.loop-i-test.true
          (c.loop-i.invariant scans m k need) some)
    ]

pub returns : goal.returns
returns c scans m k need =
    let end : length c.args.pairs.now ≤ c.loop-i.i = omega (arith, c.loop-i-test.false) in
    pairs-all c.args.pairs.now c.loop-i.i k need (HasRead c.args.reads.now.items scans m k need) (HasRead c.loop-i.reads.items scans m k need) (m ≡ c.args.n) (own_left c.args.own.now k ≡ None) end
    (c.loop-i.invariant scans m k need)
