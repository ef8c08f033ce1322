use Rattle.std.proofs.Common.{ℕ, suc, ◌≡◌, ◌<◌, ◌-◌, List, Option, Some, None, length, refl, ap, sym, ◌∙◌, arith, vec_len, eqb-true}
use Rattle.hek_rules.specs.Victim.{victim_of}
use Rattle.hek_deadlock.specs.Rows.{waits_by_rows, level_at}
use Rattle.hek_deadlock.proofs.Cycle.{level_read, same_answer, answer_with, no_answer, victim_below-zero, fewest-unwaited, unwaited}
use Rattle.hek_deadlock.proofs.search.find_victim.Goals as goal

pub loop-candidate-init : goal.loop-candidate-init
unfolding victim_of
loop-candidate-init c = record { below = omega arith; same = refl }

pub cycle-requires-clause-count : goal.cycle-requires-clause-count
cycle-requires-clause-count c =
    let k : ℕ = c.loop-candidate.candidate - 1 in
    let long : length c.in_ok-levels.levels.items ≡ length c.args.waiters.now = c.in_ok-levels.ensures.long in
    ap (λ (xs : List (Option ℕ)). level_at xs k) c.deref.ensures.value ∙ level_read c.in_ok-levels.levels.items k c.index.result.now (omega arith) c.index.ensures ∙ c.in-Some.is

pub returns-in-Some : goal.returns-in-Some
returns-in-Some c =
    let k : ℕ = c.loop-candidate.candidate - 1 in
    let suc_is : c.loop-candidate.candidate ≡ suc k = omega arith in
    let lt : k < length c.args.waiters.now = omega arith in
    let long : length c.in_ok-levels.levels.items ≡ length c.args.waiters.now = c.in_ok-levels.ensures.long in
    let level : level_at c.in_ok-levels.levels.items k ≡ Some c.in-Some.count = level_read c.in_ok-levels.levels.items k c.index.result.now (omega arith) c.index.ensures ∙ c.in-Some.is in
    answer_with k (length c.args.waiters.now) c.in-Some.count (waits_by_rows c.args.waiters.now) c.in_ok-members.members.items c.in_ok-members.ensures
    (same_answer c.loop-candidate.candidate k (length c.args.waiters.now) (waits_by_rows c.args.waiters.now) (Some c.in-Some.count) suc_is c.loop-candidate.invariant.same (sym (c.in_ok-levels.ensures.least k lt) ∙ level))

pub loop-candidate-preserved : goal.loop-candidate-preserved
loop-candidate-preserved c =
    let k : ℕ = c.loop-candidate.candidate - 1 in
    let suc_is : c.loop-candidate.candidate ≡ suc k = omega arith in
    let lt : k < length c.args.waiters.now = omega arith in
    let long : length c.in_ok-levels.levels.items ≡ length c.args.waiters.now = c.in_ok-levels.ensures.long in
    let level : level_at c.in_ok-levels.levels.items k ≡ None = level_read c.in_ok-levels.levels.items k c.index.result.now (omega arith) c.index.ensures ∙ c.in_default.is in
    record {
      below = omega arith;
      same = same_answer c.loop-candidate.candidate k (length c.args.waiters.now) (waits_by_rows c.args.waiters.now) None suc_is c.loop-candidate.invariant.same (sym (c.in_ok-levels.ensures.least k lt) ∙ level);
    }

pub returns : goal.returns
returns c =
    let zero_is : c.loop-candidate.candidate ≡ 0 = omega arith in
    sym (victim_below-zero (waits_by_rows c.args.waiters.now) (length c.args.waiters.now)) ∙ no_answer (waits_by_rows c.args.waiters.now) (length c.args.waiters.now) c.loop-candidate.candidate zero_is c.loop-candidate.invariant.same

pub loop-candidate-preserved-then-is_empty : goal.loop-candidate-preserved-then-is_empty
loop-candidate-preserved-then-is_empty c =
    let k : ℕ = c.loop-candidate.candidate - 1 in
    let suc_is : c.loop-candidate.candidate ≡ suc k = omega arith in
    let lt : k < length c.args.waiters.now = omega arith in
    let none : vec_len c.index-waiters-candidate.result ≡ 0 = eqb-true (vec_len c.index-waiters-candidate.result) 0 (sym c.is_empty.ensures ∙ c.if-is_empty.true) in
    let short : length c.index-waiters-candidate.result.items ≡ 0 = omega arith in
    record {
      below = omega arith;
      same =
          same_answer c.loop-candidate.candidate k (length c.args.waiters.now) (waits_by_rows c.args.waiters.now) None suc_is c.loop-candidate.invariant.same
          (fewest-unwaited c.args.waiters.now (length c.args.waiters.now) k (length c.args.waiters.now) k (unwaited c.args.waiters.now k c.index-waiters-candidate.result lt c.index-waiters-candidate.is short));
    }
