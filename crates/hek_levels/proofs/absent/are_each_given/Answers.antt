use Rattle.std.proofs.Common.{ℕ}
use Rattle.hek_levels.specs.declared.log.Scan.{Scan}
use Rattle.hek_levels.specs.Absences.{given_in_map, AreGiven}
use Rattle.hek_levels.proofs.Turned.{each-more, each-all}
use Rattle.hek_levels.proofs.absent.are_each_given.Goals as goal

pub loop-n-preserved : goal.loop-n-preserved
loop-n-preserved c =
    each-more (λ (n : ℕ) (scan : Scan). AreGiven c.args.rows.now (given_in_map c.args.map.now) n scan) c.args.scans.now c.loop-n.n c.loop-n.invariant (c.in_ok-are_given_at.ensures c.if-not-branch.false)

pub returns : goal.returns
returns c is_so n scan there = each-all (λ (k : ℕ) (one : Scan). AreGiven c.args.rows.now (given_in_map c.args.map.now) k one) c.args.scans.now c.loop-n.n c.loop-n-test.false c.loop-n.invariant n scan there
