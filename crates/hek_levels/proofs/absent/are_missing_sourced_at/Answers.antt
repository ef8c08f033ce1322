use Rattle.std.proofs.Common.{ℕ}
use Rattle.std.specs.HashMap.{get}
use Rattle.std.specs.Prelude.{◌==◌, is_some}
use Rattle.hek_levels.specs.Absences.{given_in_map}
use Rattle.hek_levels.specs.Rows.{row_of}
use Rattle.hek_levels.proofs.Touched.{missing-sourced}
use Rattle.hek_levels.proofs.absent.are_missing_sourced_at.Goals as goal

pub returns : goal.returns
returns c is_so =
    missing-sourced c.args.log.now c.args.certificate.now (get ◌==◌ c.args.places.now) c.args.i c.args.t (λ (k : ℕ). is_some (row_of c.args.touched.now k)) (given_in_map c.in_ok-map.map) c.missing_of-list.result.now
    c.scans_of.result.now c.missing_of-list.ensures c.scans_of.ensures c.requires c.in_ok-map.ensures (c.in_ok-are_each_given.ensures c.if-not-branch.false) (c.are_right.ensures is_so)
