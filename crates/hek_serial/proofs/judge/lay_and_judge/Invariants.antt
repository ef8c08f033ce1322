use Rattle.std.proofs.Common.{◌≡◌, ◌<◌, ◌≤◌, ◌-◌, take, length, true}
use Rattle.std.specs.List.{zip}
use Rattle.hek_rules.specs.Serial.{lay_all, writes_of}
use Rattle.hek_serial.specs.BucketRows.{BucketRows}
use Rattle.hek_serial.specs.Links.{comes_at}
use Rattle.hek_serial.proofs.Skips.{IsWrongBefore}
use Rattle.hek_serial.proofs.judge.lay_and_judge.Given as goal

abbrev pub invariant-loop-at : goal.invariant-loop-at
invariant-loop-at l =
    let h = zip l.events l.replies in
    record {
      within : l.at ≤ length l.events;
      here : l.at < length l.events → comes_at l.t l.events l.at ≡ true;
      rows : ◌≡◌ {A = BucketRows} l.rows (record { buckets = l.initial.rows.buckets; rows = lay_all (writes_of l.t (take l.at h)) l.initial.rows.rows });
      first : IsWrongBefore l.level l.initial.rows.buckets l.t l.initial.rows.rows h l.at l.wrong;
    }

abbrev pub decreases-loop-at : goal.decreases-loop-at
decreases-loop-at l = length l.events - l.at
