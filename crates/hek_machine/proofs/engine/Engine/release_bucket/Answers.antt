use Rattle.hek_machine.proofs.ReleaseRules.{row_of_release_bucket}
use Rattle.hek_machine.proofs.engine.Engine.release_bucket.Goals as goal

pub returns : goal.returns
returns c =
    let unlocked = c.unlock.ensures in
    let removed = c.remove_bucket.ensures in
    row_of_release_bucket c.args.self.now c.args.t c.args.bucket c.unlock.new.self c.remove_bucket.new.self c.requires.known c.requires.none c.requires.first
    unlocked.buckets unlocked.items removed.table removed.items
