use Rattle.std.proofs.Common.{rules}
use Rattle.hek_machine.proofs.EffectRules.{unlisted}
use Rattle.hek_machine.proofs.EffectShows.{applies_bucket, keeps_bucket, locks_already}
use Rattle.hek_machine.proofs.engine.Engine.lock_bucket.Goals as goal

pub lock-requires-clause-room : goal.lock-requires-clause-room
lock-requires-clause-room c = c.requires.ready (unlisted c.args.self.now c.args.t c.args.bucket c.requires.able (search rules))

pub returns-then-not-locks_bucket-clause-shows : goal.returns-then-not-locks_bucket-clause-shows
returns-then-not-locks_bucket-clause-shows c =
    applies_bucket c.args.self.now c.args.t c.args.bucket c.lock.new.self c.push_bucket.new.self c.lock.ensures.buckets c.lock.ensures.items c.push_bucket.ensures.table c.push_bucket.ensures.items

pub returns-then-not-locks_bucket-clause-room : goal.returns-then-not-locks_bucket-clause-room
returns-then-not-locks_bucket-clause-room c =
    keeps_bucket c.args.self.now c.args.t c.args.bucket c.lock.new.self c.push_bucket.new.self (unlisted c.args.self.now c.args.t c.args.bucket c.requires.able (search rules))
    c.lock.ensures.buckets c.lock.ensures.items c.push_bucket.ensures.table c.push_bucket.ensures.room

pub returns-else-not-locks_bucket-clause-shows : goal.returns-else-not-locks_bucket-clause-shows
returns-else-not-locks_bucket-clause-shows c = locks_already c.args.self.now c.args.t c.args.bucket (search rules)
