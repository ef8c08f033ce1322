use Rattle.std.proofs.lemmas.Result.{IfOk-weaker}
use Rattle.hek_rules.specs.World.{World}
use Rattle.hek_rules.specs.Table.{Outcome}
use Rattle.hek_machine.specs.Stands.{IsRule, StillShows}
use Rattle.hek_rules.specs.Aims.{purpose_of}
use Rattle.hek_rules.specs.declared.reply.Reply.TheVariants.{Done}
use Rattle.hek_machine.specs.Walked.{reply_or_abort}
use Rattle.hek_machine.specs.Written.{key_walk, after_making}
use Rattle.hek_machine.proofs.Reserves.{reserved-shows}
use Rattle.hek_machine.proofs.RuleWalks.{reserved-ordered, on_err}
use Rattle.hek_machine.proofs.KeyRules.{rule_after_room, still_after_room, aimed_after_room, enough_after_room, holders_declared, bucket_there, err_weaker}
use Rattle.hek_machine.proofs.engine.Engine.make.Goals as goal

pub reserve_version-requires-clause-bucket : goal.reserve_version-requires-clause-bucket
reserve_version-requires-clause-bucket c = bucket_there c.args.self.now c.args.key c.bucket_of-bucket.result c.requires.ordered c.bucket_of-bucket.ensures

pub reserve_version-requires-clause-holders : goal.reserve_version-requires-clause-holders
reserve_version-requires-clause-holders c = holders_declared c.args.self.now c.bucket_of-bucket.result c.requires.ordered

pub returns-in_err-reserve_version-clause-still : goal.returns-in_err-reserve_version-clause-still
returns-in_err-reserve_version-clause-still c = on_err _ _ (reserved-shows c.args.self.now c.reserve_version.new.self c.reserve_version.ensures.reserved)

pub make_with_room-requires-clause-ordered : goal.make_with_room-requires-clause-ordered
make_with_room-requires-clause-ordered c = reserved-ordered c.args.self.now c.reserve_version.new.self c.reserve_version.ensures.reserved c.requires.ordered

pub make_with_room-requires-clause-aimed : goal.make_with_room-requires-clause-aimed
make_with_room-requires-clause-aimed c =
    aimed_after_room c.args.self.now c.reserve_version.new.self c.args.t c.args.vs.now c.args.aim.now c.reserve_version.ensures.reserved c.requires.ordered c.requires.aimed

pub returns-clause-rule : goal.returns-clause-rule
returns-clause-rule c =
    let m = c.args.self.now in
    let rule : World → Outcome = λ w. after_making w c.args.t c.args.key c.args.value (key_walk w c.args.t (purpose_of c.args.aim.now) c.args.key) in
    IfOk-weaker c.make_with_room.result (λ r. IsRule rule c.reserve_version.new.self c.make_with_room.new.self (reply_or_abort r Done)) (λ r. IsRule rule m c.make_with_room.new.self (reply_or_abort r Done))
    (λ r i. rule_after_room m c.reserve_version.new.self c.make_with_room.new.self rule (reply_or_abort r Done) c.reserve_version.ensures.reserved i) c.make_with_room.ensures.rule

pub returns-clause-still : goal.returns-clause-still
returns-clause-still c =
    err_weaker c.make_with_room.result (StillShows c.reserve_version.new.self c.make_with_room.new.self) (StillShows c.args.self.now c.make_with_room.new.self)
    (still_after_room c.args.self.now c.reserve_version.new.self c.make_with_room.new.self c.reserve_version.ensures.reserved) c.make_with_room.ensures.still

pub make_with_room-requires-clause-versions : goal.make_with_room-requires-clause-versions
make_with_room-requires-clause-versions c =
    enough_after_room c.args.self.now c.reserve_version.new.self c.args.t c.args.key c.args.vs.now c.reserve_version.ensures.reserved c.requires.versions
