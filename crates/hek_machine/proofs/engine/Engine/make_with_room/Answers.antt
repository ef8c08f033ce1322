use Rattle.std.proofs.Common.{◌∙◌, refl, ap, sym, subst, ◌<◌, ◌^◌, ◌%◌}
use Rattle.hek_rules.specs.Aims.{purpose_of}
use Rattle.hek_machine.specs.Written.{after_making}
use Rattle.hek_machine.proofs.KeyRules.{bucket_places, key_refused, key_made, walk_makes, room_left}
use Rattle.hek_machine.proofs.engine.Engine.make_with_room.Goals as goal

pub walk_over-requires-clause-versions : goal.walk_over-requires-clause-versions
walk_over-requires-clause-versions c = c.requires.versions.below

pub walk_over-requires-clause-places : goal.walk_over-requires-clause-places
walk_over-requires-clause-places c =
    bucket_places c.args.self.now c.args.t c.args.key c.args.bucket c.args.vs.now c.requires.bucket c.requires.versions

pub add_version-requires-clause-able : goal.add_version-requires-clause-able
add_version-requires-clause-able c =
    (walk_makes c.args.self.now c.walk_over.new.self c.args.t c.args.key c.args.bucket c.args.vs.now (purpose_of c.args.aim.now) _ c.requires.ordered c.requires.walker (subst (λ n. n < 2 ^ 58) c.len.ensures.count c.len.ensures.small)
    c.requires.bucket c.requires.versions c.in-None.is c.in_ok-walk_over.ensures.after).able

pub add_version-requires-clause-bucket : goal.add_version-requires-clause-bucket
add_version-requires-clause-bucket c =
    c.requires.bucket ∙ ap (λ n. c.args.key % n)
    (sym (walk_makes c.args.self.now c.walk_over.new.self c.args.t c.args.key c.args.bucket c.args.vs.now (purpose_of c.args.aim.now) _ c.requires.ordered c.requires.walker (subst (λ n. n < 2 ^ 58) c.len.ensures.count c.len.ensures.small)
    c.requires.bucket c.requires.versions c.in-None.is c.in_ok-walk_over.ensures.after).buckets)

pub add_version-requires-clause-make : goal.add_version-requires-clause-make
add_version-requires-clause-make c =
    room_left c.args.self.now c.walk_over.new.self c.args.t c.args.key (c.in_ok-walk_over.ensures.kept c.in-None.is)
    (walk_makes c.args.self.now c.walk_over.new.self c.args.t c.args.key c.args.bucket c.args.vs.now (purpose_of c.args.aim.now) _ c.requires.ordered c.requires.walker (subst (λ n. n < 2 ^ 58) c.len.ensures.count c.len.ensures.small)
    c.requires.bucket c.requires.versions c.in-None.is c.in_ok-walk_over.ensures.after).buckets c.requires.make

pub returns-in-None-clause-rule : goal.returns-in-None-clause-rule
returns-in-None-clause-rule c =
    key_made c.args.self.now c.walk_over.new.self c.add_version.new.self c.args.t c.args.key c.args.value c.args.bucket c.args.vs.now (purpose_of c.args.aim.now) _
    c.requires.ordered c.requires.walker (subst (λ n. n < 2 ^ 58) c.len.ensures.count c.len.ensures.small) c.requires.bucket c.requires.versions c.in-None.is c.in_ok-walk_over.ensures.after c.add_version.ensures

pub returns-in-Some-clause-rule : goal.returns-in-Some-clause-rule
returns-in-Some-clause-rule c =
    key_refused c.args.self.now c.walk_over.new.self c.args.t c.args.key c.args.bucket c.args.vs.now (purpose_of c.args.aim.now)
    (λ w j. after_making w c.args.t c.args.key c.args.value j) _ c.in-Some.cause (λ w k. refl) c.requires.bucket c.requires.versions c.in-Some.is c.in_ok-walk_over.ensures.after
