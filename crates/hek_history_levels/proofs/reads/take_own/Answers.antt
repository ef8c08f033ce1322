use Rattle.std.proofs.Common.{◌≡◌, ◌∙◌, None, refl, sym}
use Rattle.hek_history_levels.specs.Taking.{own_left}
use Rattle.hek_history_levels.proofs.Results.{on_ok}
use Rattle.hek_history_levels.proofs.Readings.{none_of, own-read}
use Rattle.hek_history_levels.proofs.reads.take_own.Goals as goal

pub returns : goal.returns
returns c =
    let unchanged : own_left c.args.own.now c.key_of-key.result ≡ None = sym c.own_of.ensures ∙ none_of c.own_of.result c.is_some.result c.is_some.ensures c.if-is_some.false in
    on_ok c.push_read.result c.push_read.ensures
    (λ more. own-read c.args.lenient (own_left c.args.own.now) c.args.n c.args.operation.now c.key_of-key.result c.in-Some.need c.args.reads.now.items c.push_read.new.reads.items
    c.requires c.key_of-key.ensures c.in-Some.ensures unchanged (c.if-not-is_judged.ensures.0 refl) more)
