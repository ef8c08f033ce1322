use Rattle.std.proofs.Common.{◌≡◌, ◌++◌, ◌∷◌, [], ◌∙◌, ℕ, List, Some, cond, length, sym, ap, subst, rules, arith}
use Rattle.std.specs.HashMap.{get}
use Rattle.std.specs.Prelude.{◌==◌}
use Rattle.hek_levels.specs.declared.log.Change.{Change}
use Rattle.hek_history_levels.specs.Taking.{value_at, ArePlaced}
use Rattle.hek_history_levels.proofs.Owned.{added-placed, added-left}
use Rattle.hek_history_levels.proofs.own.add.Goals as goal

pub returns-clause-own : goal.returns-clause-own
returns-clause-own c =
    let pushed : c.push.new.self.items ≡ c.args.own.now.writes.items ++ c.args.change ∷ [] = search rules in
    let place : c.len-place.result ≡ length c.args.own.now.writes.items = omega (arith, c.args.own.now.writes.ok.0, c.len-place.ensures) in
    subst (ArePlaced (get ◌==◌ c.insert.new.self)) (sym pushed)
    (added-placed (get ◌==◌ c.args.own.now.places) (get ◌==◌ c.insert.new.self) c.args.own.now.writes.items c.requires.own c.args.change c.requires.absent
    (λ k. c.in_ok-_before.ensures.updates.0 k ∙ ap (λ (n : ℕ). cond (c.args.change.key == k) (Some n) (get ◌==◌ c.args.own.now.places k)) place))

pub returns-clause-left : goal.returns-clause-left
returns-clause-left c key =
    let pushed : c.push.new.self.items ≡ c.args.own.now.writes.items ++ c.args.change ∷ [] = search rules in
    let place : c.len-place.result ≡ length c.args.own.now.writes.items = omega (arith, c.args.own.now.writes.ok.0, c.len-place.ensures) in
    ap (λ (ws : List Change). value_at ws (get ◌==◌ c.insert.new.self key)) pushed
    ∙ added-left (get ◌==◌ c.args.own.now.places) (get ◌==◌ c.insert.new.self) c.args.own.now.writes.items c.requires.own c.args.change c.requires.absent
    (λ k. c.in_ok-_before.ensures.updates.0 k ∙ ap (λ (n : ℕ). cond (c.args.change.key == k) (Some n) (get ◌==◌ c.args.own.now.places k)) place) key
