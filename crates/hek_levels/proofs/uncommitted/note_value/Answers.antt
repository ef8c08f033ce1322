use Rattle.std.specs.HashMap.{get}
use Rattle.std.specs.Prelude.{◌==◌, ◌&&◌, ℕ}
use Rattle.std.proofs.Common.{Option, ◌∙◌, ap}
use Rattle.hek_levels.specs.declared.uncommitted.Who.{Who}
use Rattle.hek_levels.specs.Uncommitted.{with_one}
use Rattle.hek_levels.proofs.Founds.{noted_value}
use Rattle.hek_levels.proofs.uncommitted.note_value.Goals as goal

pub returns : goal.returns
returns c =
    noted_value (get (λ (a b : ℕ × ℕ). (a.0 == b.0) && (a.1 == b.1)) c.args.map.now) (get (λ (a b : ℕ × ℕ). (a.0 == b.0) && (a.1 == b.1)) c.insert.new.self) c.args.key c.args.value c.args.t c.with-who.result
    (c.with-who.ensures ∙ ap (λ (w : Option Who). with_one w c.args.t) c.with_value.ensures) (λ q. c.in_ok-_before.ensures.updates.0 q)
