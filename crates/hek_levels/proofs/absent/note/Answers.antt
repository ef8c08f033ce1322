use Rattle.std.proofs.Common.{ℕ, ◌∙◌, sym, ap}
use Rattle.std.specs.Prelude.{◌==◌, ◌&&◌, is_some}
use Rattle.std.specs.HashMap.{get}
use Rattle.hek_levels.proofs.Touched.{given-new}
use Rattle.hek_levels.proofs.absent.note.Goals as goal

pub returns : goal.returns
returns c =
    given-new (get (λ (a b : ℕ × ℕ). (a.0 == b.0) && (a.1 == b.1)) c.args.map.now) (get (λ (a b : ℕ × ℕ). (a.0 == b.0) && (a.1 == b.1)) c.insert.new.self) c.args.one.scan c.args.one.key c.args.one.writer
    (ap is_some (sym c.given.ensures) ∙ sym c.is_some.ensures ∙ c.if-is_some.false) (λ q. c.in_ok-_before.ensures.updates.0 q)
