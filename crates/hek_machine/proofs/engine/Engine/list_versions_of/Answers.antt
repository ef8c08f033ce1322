use Rattle.std.proofs.Common.{sym, subst}
use Rattle.std.proofs.lemmas.Result.{on_ok_weaker}
use Rattle.hek_machine.specs.Written.{AreEnough}
use Rattle.hek_machine.proofs.engine.Engine.list_versions_of.Goals as goal

pub returns : goal.returns
returns c = on_ok_weaker c.list.result (λ is. subst (AreEnough c.args.self.now c.args.t c.args.key) (sym is) c.versions_for.ensures) c.list.ensures
