-- When the parts of a machine stand for a world of a run, and when a change of the parts is a rule of the table.
use Rattle.std.specs.Prelude.{◌+◌, ◌^◌, ◌≡◌, ◌<◌, length}
use Rattle.hek_rules.specs.World.{World}
use Rattle.hek_rules.specs.Table.{Outcome}
use Rattle.hek_rules.specs.declared.reply.Reply.{Reply}
use Rattle.hek_laws.specs.Runs.{IsReachable}
use Rattle.hek_refinement.specs.Shows.{ShowsStore, ShowsTxns, ShowsBuckets}
use Rattle.hek_machine.specs.declared.engine.Engine.{Engine}

-- each word, counter and list of the parts is the world's
pub record Shows (m : Engine) (w : World) : Type 0 where
  pub clock : m.clock ≡ w.clock
  pub store : ShowsStore m.store w.buckets w.versions w.read_locks
  pub txns : ShowsTxns m.txns w
  pub buckets : ShowsBuckets m.buckets w.buckets w.bucket_locks

-- the parts show the world, a run reaches it, and all of its IDs fit into a word
pub record StandsFor (m : Engine) (w : World) : Type 0 where
  pub reachable : IsReachable w
  pub named : length w.txns + 1 < 2 ^ 54
  pub shows : Shows m w

-- the parts stand for some world
pub record StandsForSome (m : Engine) : Type 0 where
  pub world : World
  pub stands : StandsFor m world

-- the answer is the reply of a rule of the table, and the new parts show the world that the rule leaves
pub record IsRule (rule : World → Outcome) (before after : Engine) (answer : Reply) : Type 0 where
  pub reply : (w : World) → StandsFor before w → answer ≡ (rule w).reply
  pub shows : (w : World) → StandsFor before w → Shows after (rule w).world

-- each world that the old parts show is shown by the new ones
pub record StillShows (before after : Engine) : Type 0 where
  pub world : (w : World) → Shows before w → Shows after w
