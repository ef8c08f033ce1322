-- The parts of a machine that was loaded or copied.
use Rattle.std.proofs.Common.{◌≡◌, ℕ, map, ◌∙◌, arith}
use Rattle.std.proofs.lemmas.List.{length-map}
use Rattle.hek_rules.specs.Plan.{Plan, IsPlan, levels_of}
use Rattle.hek_rules.specs.World.{opening, new_txn}
use Rattle.hek_store.specs.Stored.{loaded_version}
use Rattle.hek_txn.specs.Entries.{AreEmpty, AreCopies}
use Rattle.hek_txn.specs.TxnTable.{IsOpening, IsCopy}
use Rattle.hek_laws.specs.Runs.{IsFirstClock}
use Rattle.hek_laws.proofs.Runs.Reachable.{opening-reachable}
use Rattle.hek_refinement.proofs.Loads.{shows-loaded_store, shows-loaded_txns, shows-loaded_buckets}
use Rattle.hek_refinement.proofs.Copies.{shows-copied_store, shows-copied_txns, shows-copied_buckets}
use Rattle.hek_machine.specs.declared.engine.Engine.{Engine}
use Rattle.hek_machine.specs.Stands.{StandsFor, StillShows}

-- the parts that a schedule gives
pub record IsLoaded (m : Engine) (p : Plan) (first : ℕ) : Type 0 where
  pub clock : m.clock ≡ first
  pub store_buckets : m.store.buckets ≡ p.buckets
  pub versions : m.store.versions ≡ map loaded_version p.rows
  pub txns : IsOpening (levels_of p) m.txns
  pub buckets : AreEmpty p.buckets m.buckets

pub loaded-stands : (m : Engine) (p : Plan) (clock : ℕ) → IsPlan p → IsFirstClock clock → IsLoaded m p clock → StandsFor m (opening p.buckets p.rows (levels_of p) clock)
loaded-stands m p clock plan first l = record {
  reachable = opening-reachable p.buckets clock p.rows (levels_of p) plan.buckets.0 plan.keys first;
  named =
      let n = length-map (levels_of p) new_txn in let k = length-map p.txns (λ t. t.1) in let few = plan.txn_count in omega (arith, n, k, few);
  shows = record {
    clock = l.clock;
    store = shows-loaded_store m.store p.buckets p.rows l.store_buckets l.versions;
    txns = shows-loaded_txns m.txns p.buckets clock p.rows (levels_of p) l.txns;
    buckets = shows-loaded_buckets m.buckets p.buckets l.buckets;
  };
}

-- parts that are a copy of others
pub record IsCopied (m new : Engine) : Type 0 where
  pub clock : new.clock ≡ m.clock
  pub store_buckets : new.store.buckets ≡ m.store.buckets
  pub versions : new.store.versions ≡ m.store.versions
  pub txns : IsCopy m.txns new.txns
  pub buckets : AreCopies m.buckets new.buckets

pub copied-shows : (m new : Engine) → IsCopied m new → StillShows m new
copied-shows m new c = record {
  world = λ w s. record {
    clock = c.clock ∙ s.clock;
    store = shows-copied_store m.store new.store w.buckets w.versions w.read_locks c.store_buckets c.versions s.store;
    txns = shows-copied_txns m.txns new.txns w c.txns s.txns;
    buckets = shows-copied_buckets m.buckets new.buckets w.buckets w.bucket_locks c.buckets s.buckets;
  };
}
