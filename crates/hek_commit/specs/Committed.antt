-- Commit dependencies: dependents and their counters change together.
-- (Section 2 of the paper: commit dependencies.)
use Rattle.std.specs.Prelude.{ℕ, ◌+◌, ◌-◌, ◌<◌, List, [], ◌∷◌, if◌then◌else◌}
use Rattle.hek_rules.specs.declared.event.State.{State}
use Rattle.hek_rules.specs.declared.event.State.TheVariants.{Committed, Aborted}
use Rattle.hek_rules.specs.declared.event.Cause.{Cause}
use Rattle.hek_rules.specs.Listing.{is_among}
use Rattle.hek_rules.specs.World.{Txn, txn_in, set_txn}
use Rattle.hek_rules.specs.Table.{doom}
use Rattle.hek_txn.specs.TxnTable.{TxnTable, entry_at, set_at, commit_deps_of, with_commit_deps, dependents_of}

-- the CommitDepCounter of t after t depends on u: one more, unless it depended on u before
abbrev pub depended_deps : TxnTable → ℕ → ℕ → TxnTable
depended_deps ts t u = if is_among (dependents_of ts u).items t then ts else with_commit_deps ts t (commit_deps_of ts t + 1)

-- the counters after each of these transactions depends on one less
abbrev pub lowered : List ℕ → List ℕ → List ℕ
lowered commit_deps [] = commit_deps
lowered commit_deps (x ∷ xs) = lowered (set_at commit_deps x (entry_at 0 commit_deps x - 1)) xs

-- each of these counters is above 0 when it falls
abbrev pub AreCounted : List ℕ → List ℕ → Type 0
AreCounted commit_deps [] = Unit {0}
AreCounted commit_deps (x ∷ xs) = (0 < entry_at 0 commit_deps x) × AreCounted (set_at commit_deps x (entry_at 0 commit_deps x - 1)) xs

-- the transactions after t gets this state
abbrev pub in_state : List Txn → ℕ → State → List Txn
in_state ts t s = set_txn ts t (record (txn_in ts t) { state = s })

-- the table after the commit of t: no transaction depends on t
abbrev pub table_after_commit : TxnTable → ℕ → TxnTable
table_after_commit ts t = record ts { cores = in_state ts.cores t Committed; commit_deps = lowered ts.commit_deps (dependents_of ts t).items }

-- the table after the abort of t: each transaction that depended on t has AbortNow
abbrev pub table_after_abort : TxnTable → ℕ → Cause → TxnTable
table_after_abort ts t cause = record ts {
  cores = doom (in_state ts.cores t (Aborted cause)) (dependents_of ts t).items;
  commit_deps = lowered ts.commit_deps (dependents_of ts t).items;
}
