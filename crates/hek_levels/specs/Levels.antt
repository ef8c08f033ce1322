-- The levels and the guarantees, each by what a read sees.
use Rattle.std.specs.Prelude.{ℕ, Bool, true, false, Option, Some, None, slice_get}
use Rattle.hek_levels.specs.declared.rules.Level.{Level}
use Rattle.hek_levels.specs.declared.rules.Level.TheVariants.{ReadCommitted, MonotonicView, ReadAtomic, Causal, Prefix, ParallelSnapshot, Snapshot, Serializable}
use Rattle.hek_levels.specs.declared.rules.Guarantees.{Guarantees}
use Rattle.hek_levels.specs.declared.rules.Links.{Links}
use Rattle.hek_levels.specs.declared.rules.Own.{Own}
use Rattle.hek_levels.specs.declared.rules.Own.TheVariants.{Nothing, Earlier, All}
use Rattle.hek_levels.specs.declared.rules.Rules.{Rules}
use Rattle.hek_levels.specs.declared.rules.Asked.{Asked}
use Rattle.hek_levels.specs.declared.rules.Asked.TheVariants as asked

-- whom a transaction sees by writes, by its turns, and by the reads of those before it there
abbrev pub links : Bool → Bool → Bool → Links
links by_writes by_turns by_reads = record { writers = by_writes; turns = by_turns; turn_reads = by_reads }

-- nobody is seen but by the reads of the transaction
abbrev pub plain_rules : Bool → Own → Rules
plain_rules all own_reads = record { whole = all; own = own_reads; first = links false false false; causes = false; prefix = false; next = links false false false }

-- whoever sees a transaction sees what it saw: also by writes, and also all that is before it
abbrev pub cause_rules : Bool → Bool → Rules
cause_rules by_writes all_before =
    record { whole = false; own = All; first = links by_writes true false; causes = true; prefix = all_before; next = links by_writes true false }

-- the rules of a level
abbrev pub rules_of : Level → Rules
rules_of ReadCommitted = plain_rules false Nothing
rules_of MonotonicView = plain_rules false Earlier
rules_of ReadAtomic = record { whole = false; own = All; first = links false true false; causes = false; prefix = false; next = links false false false }
rules_of Causal = cause_rules false false
rules_of Prefix = cause_rules false true
rules_of ParallelSnapshot = cause_rules true false
rules_of Snapshot = cause_rules true true
rules_of Serializable = plain_rules true Nothing

-- the rules of guarantees
abbrev pub rules_for : Guarantees → Rules
rules_for g = record {
  whole = false;
  own = Earlier;
  first = links false g.read_your_writes g.monotonic_reads;
  causes = g.writes_follow_reads;
  prefix = false;
  next = links false g.monotonic_writes g.writes_follow_reads;
}

abbrev pub all_four : Guarantees
all_four = record { monotonic_reads = true; read_your_writes = true; monotonic_writes = true; writes_follow_reads = true }

abbrev pub rules_in : Option Rules → Rules
rules_in None = plain_rules true Nothing
rules_in (Some rules) = rules

-- the rules of t; without rules of its own those of serializable
abbrev pub asked_of : Asked → ℕ → Rules
asked_of (asked.All rules) t = rules
asked_of (asked.Own list) t = rules_in (slice_get list.items t)
