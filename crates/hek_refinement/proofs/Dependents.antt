-- A transaction commits or aborts: no transaction depends on it any more, and the counters of its dependents fall.
use Rattle.std.proofs.Common.{◌≡◌, ℕ, ◌+◌, ◌-◌, ◌<◌, ◌≤◌, List, [], ◌∷◌, refl, ◌∙◌, ap, sym, arith, length}
use Rattle.std.proofs.lemmas.Bool.Decides.{nat_tests}
use Rattle.std.specs.Prelude.{◌==◌}
use Rattle.hek_rules.specs.declared.event.Cause.{Cause}
use Rattle.hek_rules.specs.Listing.{has, firsts_of, seconds_of}
use Rattle.hek_rules.specs.World.{World, Txn}
use Rattle.hek_rules.specs.declared.event.State.TheVariants.{Committed, Aborted}
use Rattle.hek_rules.specs.Table.{doom, without_first, commit, abort}
use Rattle.hek_rules.specs.Shown.{dependents_of}
use Rattle.hek_txn.specs.Entries.{Entries}
use Rattle.hek_txn.specs.TxnTable.{TxnTable, Declared, entry_at, set_at, dependents_of as dependents_in, with_dependents}
use Rattle.hek_txn.specs.TxnLemmas.{length_set_at, length_set_txn}
use Rattle.hek_commit.specs.Committed.{AreCounted, lowered, in_state, table_after_commit, table_after_abort}
use Rattle.hek_laws.specs.Lists.{Once}
use Rattle.hek_refinement.specs.Shows.{ShowsTxns}
use Rattle.hek_refinement.proofs.Pairs.{bit, head-once, seconds-without_same, seconds-without_other, firsts-without_count}
use Rattle.hek_refinement.proofs.Entries.{each-list, even-cores, even-all_deps, even-dependents}
use Rattle.hek_refinement.proofs.Rooms.{place-in}
use Rattle.hek_refinement.proofs.Raised.{entry-lowered}
use Rattle.hek_laws.proofs.Table.SetTxns.{length-doom}

-- how often a number is in a list
abbrev pub times_in : List ℕ → ℕ → ℕ
times_in [] u = 0
times_in (x ∷ xs) u = bit (x == u) + times_in xs u

pub lowered-entry : (commit_deps xs : List ℕ) (u : ℕ) → entry_at 0 (lowered commit_deps xs) u ≡ entry_at 0 commit_deps u - times_in xs u
lowered-entry commit_deps [] u = omega arith
lowered-entry commit_deps (x ∷ xs) u =
    let rest = lowered-entry (set_at commit_deps x (entry_at 0 commit_deps x - 1)) xs u in let here = entry-lowered commit_deps x u in omega (arith, rest, here)

pub length-lowered : (commit_deps xs : List ℕ) → length (lowered commit_deps xs) ≡ length commit_deps
length-lowered commit_deps [] = refl
length-lowered commit_deps (x ∷ xs) = length-lowered (set_at commit_deps x (entry_at 0 commit_deps x - 1)) xs ∙ length_set_at commit_deps x _

-- a pair that occurs once has its second part once among those of its first part
times-seconds : (ps : List (ℕ × ℕ)) (t u : ℕ) → Once ps → times_in (seconds_of ps t) u ≡ bit (has ps t u)
times-seconds [] t u o = refl
times-seconds (p ∷ ps) t u o =
    let rest = times-seconds ps t u o.1 in let alone = head-once p ps o in grind (arith, nat_tests, rest, alone)

-- ---- each counter that falls is above 0

counted-by : (commit_deps xs : List ℕ) → ((u : ℕ) → times_in xs u ≤ entry_at 0 commit_deps u) → AreCounted commit_deps xs
counted-by commit_deps [] h = tt
counted-by commit_deps (x ∷ xs) h = (
  (let here = h x in grind (arith, nat_tests, here)),
  counted-by (set_at commit_deps x (entry_at 0 commit_deps x - 1)) xs (λ u. let low = entry-lowered commit_deps x u in let old = h u in omega (arith, low, old)),
)

-- a pair counts among the first parts of its second part
has-counts : (ps : List (ℕ × ℕ)) (t u : ℕ) → bit (has ps t u) ≤ length (firsts_of ps u)
has-counts [] t u = omega arith
has-counts (p ∷ ps) t u = let rest = has-counts ps t u in grind (arith, nat_tests, rest)

pub dependents-counted : (x : TxnTable) (w : World) (t : ℕ) → Once w.dependents → ShowsTxns x w → AreCounted x.commit_deps (dependents_in x t).items
dependents-counted x w t once s =
    counted-by x.commit_deps (dependents_in x t).items (λ u.
    let listed = ap (λ xs. times_in xs u) (s.dependents t) ∙ times-seconds w.dependents t u once in
    let counts = has-counts w.dependents t u in let shown = s.commit_deps u in omega (arith, listed, counts, shown))

-- the table without dependents of t
abbrev pub undepended : TxnTable → ℕ → List Txn → Entries ℕ → TxnTable
undepended x t cores e = with_dependents (record x { cores = cores; commit_deps = lowered x.commit_deps (dependents_in x t).items }) t e

pub shows-undepended : (x : TxnTable) (w : World) (t : ℕ) (cores txns : List Txn) (e : Entries ℕ) → Declared x t → Once w.dependents →
    length cores ≡ length x.cores → cores ≡ txns → e.items ≡ [] → ShowsTxns x w →
    ShowsTxns (undepended x t cores e) (record w { txns = txns; dependents = without_first t w.dependents })
shows-undepended x w t cores txns e d once long same empty s =
    let D : List (ℕ × ℕ) = w.dependents in
    let commit_deps : List ℕ = lowered x.commit_deps (dependents_in x t).items in
    let fewer : TxnTable = record x { commit_deps = lowered x.commit_deps (dependents_in x t).items } in
    record {
      cores = same;
      even = even-dependents (record fewer { cores = cores }) t e
          (even-cores fewer cores long (even-all_deps x commit_deps (length-lowered x.commit_deps (dependents_in x t).items) s.even));
      waits = s.waits;
      commit_deps = λ u.
          let low = lowered-entry x.commit_deps (dependents_in x t).items u in
          let listed = ap (λ xs. times_in xs u) (s.dependents t) ∙ times-seconds D t u once in
          let left = firsts-without_count D t u once in let old = s.commit_deps u in omega (arith, low, listed, left, old);
      read_sets = s.read_sets;
      write_sets = s.write_sets;
      bucket_sets = s.bucket_sets;
      waiting_lists = s.waiting_lists;
      dependents =
          each-list x.dependents t e (dependents_of w) (seconds_of (without_first t w.dependents)) (place-in x.dependents x t s.even.dependents d) s.dependents
          (λ u ne. seconds-without_other D t u ne) (empty ∙ sym (seconds-without_same D t));
    }

pub shows-commit : (x : TxnTable) (w : World) (t : ℕ) (e : Entries ℕ) → Declared x t → Once w.dependents → e.items ≡ [] → ShowsTxns x w →
    ShowsTxns (with_dependents (table_after_commit x t) t e) (commit w t)
shows-commit x w t e d once empty s =
    shows-undepended x w t (in_state x.cores t Committed) _ e d once (length_set_txn x.cores t _)
    (ap (λ ts. in_state ts t Committed) s.cores) empty s

pub shows-abort : (x : TxnTable) (w : World) (t : ℕ) (cause : Cause) (e : Entries ℕ) → Declared x t → Once w.dependents → e.items ≡ [] → ShowsTxns x w →
    ShowsTxns (with_dependents (table_after_abort x t cause) t e) (abort w t cause)
shows-abort x w t cause e d once empty s =
    let ts : List Txn = in_state x.cores t (Aborted cause) in
    shows-undepended x w t (doom (in_state x.cores t (Aborted cause)) (dependents_in x t).items) _ e d once
    (length-doom ts (dependents_in x t).items ∙ length_set_txn x.cores t _)
    (ap (λ cs. doom (in_state cs t (Aborted cause)) (dependents_in x t).items) s.cores
    ∙ ap (doom (in_state w.txns t (Aborted cause))) (s.dependents t)) empty s
