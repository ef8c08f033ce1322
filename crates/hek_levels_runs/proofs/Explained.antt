-- What explains a history explains its log: in the order of commits, by the last writers before each begin.
use Rattle.std.proofs.Common.{◌≡◌, ℕ, suc, ◌<◌, Bool, true, false, List, [], ◌∷◌, Option, Some, None, refl, sym, ap, ◌∙◌, subst, inl, inr, take, arith}
use Rattle.std.proofs.lemmas.Bool.{cases_order}
use Rattle.std.specs.Global.{Vec}
use Rattle.std.specs.Prelude.{◌&&◌}
use Rattle.std.specs.List.{list_any}
use Rattle.hek_rules.specs.Listing.{value_of}
use Rattle.hek_history.specs.declared.history.History.{History}
use Rattle.hek_history.specs.declared.history.Point.{Point}
use Rattle.hek_history.specs.declared.history.Point.TheVariants.{Begin, Commit}
use Rattle.hek_history.specs.Answers.{AreRight}
use Rattle.hek_history.specs.Histories.{operations_of, is_serializable, is_lenient, rows_after}
use Rattle.hek_history.specs.Explanation.{At, Occurs, IsExplanation}
use Rattle.hek_history.specs.Moments as moments
use Rattle.hek_history.proofs.Places.{same_point, possible}
use Rattle.hek_history.proofs.Ranks.{place-is}
use Rattle.hek_history.proofs.Transcripts.{kinds_apart}
use Rattle.hek_levels.specs.declared.log.Log.{Log}
use Rattle.hek_levels.specs.declared.log.Turn.{Turn}
use Rattle.hek_levels.specs.declared.log.Read.{Read}
use Rattle.hek_levels.specs.declared.log.Place.{Place}
use Rattle.hek_levels.specs.declared.rules.Rules.{Rules}
use Rattle.hek_levels.specs.declared.rules.Asked.TheVariants as asked
use Rattle.hek_levels.specs.declared.rules.Level.TheVariants as level
use Rattle.hek_levels.specs.declared.certificate.Writer.{Writer}
use Rattle.hek_levels.specs.declared.certificate.Writer.TheVariants as writer
use Rattle.hek_levels.specs.Logs.{meets, meets_in, turns_of, is_before_turn, is_seen_turn, is_kept, is_earlier, read_at, is_possible}
use Rattle.hek_levels.specs.Seen.{Explanation, TakesPlace, rank, IsBefore, ReadsFrom, IsOverwritten, Precedes, SeesFirst, Shows, SeesBy, Sees, IsOrdered}
use Rattle.hek_levels.specs.Explanations.{IsSource, Explains}
use Rattle.hek_levels.specs.Levels.{rules_of}
use Rattle.hek_levels.specs.Points.{commits_of}
use Rattle.hek_levels.proofs.Earlier.{seen-earlier, shows-earlier}
use Rattle.hek_levels.proofs.Turned.{any-at, at-any}
use Rattle.hek_history_levels.specs.Steps.{IsLogOf}
use Rattle.hek_levels_runs.specs.Laws.{KeepTurns, SerialExplanationsExplain, SnapshotExplanationsExplain}
use Rattle.hek_levels_runs.proofs.Needs.{is_met}
use Rattle.hek_levels_runs.proofs.Fitting.{are_fitting}
use Rattle.hek_levels_runs.proofs.Logged.{is_read, so_writes, possible_is, committed_is}
use Rattle.hek_levels_runs.proofs.Commits.{spot, at_spot, commit_at, commits_once, rank_before, before_commits}
use Rattle.hek_levels_runs.proofs.Sources.{source_at, IsSourceAt, is_source_at}

-- the key of a read
abbrev key_in : Option Read → ℕ
key_in None = 0
key_in (Some read) = read.key

-- false is not true
never : {A : Type 0} → false ≡ true → A
never e = absurd (let f : ⊥ = cc in f)

-- turns that are seen are turns
seen_turn : (a b : Turn) → is_seen_turn a b ≡ true → is_before_turn a b ≡ true
seen_turn a b e = second b.seen (is_before_turn a b) e
  where
    second : (p q : Bool) → (p && q) ≡ true → q ≡ true
    second true q f = f
    second false q f = cc

any_of : (f g : Turn → Bool) → ((a : Turn) → f a ≡ true → g a ≡ true) → (turns : List Turn) → list_any f turns ≡ true → list_any g turns ≡ true
any_of f g implies turns e = let p = any-at f turns e in at-any g turns p.0 p.1 p.2 (implies p.1 p.3)

kept-of : (log : Log) (x t : ℕ) → is_earlier log x t ≡ true → is_kept log x t ≡ true
kept-of log x t e =
    any_of (λ (a : Turn). list_any (λ (b : Turn). is_seen_turn a b) (turns_of log t)) (λ (a : Turn). list_any (λ (b : Turn). is_before_turn a b) (turns_of log t))
    (λ a f. any_of (λ (b : Turn). is_seen_turn a b) (λ (b : Turn). is_before_turn a b) (λ b g. seen_turn a b g) (turns_of log t) f) (turns_of log x) e

-- w commits before the place i
abbrev IsEarly : List Point → ℕ → ℕ → Type 0
IsEarly points i w = (j : ℕ) × (j < i) × At points j (Commit w)

module _ (h : History) (points : List Point) (turns : List (Vec Turn)) (log : Log)
    (x : IsExplanation h points) (strict : (t : ℕ) → Occurs points t → is_lenient h t ≡ false) (l : IsLogOf h turns log) (keep : KeepTurns points log) where
  -- each read has the last writer of its key before its transaction begins
  abbrev source_of : ℕ → Place → Writer
  source_of t r = source_at h points (key_in (read_at log t r)) (moments.place points (Begin t))

  -- the order of commits, with these sources
  abbrev explanation : Explanation
  explanation = record { order = commits_of points; source = source_of }

  -- where t begins and commits
  record IsRun (t : ℕ) : Type 0 where
    begin : ℕ
    commit : ℕ
    begins : At points begin (Begin t)
    commits : At points commit (Commit t)
    before : begin < commit

  -- whoever takes place begins and commits
  run : (t : ℕ) → TakesPlace explanation t → IsRun t
  run t p =
      let c = commit_at points p.0 t p.1 in
      let b = (x.commits c.at t c.there).begun in
      record { begin = b.0; commit = c.at; begins = b.2; commits = c.there; before = b.1 }

  -- whoever commits takes place
  takes_place : (m t : ℕ) → At points m (Commit t) → TakesPlace explanation t
  takes_place m t a = (spot points m, at_spot points m t a)

  -- its answers are right over the rows where it begins
  right : (t : ℕ) (g : IsRun t) → AreRight false (operations_of h t) (rows_after h (take g.begin points))
  right t g =
      subst (λ (b : Bool). AreRight b (operations_of h t) (rows_after h (take g.begin points))) (strict t (g.commit, g.commits)) (x.begins g.begin t g.begins).answers

  -- ---- sources

  -- its source is the last writer of its key before the place where its transaction begins
  source_is : (t : ℕ) (r : Place) (read : Read) (g : IsRun t) → read_at log t r ≡ Some read → source_of t r ≡ source_at h points read.key g.begin
  source_is t r read g there =
      ap (λ (o : Option Read). source_at h points (key_in o) (moments.place points (Begin t))) there
      ∙ ap (λ (i : ℕ). source_at h points read.key i) (place-is h points x g.begin (Begin t) g.begins)

  -- so it has left the key as it is there
  is_source : (t : ℕ) (r : Place) (read : Read) (g : IsRun t) → read_at log t r ≡ Some read → IsSourceAt h points log read.key g.begin (source_of t r)
  is_source t r read g there =
      subst (λ (w : Writer). IsSourceAt h points log read.key g.begin w) (sym (source_is t r read g there)) (is_source_at h points x turns log l read.key g.begin)

  -- what the read found is what the key has there
  met : (t : ℕ) (r : Place) (read : Read) (g : IsRun t) → read_at log t r ≡ Some read → meets read.need (value_of (rows_after h (take g.begin points)) read.key) ≡ true
  met t r read g there =
      is_met (rows_after h (take g.begin points)) (operations_of h t) (right t g) read.operation read.key read.need
      (is_read h turns log l t r read (strict t (g.commit, g.commits)) there)

  -- whoever commits before a transaction begins is before it in the order, and so is the source of its read
  early_rank : (t y : ℕ) (g : IsRun t) → IsEarly points g.begin y → rank (commits_of points) (writer.Transaction y) < rank (commits_of points) (writer.Transaction t)
  early_rank t y g b =
      let first = b.1 in
      let later = g.before in
      rank_before h points x b.0 g.commit y t b.2 g.commits (omega (arith, first, later))

  before_reader : (t key : ℕ) (g : IsRun t) (w : Writer) → IsSourceAt h points log key g.begin w → rank (commits_of points) w < rank (commits_of points) (writer.Transaction t)
  before_reader t key g writer.Opening s = omega arith
  before_reader t key g (writer.Transaction y) s = early_rank t y g (s.before y refl)

  -- each read has a source
  sourced : (t : ℕ) (r : Place) (read : Read) → TakesPlace explanation t → read_at log t r ≡ Some read → IsSource log explanation t read (source_of t r)
  sourced t r read p there =
      let g = run t p in
      let s = is_source t r read g there in
      record {
        offered = ap (meets_in read.need) s.leaves ∙ met t r read g there;
        before = before_reader t read.key g (source_of t r) s;
      }

  -- each transaction stands once, after the sources of its reads
  ordered : IsOrdered log explanation
  ordered = record {
    once = commits_once h points x;
    back = (λ t r read y p there is.
        subst (λ (w : Writer). rank (commits_of points) w < rank (commits_of points) (writer.Transaction t)) is (sourced t r read p there).before);
  }

  -- ---- what any rules ask for

  -- whoever takes place did not abort, and does not contradict itself
  may_take_place : (t : ℕ) → TakesPlace explanation t → is_possible log t ≡ true
  may_take_place t p =
      let g = run t p in
      possible_is h turns log l t (possible h points x g.commit t g.commits) (strict t (g.commit, g.commits))
      (are_fitting (operations_of h t) (rows_after h (take g.begin points)) (right t g))

  -- who is before another by turns commits before it begins
  by_turns : (y t : ℕ) (g : IsRun t) → is_kept log y t ≡ true → TakesPlace explanation y → IsEarly points g.begin y
  by_turns y t g kept p =
      let c = commit_at points p.0 y p.1 in
      (c.at, keep y t c.at g.begin kept c.there g.begins, c.there)

  -- by any rules, where whoever is seen commits before the reader begins
  explains : (rules : Rules) →
      ((t : ℕ) (r : Place) (read : Read) (y : ℕ) (g : IsRun t) → read_at log t r ≡ Some read → Sees rules log explanation t read.operation y → IsEarly points g.begin y) →
      Explains (asked.All rules) log explanation
  explains rules early = record {
    possible = λ i t a. may_take_place t (i, a);
    once = commits_once h points x;
    committed = λ t k. (let c = x.committed t (committed_is h turns log l t k) in takes_place c.0 t c.1);
    sources = sourced;
    turns = λ y t kept p q. (let g = run t q in early_rank t y g (by_turns y t g kept p));
    newest = (λ t r read y p there sees does.
        let g = run t p in
        let b = early t r read y g there sees in
        (is_source t r read g there).last b.0 y b.1 b.2 does);
  }

  -- ---- serializable: all that are before a transaction commit before it begins

  -- nobody commits between the begin and the commit of one that is serializable
  before_begin : (t y : ℕ) (g : IsRun t) → is_serializable h t ≡ true → IsBefore explanation y t → IsEarly points g.begin y
  before_begin t y g serial b =
      let c = before_commits h points x source_of g.commit y t g.commits b in
      let beside : suc g.begin ≡ g.commit = (x.commits g.commit t g.commits).once (suc g.begin) ((x.begins g.begin t g.begins).beside serial) in
      let less = c.1 in
      elim (cases_order c.0 g.begin) [
        | inl same ↦ absurd (kinds_apart t y (same_point points g.begin (Begin t) (Commit y) g.begins (subst (λ (m : ℕ). At points m (Commit y)) same c.2)))
        | inr other ↦ elim other [ inl early ↦ (c.0, early, c.2) | inr late ↦ absurd (omega (arith, beside, less, late)) ]
      ]

  -- so it explains as serializable, where whoever takes place is so
  serial_explains : ((t : ℕ) → Occurs points t → is_serializable h t ≡ true) → Explains (asked.All (rules_of level.Serializable)) log explanation
  serial_explains serial =
      explains (rules_of level.Serializable)
      (λ t r read y g there sees.
      before_begin t y g (serial t (g.commit, g.commits)) (seen-earlier log explanation ordered (rules_of level.Serializable) t read.operation y (takes_place g.commit t g.commits) sees))

  -- ---- snapshot: whom a read sees commits before its transaction begins

  -- of whom it reads
  by_read : (t y : ℕ) (g : IsRun t) → ReadsFrom log explanation t y → IsEarly points g.begin y
  by_read t y g s = (is_source t s.0 s.1 g s.2).before y s.3

  -- an earlier writer of a key that it writes: the first committer wins
  by_write : (t y : ℕ) (g : IsRun t) → IsOverwritten log explanation y t → IsEarly points g.begin y
  by_write t y g o =
      let c = before_commits h points x source_of g.commit y t g.commits o.3 in
      elim (cases_order c.0 g.begin) [
        | inl same ↦ absurd (kinds_apart t y (same_point points g.begin (Begin t) (Commit y) g.begins (subst (λ (m : ℕ). At points m (Commit y)) same c.2)))
        | inr other ↦
            elim other [
              | inl early ↦ (c.0, early, c.2)
              | inr late ↦ absurd ((x.commits g.commit t g.commits).first g.begin c.0 y o.0 g.begins c.2 late c.1 (so_writes h turns log l t o.0 o.2) (so_writes h turns log l y o.0 o.1))
            ]
      ]

  -- one that is before it by turns that it sees
  by_seen_turns : (t y : ℕ) (g : IsRun t) → Precedes log explanation y t → IsEarly points g.begin y
  by_seen_turns t y g p =
      let c = before_commits h points x source_of g.commit y t g.commits p.1 in
      by_turns y t g (kept-of log y t p.0) (takes_place c.0 y c.2)

  -- all of these together
  at_once : (t n y : ℕ) (g : IsRun t) → SeesFirst (rules_of level.Snapshot) log explanation t n y → IsEarly points g.begin y
  at_once t n y g s =
      elim s [
        | inl whole ↦ never whole.0
        | inr other ↦
            elim other [
              | inl own ↦ by_read t y g own
              | inr linked ↦
                  elim linked [
                    | inl written ↦ by_write t y g written.1
                    | inr turned ↦ elim turned [ inl turn ↦ by_seen_turns t y g turn.1 | inr carried ↦ never carried.0 ]
                  ]
            ]
      ]

  -- whom one of these shows commits before it
  shown : (z y i : ℕ) → IsEarly points i z → Shows (rules_of level.Snapshot) log explanation z y → IsEarly points i y
  shown z y i early s =
      let b : IsBefore explanation y z = shows-earlier log explanation ordered (rules_of level.Snapshot) z y (takes_place early.0 z early.2) s in
      let c = before_commits h points x source_of early.0 y z early.2 b in
      let less = c.1 in
      let more = early.1 in
      (c.0, omega (arith, less, more), c.2)

  -- whom it sees by some chain of these
  by_all : (t n : ℕ) (g : IsRun t) (ys : List ℕ) (y : ℕ) → SeesBy (rules_of level.Snapshot) log explanation t n ys y → IsEarly points g.begin y
  by_all t n g [] y s = at_once t n y g s
  by_all t n g (z ∷ ys) y s = shown z y g.begin (by_all t n g ys z s.1) s.0

  -- so it explains as snapshot
  snapshot_explains : Explains (asked.All (rules_of level.Snapshot)) log explanation
  snapshot_explains = explains (rules_of level.Snapshot) (λ t r read y g there sees. by_all t read.operation g sees.0 y sees.1)

-- ---- the laws

pub serial_explanations_explain : SerialExplanationsExplain
serial_explanations_explain h points turns log x level l keep =
    let strict : (t : ℕ) → Occurs points t → is_lenient h t ≡ false = λ t o. (level t o).1 in (
      explanation h points turns log x strict l keep,
      refl,
      serial_explains h points turns log x strict l keep (λ t o. (level t o).0),
    )

pub snapshot_explanations_explain : SnapshotExplanationsExplain
snapshot_explanations_explain h points turns log x strict l keep = (explanation h points turns log x strict l keep, refl, snapshot_explains h points turns log x strict l keep)
