-- A log without its reads and writes.
use Rattle.std.proofs.Common.{◌≡◌, ℕ, Bool, true, false, cond, List, [], Option, Some, None, refl, sym, ap, ◌∙◌, arith}
use Rattle.std.specs.Prelude.{slice_get, not}
use Rattle.std.specs.List.{list_any}
use Rattle.hek_levels.specs.declared.log.Log.{Log}
use Rattle.hek_levels.specs.declared.log.Transaction.{Transaction}
use Rattle.hek_levels.specs.declared.log.Turn.{Turn}
use Rattle.hek_levels.specs.declared.log.Read.{Read}
use Rattle.hek_levels.specs.declared.log.Scan.{Scan}
use Rattle.hek_levels.specs.declared.log.Place.{Place}
use Rattle.hek_levels.specs.declared.log.Place.TheVariants.{Listed, Missing}
use Rattle.hek_levels.specs.declared.rules.Asked.{Asked}
use Rattle.hek_levels.specs.declared.certificate.Writer.TheVariants as writer
use Rattle.hek_levels.specs.Logs.{transaction, reads_in, scans_in, turns_in, turns_of, missing_in, read_at, committed_in, possible_in, aborted_by, is_before_turn, is_kept}
use Rattle.hek_levels.specs.Seen.{Explanation}
use Rattle.hek_levels.specs.Explanations.{HasExplanation}
use Rattle.hek_levels.specs.Uncommitted.{alive_in, IsBareOf, IsBare, IsInTurn}
use Rattle.hek_levels.proofs.Orders.{placed}
use Rattle.hek_levels_laws.specs.Laws.{BareSays}

turns-same : (x y : Option Transaction) → IsBareOf x y → turns_in y ≡ turns_in x
turns-same None None b = refl
turns-same None (Some y) b = absurd b
turns-same (Some x) None b = absurd b
turns-same (Some x) (Some y) b = b.2

committed-same : (x y : Option Transaction) → IsBareOf x y → committed_in y ≡ committed_in x
committed-same None None b = refl
committed-same None (Some y) b = absurd b
committed-same (Some x) None b = absurd b
committed-same (Some x) (Some y) b = rw b.0 refl

alive-possible : (x y : Option Transaction) → IsBareOf x y → alive_in x ≡ true → possible_in y ≡ true
alive-possible None None b e = cc
alive-possible None (Some y) b e = absurd b
alive-possible (Some x) None b e = absurd b
alive-possible (Some x) (Some y) b e = rw b.0 (rw b.1 (go (aborted_by x.status) e))
  where
    go : (a : Bool) → not a ≡ true → cond a false true ≡ true
    go true f = cc
    go false f = refl

possible-alive : (x y : Option Transaction) → IsBareOf x y → possible_in y ≡ true → alive_in x ≡ true
possible-alive None None b e = cc
possible-alive None (Some y) b e = absurd b
possible-alive (Some x) None b e = absurd b
possible-alive (Some x) (Some y) b e = go (aborted_by x.status) (rw b.0 at e)
  where
    go : (a : Bool) → cond a false y.fits ≡ true → not a ≡ true
    go true f = cc
    go false f = refl

no-reads : (x y : Option Transaction) → IsBareOf x y → reads_in y ≡ []
no-reads None None b = refl
no-reads None (Some y) b = absurd b
no-reads (Some x) None b = absurd b
no-reads (Some x) (Some y) b = b.3

no-scans : (x y : Option Transaction) → IsBareOf x y → scans_in y ≡ []
no-scans None None b = refl
no-scans None (Some y) b = absurd b
no-scans (Some x) None b = absurd b
no-scans (Some x) (Some y) b = b.4

none-read : (read : Read) → ◌≡◌ {A = Option Read} None (Some read) → ⊥
none-read read e = cc

module _ (log bare : Log) (b : IsBare log bare) where
  kept-same : (x t : ℕ) → is_kept bare x t ≡ is_kept log x t
  kept-same x t =
      ap (λ (xs : List Turn). list_any (λ (p : Turn). list_any (λ (q : Turn). is_before_turn p q) (turns_of bare t)) xs) (turns-same (transaction log x) (transaction bare x) (b x))
      ∙ ap (λ (ys : List Turn). list_any (λ (p : Turn). list_any (λ (q : Turn). is_before_turn p q) ys) (turns_of log x)) (turns-same (transaction log t) (transaction bare t) (b t))

  unread : (t : ℕ) (r : Place) (read : Read) → read_at bare t r ≡ Some read → ⊥
  unread t (Listed r) read e = none-read read (sym (ap (λ (xs : List Read). slice_get xs r) (no-reads (transaction log t) (transaction bare t) (b t))) ∙ e)
  unread t (Missing s key) read e = none-read read (sym (ap (λ (xs : List Scan). missing_in (slice_get xs s) key) (no-scans (transaction log t) (transaction bare t) (b t))) ∙ e)

  so : (asked : Asked) → HasExplanation asked bare → (order : List ℕ) × IsInTurn log order
  so asked h =
      let e = h.0 in
      let x = h.1 in (
        e.order,
        record {
          alive = (λ i t a. possible-alive (transaction log t) (transaction bare t) (b t) (x.possible i t a));
          once = x.once;
          committed = (λ t k. x.committed t (committed-same (transaction log t) (transaction bare t) (b t) ∙ k));
          turns = (λ i j y t a c kept.
              let l = x.turns y t (kept-same y t ∙ kept) (i, a) (j, c) in
              let first = placed e.order x.once i y a in
              let second = placed e.order x.once j t c in
              omega arith);
        },
      )

  back : (asked : Asked) → (order : List ℕ) → IsInTurn log order → HasExplanation asked bare
  back asked list h =
      let e : Explanation = record { order = list; source = λ t r. writer.Opening } in (
        e,
        record {
          possible = (λ i t a. alive-possible (transaction log t) (transaction bare t) (b t) (h.alive i t a));
          once = h.once;
          committed = (λ t k. h.committed t (sym (committed-same (transaction log t) (transaction bare t) (b t)) ∙ k));
          sources = (λ t r read o there. absurd (unread t r read there));
          turns = (λ y t kept o p.
              let l = h.turns o.0 p.0 y t o.1 p.1 (sym (kept-same y t) ∙ kept) in
              let first = placed list h.once o.0 y o.1 in
              let second = placed list h.once p.0 t p.1 in
              omega arith);
          newest = (λ t r read y o there s does. absurd (unread t r read there));
        },
      )

pub says : BareSays
says asked log bare b = (so log bare b asked, λ h. back log bare b asked h.0 h.1)
