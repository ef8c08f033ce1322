use Rattle.std.proofs.Common.{◌≡◌, ◌∙◌, ℕ, true, List, Some, refl, sym, ap, subst, inl, inr}
use Rattle.std.specs.Prelude.{slice_get, is_some}
use Rattle.std.proofs.lemmas.Bool.{cases_Bool}
use Rattle.std.proofs.lemmas.Option.{slice_get_read}
use Rattle.hek_levels.specs.declared.log.Read.{Read}
use Rattle.hek_levels.specs.declared.log.Scan.{Scan}
use Rattle.hek_levels.specs.declared.log.Place.TheVariants as place
use Rattle.hek_levels.specs.Logs.{misses, read_at}
use Rattle.hek_levels.specs.Rows.{row_of}
use Rattle.hek_levels.specs.Uncommitted.{is_found}
use Rattle.hek_levels.proofs.Judged.{missing-of}
use Rattle.hek_levels.proofs.Touched.{not-lost, not_some}
use Rattle.hek_levels.proofs.Turned.{one-same, element-more, element-all}
use Rattle.hek_levels.proofs.uncommitted.lost_missing.Goals as goal

pub loop-n-preserved : goal.loop-n-preserved
loop-n-preserved c k key read l there at =
    element-more (λ (name : ℕ). (one : Read) → read_at c.args.log.now c.args.t (place.Missing c.args.s name) ≡ Some one → is_found c.args.log.now c.args.t one ≡ true) c.as_slice-keys.result.now c.loop-n.n
    (λ j name less here one is. c.loop-n.invariant j name one less here is) (λ name here one is. c.in_default-lost_key.ensures.none name one here is) k key l there read at

pub returns-clause-none : goal.returns-clause-none
returns-clause-none c key read there =
    let m = missing-of c.args.log.now c.args.t c.args.s key read there in
    let at = slice_get_read c.scans_of.result.now _ c.args.s c.in-Some.scan.now refl c.in-Some.ensures.lookup.3.0 c.in-Some.ensures.lookup.1 in
    let same : c.in-Some.scan.now ≡ m.scan = one-same c.in-Some.scan.now m.scan (sym at ∙ ap (λ (xs : List Scan). slice_get xs c.args.s) c.scans_of.ensures ∙ m.there) in
    let missed : misses c.in-Some.scan.now key ≡ true = subst (λ (s : Scan). misses s key ≡ true) (sym same) m.said in
    elim (cases_Bool (is_some (row_of c.args.rows.now key))) [
      | inl some ↦
          let f = c.in_ok-list.ensures key missed some in
          element-all (λ (name : ℕ). (one : Read) → read_at c.args.log.now c.args.t (place.Missing c.args.s name) ≡ Some one → is_found c.args.log.now c.args.t one ≡ true) c.as_slice-keys.result.now c.in_ok-list.list.items c.loop-n.n
          c.as_slice-keys.ensures.value c.loop-n-test.false (λ j name less here one is. c.loop-n.invariant j name one less here is) f.0 key f.1 read there
      | inr none ↦ not-lost c.args.log.now c.args.t c.args.s key read m (sym (c.requires.rows key) ∙ not_some (row_of c.args.rows.now key) none)
    ]
