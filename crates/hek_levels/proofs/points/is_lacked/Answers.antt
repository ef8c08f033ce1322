use Rattle.std.proofs.Common.{◌≡◌, true, List, ◌∙◌, refl, sym, ap, subst, length, arith}
use Rattle.std.specs.Prelude.{slice_get}
use Rattle.std.proofs.lemmas.Bool.{eqb-true}
use Rattle.std.proofs.lemmas.Option.{slice_get_read}
use Rattle.hek_levels.specs.declared.log.Scan.{Scan}
use Rattle.hek_levels.specs.Logs.{misses}
use Rattle.hek_levels.specs.Rows.{row_of}
use Rattle.hek_levels.proofs.Judged.{missing-of}
use Rattle.hek_levels.proofs.Among.{in-short}
use Rattle.hek_levels.proofs.Touched.{lacked, none-there}
use Rattle.hek_levels.proofs.Turned.{one-same}
use Rattle.hek_levels.proofs.points.is_lacked.Goals as goal

pub returns : goal.returns
returns c is_so key read there =
    let m = missing-of c.args.log.now c.args.t c.args.n key read there in
    let at = slice_get_read c.scans_of.result.now _ c.args.n c.in-Some.scan.now refl c.in-Some.ensures.lookup.3.0 c.in-Some.ensures.lookup.1 in
    let same : c.in-Some.scan.now ≡ m.scan = one-same c.in-Some.scan.now m.scan (sym at ∙ ap (λ (xs : List Scan). slice_get xs c.args.n) c.scans_of.ensures ∙ m.there) in
    let missed : misses c.in-Some.scan.now key ≡ true = subst (λ (s : Scan). misses s key ≡ true) (sym same) m.said in
    let ok = c.in_ok-keys.keys.ok.0 in
    let none = eqb-true _ 0 (sym c.is_empty.ensures ∙ is_so) in
    let empty : length c.in_ok-keys.keys.items ≡ 0 = omega (arith, ok, none) in
    lacked c.args.log.now c.args.t c.args.n key read (row_of c.args.rows.now) m
    (none-there (row_of c.args.rows.now key) (λ some. in-short c.in_ok-keys.keys.items key empty (c.in_ok-keys.ensures key missed some)))
