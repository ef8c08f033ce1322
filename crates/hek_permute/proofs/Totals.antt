-- How many orders a tally has noted.
use Rattle.std.proofs.Common.{◌≡◌, ℕ, ◌+◌, ◌-◌, ◌<◌, Bool, true, false, List, [], ◌∷◌, length, get_or, refl, ap, sym, ◌∙◌, inl, inr, arith}
use Rattle.std.specs.Prelude.{min, slice_set}
use Rattle.std.proofs.lemmas.List.Sums.{sum_by-append, sum_by-set}
use Rattle.std.proofs.lemmas.Option.{slice_get_within}
use Rattle.std.proofs.lemmas.Bool.Decides.{nat_tests}
use Rattle.hek_rules.proofs.Mapped.{get_or-slice_get}
use Rattle.hek_permute.specs.Found.{Found, Line}
use Rattle.hek_permute.specs.Tallies.{IsNoted, IsCounted, more, row_of, total, one_if, is_between}

counted_total : (old new : List Line) (o : Found) → IsCounted old new o → total new ≡ total old + 1
counted_total old new o c =
    let was : Line = c.found.row in
    let low : c.place < length old = slice_get_within old c.place was c.found.is in
    let here : get_or old c.place was ≡ was = get_or-slice_get old c.place was c.found.is in
    let set : total (slice_set old c.place (more was o.waited)) + (get_or old c.place was).orders ≡ total old + (was.orders + 1) =
    sum_by-set (λ (r : Line). r.orders) old c.place (more was o.waited) was low in
    let same : (get_or old c.place was).orders ≡ was.orders = ap (λ (r : Line). r.orders) here in
    let is : total new ≡ total (slice_set old c.place (more was o.waited)) = ap total c.counted in
    omega arith

pub noted_total : (old new : List Line) (o : Found) (order : List ℕ) → IsNoted old new o order → total new ≡ total old + 1
noted_total old new o order (inl c) = counted_total old new o c
noted_total old new o order (inr a) = ap total a.added ∙ sum_by-append (λ (r : Line). r.orders) old (row_of o order ∷ [])

part_more : (from to n : ℕ) (b : Bool) → is_between from to n ≡ b → min to (n + 1) - from ≡ (min to n - from) + one_if b
part_more from to n true e = grind (arith, nat_tests)
part_more from to n false e = grind (arith, nat_tests)

pub next_total : (from to n was now : ℕ) → was ≡ min to n - from → now ≡ was + one_if (is_between from to n) → now ≡ min to (n + 1) - from
next_total from to n was now h g = g ∙ ap (λ (k : ℕ). k + one_if (is_between from to n)) h ∙ sym (part_more from to n (is_between from to n) refl)

pub none_yet : (from to : ℕ) → 0 ≡ min to 0 - from
none_yet from to = grind (arith, nat_tests)
