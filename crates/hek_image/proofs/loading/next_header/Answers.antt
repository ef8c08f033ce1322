use Rattle.std.proofs.Common.{◌≡◌, ◌<◌, ◌≤◌, ◌∙◌, ◌++◌, ℕ, List, length, arith, ap, sym, subst, rules}
use Rattle.hek_image.specs.declared.fault.LoadFault.{LoadFault}
use Rattle.hek_image.specs.declared.fault.LoadFault.TheVariants as load
use Rattle.hek_image.specs.Loading.{header_at}
use Rattle.hek_image.specs.Places.{place_seen}
use Rattle.hek_image.specs.Gives.{FieldFails}
use Rattle.hek_image.proofs.Whole.{AreFew, header_steady}
use Rattle.hek_image.proofs.Readers.{here}
use Rattle.hek_image.proofs.Exact.{header_exact}
use Rattle.hek_image.proofs.Takings.{took_value, took_fault, short_is_less}
use Rattle.hek_image.proofs.loading.next_header.Goals as goal

pub returns-in-Ok-clause-takes : goal.returns-in-Ok-clause-takes
returns-in-Ok-clause-takes g c told =
    let so_far = c.loop-schedule.invariant in
    let text = c.split_at.result.0.now in
    let few : length text ≤ 22 = omega (arith, c.split_at.ensures.front_len, so_far.few) in
    let parts = so_far.bytes told ∙ ap (λ (bs : List ℕ). bs ++ g.S.Source.left c.loop-schedule.source) (sym c.split_at.ensures.front) in
    let exact = header_exact.exact (here 0 text) _ (place_seen c.in-Ok.field-0-2) c.in-Ok.ensures.gives in
    took_value AreFew 22 header_at header_steady 0 text _ (c.in-Ok.schedule, c.in-Ok.header) (place_seen c.in-Ok.field-0-2) _ _ header_exact c.in-Ok.ensures.gives exact.1 parts few

pub returns-then-not-is_short-clause-takes : goal.returns-then-not-is_short-clause-takes
returns-then-not-is_short-clause-takes g c told =
    let so_far = c.loop-schedule.invariant in
    let text = c.split_at.result.0.now in
    let few : length text ≤ 22 = omega (arith, c.split_at.ensures.front_len, so_far.few) in
    let parts = so_far.bytes told ∙ ap (λ (bs : List ℕ). bs ++ g.S.Source.left c.loop-schedule.source) (sym c.split_at.ensures.front) in
    let other : c.in-Err.fault ≡ load.Short → ⊥ = search rules in
    took_fault AreFew 22 header_at header_steady 0 text _ c.in-Err.fault _ _ other c.in-Err.ensures.gives parts few

pub take_more-requires-clause-room : goal.take_more-requires-clause-room
take_more-requires-clause-room g c =
    let text = c.split_at.result.0.now in
    let is : c.in-Err.fault ≡ load.Short = search rules in
    let short = subst (λ (e : LoadFault). FieldFails e (header_at (here 0 text))) is c.in-Err.ensures.gives in
    let less : length text < 22 = short_is_less AreFew 22 header_at header_steady 0 text short in
    omega (arith, less, c.split_at.ensures.front_len)
