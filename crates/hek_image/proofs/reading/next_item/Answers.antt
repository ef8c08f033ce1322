use Rattle.std.proofs.Common.{◌≡◌, ◌<◌, ◌≤◌, ◌∙◌, ◌++◌, ℕ, List, length, arith, ap, sym, subst, refl, rules}
use Rattle.hek_rules.specs.Plan.{Plan}
use Rattle.hek_image.specs.declared.fault.LoadFault.{LoadFault}
use Rattle.hek_image.specs.declared.fault.LoadFault.TheVariants as load
use Rattle.hek_image.specs.Places.{place_seen}
use Rattle.hek_image.specs.Gives.{FieldFails}
use Rattle.hek_image.specs.Taking.{item_at, item_size}
use Rattle.hek_image.proofs.Steady.{Any}
use Rattle.hek_image.proofs.Taken.{gave}
use Rattle.hek_image.proofs.Readers.{here}
use Rattle.hek_image.proofs.Exact.{item_steady, item_exact}
use Rattle.hek_image.proofs.Takings.{took_value, took_fault, short_is_less}
use Rattle.hek_image.proofs.reading.next_item.Goals as goal

pub returns-in-Ok-clause-takes : goal.returns-in-Ok-clause-takes
returns-in-Ok-clause-takes g c told =
    let i = c.args.item in
    let so_far = c.loop-after.invariant in
    let text = c.split_at.result.0.now in
    let few : length text ≤ item_size i = omega (arith, c.split_at.ensures.front_len, so_far.few) in
    let parts = so_far.bytes told ∙ ap (λ (bs : List ℕ). bs ++ g.S.Source.left c.loop-after.source) (sym c.split_at.ensures.front) in
    let gave = subst (λ (p : Plan). item_at i p (here c.args.at text) ≡ gave c.item_at.new.schedule (place_seen c.in-Ok.after)) so_far.same c.in-Ok.ensures.gives in
    took_value Any (item_size i) (item_at i c.args.schedule.now) (item_steady i c.args.schedule.now) c.args.at text _ c.in-Ok.after.at (place_seen c.in-Ok.after) _ _ (item_exact i c.args.schedule.now) gave refl parts few

pub returns-in-Ok-clause-at : goal.returns-in-Ok-clause-at
returns-in-Ok-clause-at g c =
    let i = c.args.item in
    let exact = (item_exact i c.loop-after.schedule).exact (here c.args.at c.split_at.result.0.now) c.item_at.new.schedule (place_seen c.in-Ok.after) c.in-Ok.ensures.gives in
    omega (arith, exact.1, c.requires.size.1)

pub returns-then-not-is_short-clause-takes : goal.returns-then-not-is_short-clause-takes
returns-then-not-is_short-clause-takes g c told =
    let i = c.args.item in
    let so_far = c.loop-after.invariant in
    let text = c.split_at.result.0.now in
    let few : length text ≤ item_size i = omega (arith, c.split_at.ensures.front_len, so_far.few) in
    let parts = so_far.bytes told ∙ ap (λ (bs : List ℕ). bs ++ g.S.Source.left c.loop-after.source) (sym c.split_at.ensures.front) in
    let fails = subst (λ (p : Plan). FieldFails c.in-Err.fault (item_at i p (here c.args.at text))) so_far.same c.in-Err.ensures.gives in
    let other : c.in-Err.fault ≡ load.Short → ⊥ = search rules in
    took_fault Any (item_size i) (item_at i c.args.schedule.now) (item_steady i c.args.schedule.now) c.args.at text _ c.in-Err.fault _ _ other fails parts few

pub take_more-requires-clause-room : goal.take_more-requires-clause-room
take_more-requires-clause-room g c =
    let i = c.args.item in
    let is : c.in-Err.fault ≡ load.Short = search rules in
    let short = subst (λ (e : LoadFault). FieldFails e (item_at i c.loop-after.schedule (here c.args.at c.split_at.result.0.now))) is c.in-Err.ensures.gives in
    let less : length c.split_at.result.0.now < item_size i = short_is_less Any (item_size i) (item_at i c.loop-after.schedule) (item_steady i c.loop-after.schedule) c.args.at c.split_at.result.0.now short in
    omega (arith, less, c.split_at.ensures.front_len, c.item_size.ensures)
