use Rattle.std.proofs.Common.{◌≡◌, ◌≤◌, ◌<◌, ◌∙◌, ℕ, true, sym, subst}
use Rattle.std.proofs.lemmas.Map.Iter.{rest_more, rest_all}
use Rattle.std.specs.BTreeMap.Range.{entries_between}
use Rattle.std.specs.declared.ops.Bound.TheVariants.{Included, Excluded}
use Rattle.std.specs.Map.Iter.{deref_pair}
use Rattle.std.specs.Ordering.{nat_cmp}
use Rattle.hek_levels.specs.Logs.{misses}
use Rattle.hek_levels.specs.Rows.{IsAmong}
use Rattle.hek_levels.proofs.Among.{noted-start, noted-more, noted-end}
use Rattle.hek_levels.proofs.Ranged.{in-rows, in-between}
use Rattle.hek_levels.proofs.rows.missed_within.Goals as goal

pub loop-key-init : goal.loop-key-init
loop-key-init c =
    noted-start (λ (k : ℕ). misses c.args.scan.now k) (entries_between nat_cmp (Included c.args.from) (Excluded c.args.to) c.args.rows.now.entries) _ _
    (c.into_iter-key-iterator.ensures.into_iter_gives ∙ c.range-key-items.ensures.between tt)

pub loop-key-preserved : goal.loop-key-preserved
loop-key-preserved c =
    noted-more (λ (k : ℕ). misses c.args.scan.now k) (entries_between nat_cmp (Included c.args.from) (Excluded c.args.to) c.args.rows.now.entries) c.loop-key.key-iterator c.next.new.self _
    c.loop-key.keys.items c.note_missed.new.keys.items
    (rest_more deref_pair c.loop-key.key-iterator c.next.new.self c.next.result _ c.in-Some.is c.next.ensures.steps) c.in_ok-note_missed.ensures.kept c.in_ok-note_missed.ensures.there c.loop-key.invariant

pub returns : goal.returns
returns c key low high misses' there =
    let f = in-rows c.args.rows.now key there in
    let g =
    noted-end (λ (k : ℕ). misses c.args.scan.now k) (entries_between nat_cmp (Included c.args.from) (Excluded c.args.to) c.args.rows.now.entries) c.loop-key.key-iterator c.loop-key.keys.items
    (rest_all deref_pair c.loop-key.key-iterator c.next.new.self c.next.result c.in-None.is c.next.ensures.steps) c.loop-key.invariant in
    subst (IsAmong c.loop-key.keys.items) f.2
    (g f.0 (subst (λ (k : ℕ). misses c.args.scan.now k ≡ true) (sym f.2) misses')
    (in-between c.args.from c.args.to c.args.rows.now.entries f.0 (subst (λ (k : ℕ). c.args.from ≤ k) (sym f.2) low) (subst (λ (k : ℕ). k < c.args.to) (sym f.2) high) f.1))
