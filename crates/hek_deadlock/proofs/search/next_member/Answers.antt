use Rattle.std.proofs.Common.{ℕ, ◌≡◌, ◌<◌, ◌&&◌, Bool, length, List, Vec, Global, ap, ◌∙◌, sym, refl, get_or}
use Rattle.std.proofs.lemmas.Option.{slice_get_read}
use Rattle.hek_rules.specs.Listing.{is_among}
use Rattle.hek_deadlock.specs.Rows.{waits_by_rows, level_at, is_level}
use Rattle.hek_deadlock.proofs.Marks.{waits-row}
use Rattle.hek_rules.proofs.Least.{least_skip, least_hit, least_zero}
use Rattle.hek_deadlock.proofs.search.next_member.Goals as goal

-- the test of `is_next` for the row at y
at_row : (rows : List (Vec ℕ Global)) (row : Vec ℕ Global) (items : List ℕ) (y x : ℕ) (b c : Bool) → y < length rows → row ≡ get_or rows y row → items ≡ row.items → b ≡ (is_among items x && c) → (waits_by_rows rows x y && c) ≡ b
at_row rows row items y x b c lt is same e =
    ap (λ (v : Bool). v && c) (waits-row rows y x row (slice_get_read rows (length rows) y row refl lt is))
    ∙ ap (λ (r : List ℕ). is_among r x && c) (sym same)
    ∙ sym e

pub loop-y-init : goal.loop-y-init
loop-y-init c = least_zero (λ (y : ℕ). waits_by_rows c.args.waiters.now c.args.x y && is_level (level_at c.args.levels.now y) c.args.level)

pub returns-then-is_next : goal.returns-then-is_next
returns-then-is_next c =
    sym (least_hit (λ (y : ℕ). waits_by_rows c.args.waiters.now c.args.x y && is_level (level_at c.args.levels.now y) c.args.level) (length c.args.waiters.now) c.loop-y.y c.loop-y-test.true c.loop-y.invariant
    (at_row c.args.waiters.now c.index-waiters-y.result c.deref.result.now c.loop-y.y c.args.x c.is_next.result (is_level (level_at c.args.levels.now c.loop-y.y) c.args.level) c.loop-y-test.true c.index-waiters-y.is c.deref.ensures.value c.is_next.ensures
    ∙ c.if-is_next.true))

pub loop-y-preserved : goal.loop-y-preserved
loop-y-preserved c =
    least_skip (λ (y : ℕ). waits_by_rows c.args.waiters.now c.args.x y && is_level (level_at c.args.levels.now y) c.args.level) c.loop-y.y c.loop-y.invariant
    (at_row c.args.waiters.now c.index-waiters-y.result c.deref.result.now c.loop-y.y c.args.x c.is_next.result (is_level (level_at c.args.levels.now c.loop-y.y) c.args.level) c.loop-y-test.true c.index-waiters-y.is c.deref.ensures.value c.is_next.ensures
    ∙ c.if-is_next.false)
