use Rattle.std.proofs.Common.{◌≡◌, ◌++◌, ◌∙◌, ap, ℕ, ◌-◌, Some, slice_get, map, List, subst, arith}
use Rattle.std.specs.Map.{keys_of}
use Rattle.std.proofs.lemmas.Grind.{common_steps}
use Rattle.hek_rules.specs.Lines.{line_text}
use Rattle.hek_asm.specs.Pieces.{pieces_bytes}
use Rattle.hek_rules.specs.declared.event.Level.{Level}
use Rattle.hek_asm.specs.Canonical.{txn_words}
use Rattle.hek_asm.proofs.RowLemmas.{one_line, pair_at}
use Rattle.hek_asm.proofs.schedule_text.put_txns.Goals as goal

pub loop-place-preserved : goal.loop-place-preserved
loop-place-preserved c =
    let ts = c.args.schedule.now.txns in
    let i = c.loop-place.place in
    let name = c.name_of.result.now in
    let level = c.level_of.result in
    let place : c.new-txn.result - 1 ≡ i = omega (arith, c.new-txn.ensures) in
    let here = subst (λ (n : ℕ). slice_get (keys_of ts) n ≡ Some name) place c.name_of.ensures in
    let there = subst (λ (n : ℕ). slice_get (map (λ (p : List ℕ × Level). p.1) ts) n ≡ Some level) place c.level_of.ensures in
    let line : pieces_bytes c.as_slice.result.now ≡ line_text (txn_words (name, level)) = grind (arith, common_steps) in
    one_line txn_words ts i (name, level) c.loop-place.out.items _ _ (pair_at ts i name level here there) (c.in_ok-put_pieces.ensures ∙ ap (λ (bs : List ℕ). c.loop-place.out.items ++ bs) line)
    c.loop-place.invariant
