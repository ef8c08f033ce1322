use Rattle.std.proofs.Common.{◌≡◌, false, List, sym, ap, ◌∙◌}
use Rattle.std.specs.List.{list_any}
use Rattle.hek_levels.specs.declared.log.Turn.{Turn}
use Rattle.hek_levels.specs.Logs.{is_before_turn, turns_of}
use Rattle.hek_levels.proofs.Turned.{at-any, any-none, element-at, element-more, element-all}
use Rattle.hek_levels.proofs.logged.is_kept.Goals as goal

pub returns-then-is_before_at : goal.returns-then-is_before_at
returns-then-is_before_at c =
    let f = element-at c.turns_of-turns.result.now c.loop-n.n c.loop-n-test.true in
    sym
    (ap (λ (xs : List Turn). list_any (λ (a : Turn). list_any (λ (b : Turn). is_before_turn a b) (turns_of c.args.log.now c.args.t)) xs) (sym c.turns_of-turns.ensures)
    ∙ at-any (λ (a : Turn). list_any (λ (b : Turn). is_before_turn a b) (turns_of c.args.log.now c.args.t)) c.turns_of-turns.result.now c.loop-n.n f.0 f.1
    (ap (λ (ys : List Turn). list_any (λ (b : Turn). is_before_turn f.0 b) ys) (sym c.turns_of-others.ensures) ∙ sym (c.if-is_before_at.ensures f.0 f.1)))

pub loop-n-preserved : goal.loop-n-preserved
loop-n-preserved c =
    element-more (λ (a : Turn). list_any (λ (b : Turn). is_before_turn a b) c.turns_of-others.result.now ≡ false) c.turns_of-turns.result.now c.loop-n.n c.loop-n.invariant
    (λ a there. sym (c.if-is_before_at.ensures a there))

pub returns : goal.returns
returns c =
    sym
    (any-none (λ (a : Turn). list_any (λ (b : Turn). is_before_turn a b) (turns_of c.args.log.now c.args.t)) (turns_of c.args.log.now c.args.x)
    (λ k a there.
    ap (λ (ys : List Turn). list_any (λ (b : Turn). is_before_turn a b) ys) (sym c.turns_of-others.ensures)
    ∙ element-all (λ (x : Turn). list_any (λ (b : Turn). is_before_turn x b) c.turns_of-others.result.now ≡ false) c.turns_of-turns.result.now (turns_of c.args.log.now c.args.x) c.loop-n.n c.turns_of-turns.ensures
    c.loop-n-test.false c.loop-n.invariant k a there))
