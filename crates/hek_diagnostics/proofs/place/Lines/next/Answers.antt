use Rattle.std.proofs.Common.{rules, ◌≡◌, false, List, ℕ}
use Rattle.hek_diagnostics.proofs.PlaceLemmas.{end_is_line, next_is_line, next_lines_left}
use Rattle.hek_diagnostics.proofs.place.Lines.next.Goals as goal

pub invariant_of-result-clause-is_line : goal.invariant_of-result-clause-is_line
invariant_of-result-clause-is_line c =
    end_is_line c.args.self.now.text.now c.args.self.now.rest.now c.args.self.now.number (c.args.self.now.left (search rules)) (search rules)

pub invariant_of-self-2 : goal.invariant_of-self-2
invariant_of-self-2 c = record { left = λ over. next_lines_left c.args.self.now.text.now c.args.self.now.rest.now c.in_ok-line.rest.now c.in_ok-line.line.now c.args.self.now.number (c.args.self.now.left over) c.in_ok-line.ensures.line }

pub invariant_of-result-2-clause-is_line : goal.invariant_of-result-2-clause-is_line
invariant_of-result-2-clause-is_line c =
    next_is_line c.args.self.now.text.now c.args.self.now.rest.now c.in_ok-line.rest.now c.in_ok-line.line.now c.args.self.now.number (c.args.self.now.left (search rules)) c.in_ok-line.ensures.line
