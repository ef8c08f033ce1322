use Rattle.std.proofs.Common.{◌≡◌, ◌-◌, ◌∙◌, ◌∷◌, List, ℕ, false, length, take, drop, arith, ap, sym}
use Rattle.std.specs.List.{position_or_len}
use Rattle.hek_rules.specs.Text.{words_of, ends_word}
use Rattle.hek_rules.proofs.TextLemmas.{at_blank, words_cut, words_skip, words_none, no_blank, from_place}
use Rattle.hek_rules.proofs.text.next_word.Goals as goal

pub returns-then-len-eq0-clause-word : goal.returns-then-len-eq0-clause-word
returns-then-len-eq0-clause-word c =
    let line = c.args.line.now in
    let n = c.blanks_len-start.result in
    let here : at_blank (drop n line) ≡ false = rw c.blanks_len-start.ensures.len (no_blank line) in
    let none : position_or_len ends_word (drop n line) ≡ 0 = ap (position_or_len ends_word) (sym (from_place n line)) ∙ sym c.word_len-len.ensures.len ∙ c.if-len-eq0.true in
    let skip : words_of (drop n line) ≡ words_of line = rw c.blanks_len-start.ensures.len (words_skip line) in
    sym skip ∙ words_none (drop n line) here none

pub returns-clause-word : goal.returns-clause-word
returns-clause-word c =
    let line = c.args.line.now in
    let n = c.blanks_len-start.result in
    let m = c.word_len-len.result in
    let rest = take (length line - n) (drop n line) in
    let skip : words_of (drop n line) ≡ words_of line = rw c.blanks_len-start.ensures.len (words_skip line) in
    let cut : words_of rest ≡ take m rest ∷ words_of (drop m rest) = words_cut rest m (omega arith) c.word_len-len.ensures.len in
    sym skip ∙ ap words_of (sym (from_place n line)) ∙ cut ∙ ap (λ (w : List ℕ). w ∷ words_of (drop m rest)) (sym c.split_at.ensures.front) ∙ ap (λ (r : List ℕ). c.split_at.result.0.now ∷ words_of r) (sym c.split_at.ensures.back)
