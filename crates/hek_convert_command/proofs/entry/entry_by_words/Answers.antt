use Rattle.std.proofs.Common.{subst, sym, ◌∙◌, refl, List, ℕ, [], ◌∷◌}
use Rattle.hek_convert_command.specs.Lines.{FirstWords}
use Rattle.hek_convert_command.proofs.LineLaws.{word_then, no_word, not_one, one_more, none_of, one_word, five_words, of_exchange, of_over}
use Rattle.hek_convert_command.proofs.entry.entry_by_words.Goals as goal

pub returns-in_err-second : goal.returns-in_err-second
returns-in_err-second c =
    let first = c.in_ok-first.first in
    let words = first.now ∷ [] in
    record {
      words = words;
      first = subst (λ (text : List ℕ). FirstWords 5 text words) c.split_whitespace-words.ensures.rest
          (word_then 4 c.split_whitespace-words.result c.next.new.self first [] c.in_ok-first.ensures.steps
          (no_word 3 c.next.new.self c.next-2.new.self c.in_err-second.ensures.steps));
      is = none_of words (one_word first.now) c.from_residual-in_err-second.result c.from_residual-in_err-second.ensures;
    }

pub returns-in_default : goal.returns-in_default
returns-in_default c =
    let first = c.in_ok-first.first in
    let second = c.in_ok-second.second in
    let words = first.now ∷ second.now ∷ [] in
    record {
      words = words;
      first = subst (λ (text : List ℕ). FirstWords 5 text words) c.split_whitespace-words.ensures.rest
          (word_then 4 c.split_whitespace-words.result c.next.new.self first (second.now ∷ []) c.in_ok-first.ensures.steps
          (word_then 3 c.next.new.self c.next-2.new.self second [] c.in_ok-second.ensures.steps
          (no_word 2 c.next-2.new.self c.next-3.new.self c.in_default.ensures.steps)));
      is = of_over first.now second.now c.over.result c.over_entry.result c.over.ensures c.over_entry.ensures;
    }

pub returns-in_default-next : goal.returns-in_default-next
returns-in_default-next c =
    let first = c.in_ok-first.first in
    let second = c.in_ok-second.second in
    let third = c.in-Some.third in
    let words = first.now ∷ second.now ∷ third.now ∷ [] in
    record {
      words = words;
      first = subst (λ (text : List ℕ). FirstWords 5 text words) c.split_whitespace-words.ensures.rest
          (word_then 4 c.split_whitespace-words.result c.next.new.self first (second.now ∷ third.now ∷ []) c.in_ok-first.ensures.steps
          (word_then 3 c.next.new.self c.next-2.new.self second (third.now ∷ []) c.in_ok-second.ensures.steps
          (word_then 2 c.next-2.new.self c.next-3.new.self third [] c.in-Some.ensures.steps
          (no_word 1 c.next-3.new.self c.next-4.new.self c.in_default-next.ensures.steps))));
      is = of_exchange words c.unnamed.result c.exchange_entry.result (λ t h. h) c.unnamed.ensures c.exchange_entry.ensures;
    }

pub returns-then-is_some : goal.returns-then-is_some
returns-then-is_some c =
    let first = c.in_ok-first.first in
    let second = c.in_ok-second.second in
    let third = c.in-Some.third in
    let fourth = c.in-Some-next.fourth in
    let fifth = one_more c.next-4.new.self c.next-5.new.self c.next-5.result c.next-5.ensures.steps (sym c.is_some.ensures ∙ c.if-is_some.true) in
    let words = first.now ∷ second.now ∷ third.now ∷ fourth.now ∷ fifth.0 ∷ [] in
    record {
      words = words;
      first = subst (λ (text : List ℕ). FirstWords 5 text words) c.split_whitespace-words.ensures.rest
          (word_then 4 c.split_whitespace-words.result c.next.new.self first (second.now ∷ third.now ∷ fourth.now ∷ fifth.0 ∷ []) c.in_ok-first.ensures.steps
          (word_then 3 c.next.new.self c.next-2.new.self second (third.now ∷ fourth.now ∷ fifth.0 ∷ []) c.in_ok-second.ensures.steps
          (word_then 2 c.next-2.new.self c.next-3.new.self third (fourth.now ∷ fifth.0 ∷ []) c.in-Some.ensures.steps
          (word_then 1 c.next-3.new.self c.next-4.new.self fourth (fifth.0 ∷ []) c.in-Some-next.ensures.steps
          fifth.1))));
      is = none_of words (five_words first.now second.now third.now fourth.now fifth.0) _ refl;
    }

pub returns : goal.returns
returns c =
    let first = c.in_ok-first.first in
    let second = c.in_ok-second.second in
    let third = c.in-Some.third in
    let fourth = c.in-Some-next.fourth in
    let words = first.now ∷ second.now ∷ third.now ∷ fourth.now ∷ [] in
    record {
      words = words;
      first = subst (λ (text : List ℕ). FirstWords 5 text words) c.split_whitespace-words.ensures.rest
          (word_then 4 c.split_whitespace-words.result c.next.new.self first (second.now ∷ third.now ∷ fourth.now ∷ []) c.in_ok-first.ensures.steps
          (word_then 3 c.next.new.self c.next-2.new.self second (third.now ∷ fourth.now ∷ []) c.in_ok-second.ensures.steps
          (word_then 2 c.next-2.new.self c.next-3.new.self third (fourth.now ∷ []) c.in-Some.ensures.steps
          (word_then 1 c.next-3.new.self c.next-4.new.self fourth [] c.in-Some-next.ensures.steps
          (not_one 0 c.next-4.new.self c.next-5.new.self c.next-5.result c.next-5.ensures.steps (sym c.is_some.ensures ∙ c.if-is_some.false))))));
      is = of_exchange words c.named.result c.exchange_entry-2.result (λ t h. h) c.named.ensures c.exchange_entry-2.ensures;
    }
