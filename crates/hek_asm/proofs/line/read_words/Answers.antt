use Rattle.std.proofs.Common.{◌≡◌, ℕ, ◌+◌, true, List, [], ◌++◌, ◌≤◌, false, drop_of_length-le, refl, map, length, drop, get_or, ap, sym, subst, ◌∙◌, arith}
use Rattle.std.proofs.lemmas.Bool.{ne_eqb}
use Rattle.std.proofs.lemmas.List.{append-nil}
use Rattle.std.specs.List.{position_or_len}
use Rattle.hek_rules.specs.Text.{words_of, is_comment, ends_word}
use Rattle.hek_asm.proofs.WordPass.{passed, ended, blank_read, comment_read, foreign_passed, foreign_done, word_added, none_added, no_comment}
use Rattle.hek_asm.proofs.line.read_words.Goals.{then-ends_word+else-byte-eq35, then-start-i+in_ok-push, else-start-i, else-ends_word, then-start-line+in_ok-push-2, else-start-line}
use Rattle.hek_asm.proofs.line.read_words.Goals as goal

pub returns-then-byte-eq35-clause-words : goal.returns-then-byte-eq35-clause-words
returns-then-byte-eq35-clause-words c =
    let line = c.args.line.now in
    let i = c.loop-i.i in
    let e : ends_word (get_or line i 0) ≡ true = sym c.ends_word.ensures ∙ c.if-ends_word.true in
    let before = c.loop-i.invariant in
    let all : map (λ w. w.now) c.if-start-i.words.items ++ words_of (drop i line) ≡ words_of line = elim c.if-start-i.branch [
      | then-start-i+in_ok-push w ↦ word_added line c.loop-i.start i c.loop-i.words.items c.if-start-i.words.items _ w.if-start-i.true before.2 (ended line i c.loop-i-test.true e) before.1 refl (ap (λ v. v.items) w.words-is ∙ w.in_ok-push.ensures.items)
      | else-start-i w ↦ ap (λ v. map (λ w. w.now) v.items ++ words_of (drop i line)) w.words-is ∙ none_added line c.loop-i.start i c.loop-i.words.items before.0 w.if-start-i.false before.1
    ] in
    sym (append-nil (map (λ w. w.now) c.if-start-i.words.items)) ∙ ap (λ (vs : List (List ℕ)). map (λ w. w.now) c.if-start-i.words.items ++ vs) (sym (comment_read line i c.loop-i-test.true c.if-byte-eq35.true)) ∙ all

pub returns-then-byte-eq35-clause-foreign : goal.returns-then-byte-eq35-clause-foreign
returns-then-byte-eq35-clause-foreign c =
    foreign_done c.args.line.now c.loop-i.i c.loop-i.bits c.loop-i-test.true c.if-byte-eq35.true ∙ c.loop-i.invariant.3

pub loop-i-preserved : goal.loop-i-preserved
loop-i-preserved c =
    let line = c.args.line.now in
    let i = c.loop-i.i in
    let h = c.loop-i-test.true in
    let before = c.loop-i.invariant in
    elim c.if-ends_word.branch [
      | then-ends_word+else-byte-eq35 w ↦
          let e : ends_word (get_or line i 0) ≡ true = sym c.ends_word.ensures ∙ w.if-ends_word.true in
          let other : is_comment (get_or line i 0) ≡ false = ne_eqb (get_or line i 0) 35 w.if-byte-eq35.false in
          let all : map (λ w. w.now) w.if-start-i.words.items ++ words_of (drop i line) ≡ words_of line = elim w.if-start-i.branch [
            | then-start-i+in_ok-push v ↦ word_added line c.loop-i.start i c.loop-i.words.items w.if-start-i.words.items _ v.if-start-i.true before.2 (ended line i h e) before.1 refl (ap (λ v. v.items) v.words-is ∙ v.in_ok-push.ensures.items)
            | else-start-i v ↦ ap (λ v. map (λ w. w.now) v.items ++ words_of (drop i line)) v.words-is ∙ none_added line c.loop-i.start i c.loop-i.words.items before.0 v.if-start-i.false before.1
          ] in
          let is = w.start-is in
          let words = ap (λ v. map (λ w. w.now) v.items ++ words_of (drop c.if-ends_word.start line)) w.words-is
          ∙ ap (λ n. map (λ w. w.now) w.if-start-i.words.items ++ words_of (drop n line)) is
          ∙ ap (λ (vs : List (List ℕ)). map (λ w. w.now) w.if-start-i.words.items ++ vs) (sym (blank_read line i h e other)) ∙ all in
          (omega (arith, is), words, ap (λ (n : ℕ). n + position_or_len ends_word (drop n line)) (sym is), foreign_passed line i c.loop-i.bits h other ∙ before.3)
      | else-ends_word w ↦
          let e : ends_word (get_or line i 0) ≡ false = sym c.ends_word.ensures ∙ w.if-ends_word.false in
          let is = w.start-is in
          let first = before.0 in
          let words = ap (λ v. map (λ w. w.now) v.items ++ words_of (drop c.if-ends_word.start line)) w.words-is
          ∙ ap (λ n. map (λ w. w.now) c.loop-i.words.items ++ words_of (drop n line)) is ∙ before.1 in
          let within = passed line i h e ∙ before.2 ∙ ap (λ (n : ℕ). n + position_or_len ends_word (drop n line)) (sym is) in
          (omega (arith, is, first), words, within, foreign_passed line i c.loop-i.bits h (no_comment (get_or line i 0) e) ∙ before.3)
    ]

pub returns-clause-words : goal.returns-clause-words
returns-clause-words c =
    let line = c.args.line.now in
    let start = c.loop-i.start in
    let before = c.loop-i.invariant in
    let over : length line ≤ c.loop-i.i = c.loop-i-test.false in
    let within : c.loop-i.i ≤ length line = c.loop-i.auto.i-end in
    let end : c.loop-i.i ≡ length line = omega (arith, over, within) in
    let done : drop (length line) line ≡ [] = drop_of_length-le line (omega arith) in
    let none : position_or_len ends_word (drop (length line) line) ≡ 0 = ap (position_or_len ends_word) done in
    let same = ap (λ (n : ℕ). n + position_or_len ends_word (drop n line)) (sym end) ∙ before.2 in
    let all : map (λ w. w.now) c.if-start-line.words.items ++ words_of (drop (length line) line) ≡ words_of line = elim c.if-start-line.branch [
      | then-start-line+in_ok-push-2 w ↦ word_added line start (length line) c.loop-i.words.items c.if-start-line.words.items _ w.if-start-line.true same none before.1 refl (ap (λ v. v.items) w.words-is ∙ w.in_ok-push-2.ensures.items)
      | else-start-line w ↦ ap (λ v. map (λ w. w.now) v.items ++ words_of (drop (length line) line)) w.words-is ∙ none_added line start (length line) c.loop-i.words.items (subst (λ n. start ≤ n) end before.0) w.if-start-line.false before.1
    ] in
    sym (append-nil (map (λ w. w.now) c.if-start-line.words.items)) ∙ ap (λ (bs : List ℕ). map (λ w. w.now) c.if-start-line.words.items ++ words_of bs) (sym done) ∙ all
