-- The line at the front of a text leads back to the event and the reply that it is of.
use Rattle.std.proofs.Common.{◌≡◌, ℕ, List, [], ◌∷◌, ◌++◌, length, Some, None, refl, sym, ap, ◌∙◌, codes, append_assoc}
use Rattle.std.specs.List.{AllByRecursion}
use Rattle.std.specs.Fmt.{decimal}
use Rattle.hek_rules.specs.declared.event.Event.{Event}
use Rattle.hek_rules.specs.declared.reply.Reply.{Reply}
use Rattle.hek_rules.specs.Plan.{Plan, IsPlan}
use Rattle.hek_rules.specs.Text.{lines_of, words_of}
use Rattle.hek_rules.specs.Lines.{joined_words}
use Rattle.hek_asm.specs.Canonical.{step_words}
use Rattle.hek_asm.specs.Trace.{reply_words, trace_line}
use Rattle.hek_asm.specs.Likely.{likely_entry}
use Rattle.hek_asm.specs.Reading.{is_small, IsTraceEntry, HasNoLine}
use Rattle.hek_asm.proofs.Joined.{IsWord, words_of-joined, in_joined, lines_then}
use Rattle.hek_asm.proofs.Again.{decimal_word}
use Rattle.hek_asm.proofs.LikelyReply.{plain_word, all_words, reply_again, reply_is_words}
use Rattle.hek_asm.proofs.LikelyEvent.{event_again, behind_step, step_is_words}

abbrev entry_words : Plan → ℕ → Event × Reply → List (List ℕ)
entry_words p n x = decimal n ∷ (step_words p x.0 ++ codes "->" ∷ reply_words x.1)

entry_is_words : (p : Plan) (n : ℕ) (x : Event × Reply) → IsPlan p → is_small n → IsTraceEntry (length p.txns) x → AllByRecursion IsWord (entry_words p n x)
entry_is_words p n x is h entry =
    let reply : AllByRecursion IsWord (codes "->" ∷ reply_words x.1) = (plain_word (codes "->") refl, reply_is_words x.1 entry.reply) in
    (decimal_word n h, all_words (step_words p x.0) (codes "->" ∷ reply_words x.1) (step_is_words p x.0 is entry.declared entry.first entry.second) reply)

words_again : (p : Plan) (n : ℕ) (x : Event × Reply) → IsPlan p → IsTraceEntry (length p.txns) x → likely_entry p (entry_words p n x) ≡ Some x
unfolding likely_entry
words_again p n x is entry =
    rw (event_again p x.0 (codes "->" ∷ reply_words x.1) is entry.declared entry.first entry.second, behind_step p x.0 (codes "->") (reply_words x.1), reply_again x.1 entry.reply) refl

front_lines : (p : Plan) (n : ℕ) (x : Event × Reply) (after : List ℕ) → IsPlan p → is_small n → IsTraceEntry (length p.txns) x → lines_of (trace_line p n x.0 x.1 ++ after) ≡ joined_words (entry_words p n x) ∷ lines_of after
front_lines p n x after is h entry =
    ap lines_of (append_assoc (joined_words (entry_words p n x)) (10 ∷ []) after) ∙ lines_then (joined_words (entry_words p n x)) after (in_joined (entry_words p n x) (entry_is_words p n x is h entry))

heads : {X : Type 0} (x y : X) (xs ys : List X) → x ∷ xs ≡ y ∷ ys → x ≡ y
heads x y xs ys e = cc

-- the first line of the text leads to the entry
pub entry_again : (p : Plan) (n : ℕ) (x : Event × Reply) (text after line : List ℕ) (more : List (List ℕ)) → IsPlan p → is_small n → IsTraceEntry (length p.txns) x →
    text ≡ trace_line p n x.0 x.1 ++ after → lines_of text ≡ line ∷ more → likely_entry p (words_of line) ≡ Some x
entry_again p n x text after line more is h entry e l =
    let lines : line ∷ more ≡ joined_words (entry_words p n x) ∷ lines_of after = sym l ∙ ap lines_of e ∙ front_lines p n x after is h entry in
    let first : line ≡ joined_words (entry_words p n x) = heads line (joined_words (entry_words p n x)) more (lines_of after) lines in
    ap (λ (w : List ℕ). likely_entry p (words_of w)) first ∙ ap (likely_entry p) (words_of-joined (entry_words p n x) (entry_is_words p n x is h entry)) ∙ words_again p n x is entry

-- a text without lines does not begin with the line of an entry
pub no_lines : (p : Plan) (n : ℕ) (text : List ℕ) → IsPlan p → is_small n → lines_of text ≡ [] → HasNoLine p n text
no_lines p n text is h e = λ x after entry same.
    let none : [] ≡ joined_words (entry_words p n x) ∷ lines_of after = sym e ∙ ap lines_of same ∙ front_lines p n x after is h entry in absurd cc

some_apart : {X : Type 0} (x : X) → Some x ≡ None → ⊥
some_apart x e = absurd cc

-- a line whose words can be of no entry is the line of none
pub none_likely : (p : Plan) (n : ℕ) (text line : List ℕ) (more : List (List ℕ)) → IsPlan p → is_small n → lines_of text ≡ line ∷ more → likely_entry p (words_of line) ≡ None → HasNoLine p n text
none_likely p n text line more is h l none = λ x after entry same. some_apart x (sym (entry_again p n x text after line more is h entry same l) ∙ none)

some_same : {X : Type 0} (x y : X) → Some x ≡ Some y → x ≡ y
some_same x y e = cc

-- a line that differs from that of the only entry it can be of is the line of none
pub other_line : (p : Plan) (n : ℕ) (y : Event × Reply) (text line : List ℕ) (more : List (List ℕ)) → IsPlan p → is_small n → lines_of text ≡ line ∷ more → likely_entry p (words_of line) ≡ Some y →
    ((after : List ℕ) → text ≡ trace_line p n y.0 y.1 ++ after → ⊥) → HasNoLine p n text
other_line p n y text line more is h l likely other = λ x after entry same.
    let only : x ≡ y = some_same x y (sym (entry_again p n x text after line more is h entry same l) ∙ likely) in
    other after (same ∙ ap (λ (z : Event × Reply). trace_line p n z.0 z.1 ++ after) only)

-- two equal texts begin with the same entry
pub same_entry : (p : Plan) (n : ℕ) (x y : Event × Reply) (behind further : List ℕ) → IsPlan p → is_small n → IsTraceEntry (length p.txns) x → IsTraceEntry (length p.txns) y →
    trace_line p n x.0 x.1 ++ behind ≡ trace_line p n y.0 y.1 ++ further → x ≡ y
same_entry p n x y behind further is h first second e =
    let text = trace_line p n x.0 x.1 ++ behind in
    let line = joined_words (entry_words p n x) in
    let lines : lines_of text ≡ line ∷ lines_of behind = front_lines p n x behind is h first in
    some_same x y (sym (entry_again p n x text behind line (lines_of behind) is h first refl lines) ∙ entry_again p n y text further line (lines_of behind) is h second e lines)
