-- A line of a trace, in the parts that are written.
use Rattle.std.proofs.Common.{◌≡◌, ℕ, List, [], ◌∷◌, ◌++◌, refl, sym, ap, ◌∙◌, append_assoc, append-nil, codes, Option, None, Some}
use Rattle.std.specs.Fmt.{decimal}
use Rattle.hek_rules.specs.declared.event.Event.{Event}
use Rattle.hek_rules.specs.declared.reply.Reply.{Reply}
use Rattle.hek_rules.specs.declared.reply.Reply.TheVariants as reply
use Rattle.hek_rules.specs.Plan.{Plan}
use Rattle.hek_rules.specs.Forms.{first_word, second_word, word_or_none, form_text}
use Rattle.hek_rules.specs.Lines.{spaced, joined_words}
use Rattle.hek_rules.specs.Replies.{form_of}
use Rattle.hek_rules.specs.Events.{word_of, kind_of, txn_of, operand_count, first_of, second_of}
use Rattle.hek_asm.specs.Canonical.{name_at, name_words, name_front, operand_words, step_words}
use Rattle.hek_asm.specs.Pieces.{first_operands, later_operands}
use Rattle.hek_asm.specs.Trace.{reply_operands, reply_words, line_front, line_rest, trace_line}

pub spaced_append : (vs ws : List (List ℕ)) → spaced (vs ++ ws) ≡ spaced vs ++ spaced ws
spaced_append [] ws = refl
spaced_append (v ∷ vs) ws = ap (λ (bs : List ℕ). 32 ∷ (v ++ bs)) (spaced_append vs ws) ∙ ap (λ (bs : List ℕ). 32 ∷ bs) (sym (append_assoc v (spaced vs) (spaced ws)))

-- a step's words, by the name at its front
front_joined : (p : Plan) (txn : Option ℕ) (kind : List ℕ) (ws : List (List ℕ)) → joined_words (name_words p txn ++ kind ∷ ws) ≡ name_front p txn ++ (kind ++ spaced ws)
front_joined p None kind ws = refl
front_joined p (Some t) kind ws = sym (append_assoc (name_at p t) (32 ∷ []) (kind ++ spaced ws))

pub step_parts : (p : Plan) (e : Event) →
    joined_words (step_words p e) ≡ name_front p (txn_of e) ++ (word_of (kind_of e) ++ spaced (operand_words (operand_count (kind_of e)) (first_of e) (second_of e)))
step_parts p e = front_joined p (txn_of e) (word_of (kind_of e)) (operand_words (operand_count (kind_of e)) (first_of e) (second_of e))

spaced_joined : (vs : List (List ℕ)) (w : List ℕ) (ws : List (List ℕ)) → spaced (vs ++ w ∷ ws) ≡ 32 ∷ joined_words (vs ++ w ∷ ws)
spaced_joined [] w ws = refl
spaced_joined (v ∷ vs) w ws = refl

-- a step with a space before each word
pub spaced_step : (p : Plan) (e : Event) → spaced (step_words p e) ≡ 32 ∷ joined_words (step_words p e)
spaced_step p e = spaced_joined (name_words p (txn_of e)) (word_of (kind_of e)) (operand_words (operand_count (kind_of e)) (first_of e) (second_of e))

-- the words of a reply are those of its form, and then its operands
pub reply_parts : (r : Reply) → joined_words (reply_words r) ≡ form_text (form_of r) ++ spaced (reply_operands r)
reply_parts r =
    let f = form_of r in
    let behind = word_or_none (second_word f) in
    ap (λ (bs : List ℕ). first_word f ++ bs) (spaced_append behind (reply_operands r)) ∙ sym (append_assoc (first_word f) (spaced behind) (spaced (reply_operands r)))

two_operands : (r : Reply) → reply_operands r ≡ first_operands r ++ later_operands r
two_operands (reply.ReleasedRead v writer) = refl
two_operands (reply.Victim t cycle) = refl
two_operands (reply.Refused why) = refl
two_operands (reply.Aborted cause) = refl
two_operands r = sym (append-nil (reply_operands r))

-- the operands of a reply in two parts
pub operand_parts : (r : Reply) → spaced (reply_operands r) ≡ spaced (first_operands r) ++ spaced (later_operands r)
operand_parts r = ap spaced (two_operands r) ∙ spaced_append (first_operands r) (later_operands r)

pub line_parts : (p : Plan) (n : ℕ) (e : Event) (r : Reply) → trace_line p n e r ≡ decimal n ++ (spaced (step_words p e) ++ (codes " -> " ++ (joined_words (reply_words r) ++ 10 ∷ [])))
line_parts p n e r =
    let steps = step_words p e in
    let words : spaced (steps ++ codes "->" ∷ reply_words r) ≡ spaced steps ++ (codes " -> " ++ joined_words (reply_words r)) =
    spaced_append steps (codes "->" ∷ reply_words r) in
    ap (λ (bs : List ℕ). (decimal n ++ bs) ++ 10 ∷ []) words
    ∙ append_assoc (decimal n) (spaced steps ++ (codes " -> " ++ joined_words (reply_words r))) (10 ∷ [])
    ∙ ap (λ (bs : List ℕ). decimal n ++ bs) (append_assoc (spaced steps) (codes " -> " ++ joined_words (reply_words r)) (10 ∷ []))

-- a line is its two parts
pub line_halves : (p : Plan) (n : ℕ) (e : Event) (r : Reply) → trace_line p n e r ≡ line_front p n e ++ line_rest r
line_halves p n e r =
    line_parts p n e r
    ∙ ap (λ (bs : List ℕ). decimal n ++ bs) (sym (append_assoc (spaced (step_words p e)) (codes " -> ") (line_rest r)))
    ∙ sym (append_assoc (decimal n) (spaced (step_words p e) ++ codes " -> ") (line_rest r))
