-- A trace that grows by a line.
use Rattle.std.proofs.Common.{◌≡◌, ℕ, ◌+◌, ◌<◌, List, [], ◌∷◌, ◌++◌, length, map, sym, ap, ◌∙◌, append_assoc, length-append, arith, add-zero, codes}
use Rattle.std.specs.List.{AllByRecursion}
use Rattle.std.specs.Fmt.{decimal}
use Rattle.std.proofs.lemmas.List.{append-nil}
use Rattle.hek_rules.specs.declared.event.Event.{Event}
use Rattle.hek_rules.specs.declared.reply.Reply.{Reply}
use Rattle.hek_rules.specs.Plan.{Plan, levels_of}
use Rattle.hek_rules.specs.Recorded.{Recorded}
use Rattle.hek_asm.specs.Canonical.{step_words}
use Rattle.hek_rules.specs.Lines.{joined_words}
use Rattle.hek_asm.specs.Trace.{reply_words, trace_line, trace_from}
use Rattle.hek_asm.specs.Reading.{IsTraceEntry, AreEntries, history_trace, IsFront}

-- the lines of a history from a number on
abbrev pub lines_from : Plan → ℕ → List (Event × Reply) → List ℕ
lines_from p n h = trace_from p n (map (λ (x : Event × Reply). x.0) h) (map (λ (x : Event × Reply). x.1) h)

lines_more : (p : Plan) (n : ℕ) (h : List (Event × Reply)) (x : Event × Reply) → lines_from p n (h ++ x ∷ []) ≡ lines_from p n h ++ trace_line p (n + length h) x.0 x.1
lines_more p n [] x = append-nil (trace_line p n x.0 x.1) ∙ ap (λ (m : ℕ). trace_line p m x.0 x.1) (sym (add-zero n))
lines_more p n (y ∷ h) x =
    let number : (n + 1) + length h ≡ n + length (y ∷ h) = omega arith in
    ap (λ (bs : List ℕ). trace_line p n y.0 y.1 ++ bs) (lines_more p (n + 1) h x ∙ ap (λ (m : ℕ). lines_from p (n + 1) h ++ trace_line p m x.0 x.1) number)
    ∙ sym (append_assoc (trace_line p n y.0 y.1) (lines_from p (n + 1) h) (trace_line p (n + length (y ∷ h)) x.0 x.1))

all_more : {X : Type 0} (P : X → Type 0) (xs : List X) (x : X) → AllByRecursion P xs → P x → AllByRecursion P (xs ++ x ∷ [])
all_more P [] x h k = (k, tt)
all_more P (y ∷ ys) x h k = (h.0, all_more P ys x h.1 k)

pub line_long : (p : Plan) (n : ℕ) (x : Event × Reply) → 0 < length (trace_line p n x.0 x.1)
line_long p n x = omega (arith, length-append (joined_words (decimal n ∷ (step_words p x.0 ++ codes "->" ∷ reply_words x.1))) (10 ∷ []))

pub record Grown (p : Plan) (h : List (Event × Reply)) (x : Event × Reply) (text rest after : List ℕ) : Type 0 where
  pub entries : AreEntries p (h ++ x ∷ [])
  pub trace : text ≡ history_trace p (h ++ x ∷ []) ++ after
  pub shorter : length after < length rest
  pub count : length (h ++ x ∷ []) ≡ length h + 1

pub grown : (p : Plan) (n : ℕ) (h : List (Event × Reply)) (x : Event × Reply) (text rest after : List ℕ) → n ≡ length h → AreEntries p h → text ≡ history_trace p h ++ rest → IsFront p (n + 1) x rest after → Grown p h x text rest after
grown p n h x text rest after count entries trace front =
    let number : n + 1 ≡ 1 + length h = omega arith in
    let line = trace_line p (1 + length h) x.0 x.1 in
    let here : rest ≡ line ++ after = front.is ∙ ap (λ (m : ℕ). trace_line p m x.0 x.1 ++ after) number in
    let len : length rest ≡ length line + length after = ap length here ∙ length-append line after in
    record {
      entries = all_more (IsTraceEntry (length p.txns)) h x entries front.entry;
      trace = trace ∙ ap (λ (bs : List ℕ). history_trace p h ++ bs) here ∙ sym (append_assoc (history_trace p h) line after) ∙ ap (λ (bs : List ℕ). bs ++ after) (sym (lines_more p 1 h x));
      shorter = omega (arith, len, line_long p (1 + length h) x);
      count = length-append h (x ∷ []);
    }

pub over_schedule : (p : Plan) (old new : Recorded) (h : List (Event × Reply)) → new ≡ record old { history = h } →
    old ≡ record { buckets = p.buckets; rows = p.rows; levels = levels_of p; history = old.history } →
    new ≡ record { buckets = p.buckets; rows = p.rows; levels = levels_of p; history = new.history }
over_schedule p old new h e s =
    let history : h ≡ new.history = sym (ap (λ (t : Recorded). t.history) e) in
    e ∙ ap (λ (t : Recorded). record t { history = h }) s ∙ ap (λ (xs : List (Event × Reply)). record { buckets = p.buckets; rows = p.rows; levels = levels_of p; history = xs }) history
