-- A text is cut into the lines of a trace in one way.
use Rattle.std.proofs.Common.{◌≡◌, ℕ, ◌+◌, ◌<◌, ◌≤◌, ◌^◌, List, [], ◌∷◌, ◌++◌, length, refl, sym, ap, subst, ◌∙◌, append_assoc, length-append, arith, add-zero}
use Rattle.std.proofs.lemmas.List.{append_cancel_left, append-nil}
use Rattle.hek_rules.specs.declared.event.Event.{Event}
use Rattle.hek_rules.specs.declared.reply.Reply.{Reply}
use Rattle.hek_rules.specs.Plan.{Plan, IsPlan, levels_of}
use Rattle.hek_rules.specs.Recorded.{Recorded}
use Rattle.hek_asm.specs.Trace.{trace_line}
use Rattle.hek_asm.specs.Reading.{AreEntries, history_trace, IsTraceOf, StopsAt, HasNoLine}
use Rattle.hek_asm.proofs.EntryAgain.{same_entry}
use Rattle.hek_asm.proofs.TraceSteps.{lines_from, line_long}

-- ---- two ways to cut a text, each of which stops where no line follows
record Same (h g : List (Event × Reply)) (rest more : List ℕ) : Type 0 where
  pub histories : h ≡ g
  pub rests : rest ≡ more

same_cut : (p : Plan) (k : ℕ) (h g : List (Event × Reply)) (rest more : List ℕ) → IsPlan p → k + length h ≤ 2 ^ 64 → k + length g ≤ 2 ^ 64 → AreEntries p h → AreEntries p g →
    lines_from p k h ++ rest ≡ lines_from p k g ++ more → HasNoLine p (k + length h) rest → HasNoLine p (k + length g) more → Same h g rest more
same_cut p k [] [] rest more is a b hs gs e stop halt = record { histories = refl; rests = e }
same_cut p k [] (y ∷ g) rest more is a b hs gs e stop halt =
    let line : rest ≡ trace_line p (k + 0) y.0 y.1 ++ (lines_from p (k + 1) g ++ more) =
    e ∙ append_assoc (trace_line p k y.0 y.1) (lines_from p (k + 1) g) more ∙ ap (λ (n : ℕ). trace_line p n y.0 y.1 ++ (lines_from p (k + 1) g ++ more)) (sym (add-zero k)) in
    absurd (stop y (lines_from p (k + 1) g ++ more) gs.0 line)
same_cut p k (x ∷ h) [] rest more is a b hs gs e stop halt =
    let line : more ≡ trace_line p (k + 0) x.0 x.1 ++ (lines_from p (k + 1) h ++ rest) =
    sym e ∙ append_assoc (trace_line p k x.0 x.1) (lines_from p (k + 1) h) rest ∙ ap (λ (n : ℕ). trace_line p n x.0 x.1 ++ (lines_from p (k + 1) h ++ rest)) (sym (add-zero k)) in
    absurd (halt x (lines_from p (k + 1) h ++ rest) hs.0 line)
same_cut p k (x ∷ h) (y ∷ g) rest more is a b hs gs e stop halt =
    let small : k < 2 ^ 64 = omega (arith, a) in
    let behind = lines_from p (k + 1) h ++ rest in
    let further = lines_from p (k + 1) g ++ more in
    let fronts : trace_line p k x.0 x.1 ++ behind ≡ trace_line p k y.0 y.1 ++ further =
    sym (append_assoc (trace_line p k x.0 x.1) (lines_from p (k + 1) h) rest) ∙ e ∙ append_assoc (trace_line p k y.0 y.1) (lines_from p (k + 1) g) more in
    let first : x ≡ y = same_entry p k x y behind further is small hs.0 gs.0 fronts in
    let tails : behind ≡ further = append_cancel_left (trace_line p k x.0 x.1) behind further (fronts ∙ ap (λ (z : Event × Reply). trace_line p k z.0 z.1 ++ further) (sym first)) in
    let h_count : k + length (x ∷ h) ≡ (k + 1) + length h = omega arith in
    let g_count : k + length (y ∷ g) ≡ (k + 1) + length g = omega arith in
    let next = same_cut p (k + 1) h g rest more is (omega (arith, a)) (omega (arith, b)) hs.1 gs.1 tails (subst (λ (n : ℕ). HasNoLine p n rest) h_count stop) (subst (λ (n : ℕ). HasNoLine p n more) g_count halt) in
    record { histories = ap (λ (z : Event × Reply). z ∷ h) first ∙ ap (λ (zs : List (Event × Reply)). y ∷ zs) next.histories; rests = next.rests }

-- ---- each line has a byte
at_least : (p : Plan) (k : ℕ) (h : List (Event × Reply)) → length h ≤ length (lines_from p k h)
at_least p k [] = omega arith
at_least p k (x ∷ h) = omega (arith, at_least p (k + 1) h, line_long p k x, length-append (trace_line p k x.0 x.1) (lines_from p (k + 1) h))

few : (p : Plan) (h : List (Event × Reply)) (rest text : List ℕ) → text ≡ history_trace p h ++ rest → length text < 2 ^ 64 → 1 + length h ≤ 2 ^ 64
few p h rest text e small = omega (arith, small, ap length e, length-append (history_trace p h) rest, at_least p 1 h)

nothing_follows : (p : Plan) (n : ℕ) → HasNoLine p n []
nothing_follows p n = λ x after entry e. absurd (omega (arith, ap length e, length-append (trace_line p n x.0 x.1) after, line_long p n x))

stopped : (p : Plan) (n : ℕ) (text : List ℕ) (s : StopsAt p n text) → HasNoLine p (1 + length s.before) s.rest
stopped p n text s = let count : n ≡ 1 + length s.before = omega (arith, s.number) in subst (λ (m : ℕ). HasNoLine p m s.rest) count s.stops

whole : (p : Plan) (told : Recorded) (text : List ℕ) → IsTraceOf p told text → text ≡ history_trace p told.history ++ []
whole p told text t = t.trace ∙ sym (append-nil (history_trace p told.history))

pub one_transcript : (p : Plan) (told found : Recorded) (text : List ℕ) → IsPlan p → length text < 2 ^ 64 → IsTraceOf p told text → IsTraceOf p found text → found ≡ told
one_transcript p told found text is small t f =
    let cut = same_cut p 1 found.history told.history [] [] is (few p found.history [] text (whole p found text f) small) (few p told.history [] text (whole p told text t) small) f.entries t.entries
    (sym (whole p found text f) ∙ whole p told text t) (nothing_follows p (1 + length found.history)) (nothing_follows p (1 + length told.history)) in
    f.schedule ∙ ap (λ (h : List (Event × Reply)). record { buckets = p.buckets; rows = p.rows; levels = levels_of p; history = h }) cut.histories ∙ sym t.schedule

pub no_fault : (p : Plan) (told : Recorded) (text : List ℕ) (n : ℕ) → IsPlan p → length text < 2 ^ 64 → IsTraceOf p told text → StopsAt p n text → ⊥
no_fault p told text n is small t s =
    let cut = same_cut p 1 told.history s.before [] s.rest is (few p told.history [] text (whole p told text t) small) (few p s.before s.rest text s.is small) t.entries s.entries
    (sym (whole p told text t) ∙ s.is) (nothing_follows p (1 + length told.history)) (stopped p n text s) in
    absurd (omega (arith, s.some, ap length cut.rests))

pub one_fault : (p : Plan) (text : List ℕ) (m n : ℕ) → IsPlan p → length text < 2 ^ 64 → StopsAt p m text → StopsAt p n text → m ≡ n
one_fault p text m n is small s t =
    let cut = same_cut p 1 s.before t.before s.rest t.rest is (few p s.before s.rest text s.is small) (few p t.before t.rest text t.is small) s.entries t.entries
    (sym s.is ∙ t.is) (stopped p m text s) (stopped p n text t) in
    omega (arith, s.number, t.number, ap length cut.histories)
