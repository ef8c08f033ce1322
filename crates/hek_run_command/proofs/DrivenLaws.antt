-- What is written answer by answer.
use Rattle.std.proofs.Common.{◌≡◌, subst, ℕ, List, [], ◌∷◌, ◌++◌, ◌∙◌, ap, sym, append_assoc, Bool, Option, Some, None}
use Rattle.std.proofs.lemmas.List.{append-nil}
use Rattle.std.specs.Prelude.{Result, Ok, Err, OnOk}
use Rattle.std.specs.Io.KnownBytes.{Appends}
use Rattle.hek_run_command.specs.Driven.{Told, answer_text, answers_text, HasAnswers, IsAnswered}

-- no answer yet
pub none_yet : (ends : Bool) → (b : Option (List ℕ)) → HasAnswers ends b b
none_yet ends None = record { answers = []; written = tt }
none_yet ends (Some held) = record { answers = []; written = sym (append-nil held) }

-- nothing more is written
pub silent : (ends : Bool) → (b n m : Option (List ℕ)) → HasAnswers ends b n → Appends n m [] → HasAnswers ends b m
silent ends None n m p q = record { answers = []; written = tt }
silent ends (Some held) None m p q = absurd p.written
silent ends (Some held) (Some now) None p q = absurd q
silent ends (Some held) (Some now) (Some then) p q = record { answers = p.answers; written = q ∙ append-nil now ∙ p.written }

more_text : (ends : Bool) → (answers : List Told) → (a : Told) → answers_text ends (answers ++ a ∷ []) ≡ answers_text ends answers ++ answer_text ends a.told a.state
more_text ends [] a = append-nil (answer_text ends a.told a.state)
more_text ends (first ∷ rest) a =
    let front = answer_text ends first.told first.state in
    ap (λ (xs : List ℕ). front ++ xs) (more_text ends rest a) ∙ sym (append_assoc front (answers_text ends rest) (answer_text ends a.told a.state))

-- an answer is written
pub one_answered : (ends : Bool) → (n m : Option (List ℕ)) → (told state : List ℕ) → Appends n m (answer_text ends told state) → IsAnswered ends n m
one_answered ends n m told state h = record { answer = record { told = told; state = state }; written = h }

-- one more answer is written
pub one_more : (ends : Bool) → (b n m : Option (List ℕ)) → (told state : List ℕ) → HasAnswers ends b n → Appends n m (answer_text ends told state) → HasAnswers ends b m
one_more ends None n m told state p q = record { answers = []; written = tt }
one_more ends (Some held) None m told state p q = absurd p.written
one_more ends (Some held) (Some now) None told state p q = absurd q
one_more ends (Some held) (Some now) (Some then) told state p q =
    let a : Told = record { told = told; state = state } in
    let text = answer_text ends told state in
    record {
      answers = p.answers ++ a ∷ [];
      written = q ∙ ap (λ (xs : List ℕ). xs ++ text) p.written ∙ append_assoc held (answers_text ends p.answers) text
          ∙ ap (λ (xs : List ℕ). held ++ xs) (sym (more_text ends p.answers a));
    }

-- what is written after a greeting that writes nothing
pub greeted : {T E : Type 0} (r : Result T E) (Quiet : Type 0) (ends : Bool) (before greeted after : Option (List ℕ)) → (Quiet → greeted ≡ before)
    → OnOk r (Quiet → HasAnswers ends greeted after) → OnOk r (Quiet → HasAnswers ends before after)
greeted (Ok x) Quiet ends before now after same h = λ quiet. subst (λ (held : Option (List ℕ)). HasAnswers ends held after) (same quiet) (h quiet)
greeted (Err e) Quiet ends before now after same h = tt
