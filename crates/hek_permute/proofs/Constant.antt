-- Without rules moves are constants.
use Rattle.std.proofs.Common.{◌≡◌, ℕ, Bool, true, false, List, [], ◌∷◌, Option, refl, ap, sym, ◌∙◌, filter, length, map}
use Rattle.std.proofs.lemmas.List.{length-map}
use Rattle.std.specs.Prelude.{◌==◌, ◌&&◌, ◌||◌, cond, not}
use Rattle.hek_rules.specs.declared.event.Event.{Event}
use Rattle.hek_rules.specs.declared.event.Event.TheVariants as event
use Rattle.hek_rules.specs.declared.reply.Reply.{Reply}
use Rattle.hek_rules.specs.Plan.{Plan}
use Rattle.hek_program.specs.declared.rule.Act.{Act}
use Rattle.hek_program.specs.declared.rule.Act.TheVariants.{Makes}
use Rattle.hek_program.specs.declared.term.Factor.{Factor}
use Rattle.hek_program.specs.Acts.{act_of, plain_rule}
use Rattle.hek_program.specs.Told.{seen_by}
use Rattle.hek_worker.specs.Grammar.{is_work, work_of}
use Rattle.hek_permute.specs.declared.moves.Move.{Move}
use Rattle.hek_permute.specs.Moves.{has_fail, is_fail_of, is_move, with_rules, work_in}
use Rattle.hek_permute.specs.OnePlay.{PlainMovesAreConstant, has_fail_step, plain_shown}
use Rattle.hek_permute.specs.Plays.{Shown, shown}

abbrev act_at : (Factor → Option ℕ) → Move → Act
act_at v m = act_of v m.event m.rule

-- a read or write of the transaction, or of another
one-move : (v : Factor → Option ℕ) (mine : Bool) (m : Move) (e : Event) (ms : List Move) (es : List Event) → act_at v m ≡ Makes e → map (act_at v) ms ≡ map Makes es
    → map (act_at v) (cond (mine || false) (m ∷ ms) ms) ≡ map Makes (cond mine (e ∷ es) es)
one-move v true m e ms es act rest = ap (λ (a : Act). a ∷ map (act_at v) ms) act ∙ ap (λ (acts : List Act). Makes e ∷ acts) rest
one-move v false m e ms es act rest = rest

-- a fail at the end is no move
no-move : (v : Factor → Option ℕ) (mine : Bool) (m : Move) (ms : List Move) (acts : List Act) → map (act_at v) ms ≡ acts → map (act_at v) (cond (mine && false) (m ∷ ms) ms) ≡ acts
no-move v true m ms acts rest = rest
no-move v false m ms acts rest = rest

plain-acts : (v : Factor → Option ℕ) (t : ℕ) (es : List Event) → map (act_at v) (filter (is_move t) (with_rules es [])) ≡ map Makes (work_of t es)
plain-acts v t [] = refl
plain-acts v t (event.Read u key ∷ es) =
    one-move v (u == t) (record { event = event.Read u key; rule = plain_rule }) (event.Read u key) (filter (is_move t) (with_rules es [])) (work_of t es) refl (plain-acts v t es)
plain-acts v t (event.Scan u bucket ∷ es) =
    one-move v (u == t) (record { event = event.Scan u bucket; rule = plain_rule }) (event.Scan u bucket) (filter (is_move t) (with_rules es [])) (work_of t es) refl (plain-acts v t es)
plain-acts v t (event.Insert u key value ∷ es) =
    one-move v (u == t) (record { event = event.Insert u key value; rule = plain_rule }) (event.Insert u key value) (filter (is_move t) (with_rules es [])) (work_of t es) refl (plain-acts v t es)
plain-acts v t (event.Update u key value ∷ es) =
    one-move v (u == t) (record { event = event.Update u key value; rule = plain_rule }) (event.Update u key value) (filter (is_move t) (with_rules es [])) (work_of t es) refl (plain-acts v t es)
plain-acts v t (event.Delete u key ∷ es) =
    one-move v (u == t) (record { event = event.Delete u key; rule = plain_rule }) (event.Delete u key) (filter (is_move t) (with_rules es [])) (work_of t es) refl (plain-acts v t es)
plain-acts v t (event.Fail u ∷ es) =
    no-move v (u == t) (record { event = event.Fail u; rule = plain_rule }) (filter (is_move t) (with_rules es [])) (map Makes (work_of t es)) (plain-acts v t es)
plain-acts v t (e ∷ es) = plain-acts v t es

and-true : (b c : Bool) → ((b && true) || c) ≡ (b || c)
and-true true c = refl
and-true false c = refl

plain-fails : (t : ℕ) (es : List Event) → has_fail t (with_rules es []) ≡ has_fail_step t es
plain-fails t [] = refl
plain-fails t (e ∷ es) =
    and-true (is_fail_of t e) (has_fail t (with_rules es [])) ∙ ap (λ (b : Bool). is_fail_of t e || b) (plain-fails t es)

pub plain-constant : PlainMovesAreConstant
plain-constant p t own =
    let acts : map (act_at (seen_by p.buckets own)) (filter (is_move t) (with_rules p.steps [])) ≡ map Makes (work_of t p.steps) = plain-acts (seen_by p.buckets own) t p.steps in
    let count : length (filter (is_move t) (with_rules p.steps [])) ≡ length (work_of t p.steps) =
    sym (length-map (filter (is_move t) (with_rules p.steps [])) (act_at (seen_by p.buckets own))) ∙ ap (λ (l : List Act). length l) acts
    ∙ length-map (work_of t p.steps) Makes in
    ap (λ (a : List Act). record { acts = a; count = length (filter (is_move t) (with_rules p.steps [])); fails = has_fail t (with_rules p.steps []) }) acts
    ∙ ap (λ (n : ℕ). record { acts = map Makes (work_of t p.steps); count = n; fails = has_fail t (with_rules p.steps []) }) count
    ∙ ap (λ (b : Bool). record { acts = map Makes (work_of t p.steps); count = length (work_of t p.steps); fails = b }) (plain-fails t p.steps)
