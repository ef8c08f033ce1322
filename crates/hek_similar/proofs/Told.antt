-- Histories that are told alike: they are judged alike, and go on alike.
use Rattle.std.proofs.Common.{◌≡◌, ℕ, false, List, [], ◌∷◌, ◌++◌, refl, ◌∙◌, ap, sym, ⊎_elim, append_assoc}
use Rattle.std.proofs.lemmas.Bool.{cases_Bool, or_from}
use Rattle.std.proofs.lemmas.List.{map-append}
use Rattle.std.proofs.lemmas.List.Elements.{filter-append}
use Rattle.std.specs.Prelude.{◌&&◌, ◌||◌, ◌==◌, filter, map}
use Rattle.hek_rules.specs.declared.event.Event.{Event}
use Rattle.hek_rules.specs.declared.event.Event.TheVariants as event
use Rattle.hek_rules.specs.declared.reply.Reply.{Reply}
use Rattle.hek_rules.specs.declared.reply.Reply.TheVariants as reply
use Rattle.hek_rules.specs.Listing.{is_among}
use Rattle.hek_rules.specs.Serial.{committed_by, committed_in, is_of}
use Rattle.hek_laws.proofs.Futures.PullBack.{is_among-append}
use Rattle.hek_similar.specs.Similar.{timeless_reply, timeless_step}
use Rattle.hek_similar.specs.Verdicts.{counts, judged_part, drawn_by, drawn_in}
use Rattle.hek_similar.specs.Laws.{ToldAlikeAreJudgedAlike, ToldAlikeGoOn}
use Rattle.hek_similar.proofs.Judging.{stays, plain-false, with-first, without-first}

-- ---- commits
commit-timeless : (e : Event) (r : Reply) → committed_by e (timeless_reply r) ≡ committed_by e r
commit-timeless (event.Commit x) (reply.Began time) = refl
commit-timeless (event.Commit x) (reply.Precommitted time) = refl
commit-timeless (event.Commit x) r = refl
commit-timeless e r = refl

uncounted-commit : (t : ℕ) (e : Event) (r : Reply) → (is_of t e && counts e (timeless_reply r)) ≡ false → is_among (committed_by e r) t ≡ false
uncounted-commit t (event.Commit x) reply.Committed off = or_from (x == t) false (plain-false (x == t) off) refl
uncounted-commit t e r off = refl

-- a transaction's part tells whether it committed
committed-part : (t : ℕ) (h : List (Event × Reply)) → is_among (committed_in (judged_part t h)) t ≡ is_among (committed_in h) t
committed-part t [] = refl
committed-part t (p ∷ ps) =
    let rest : is_among (committed_in (judged_part t ps)) t ≡ is_among (committed_in ps) t = committed-part t ps in
    let all : is_among (committed_by p.0 p.1 ++ committed_in ps) t ≡ (is_among (committed_by p.0 p.1) t || is_among (committed_in ps) t) = is_among-append (committed_by p.0 p.1) (committed_in ps) t in
    ⊎_elim
    (λ on. ap (λ h. is_among (committed_in h) t) (with-first t p ps on)
    ∙ ap (λ ts. is_among (ts ++ committed_in (judged_part t ps)) t) (commit-timeless p.0 p.1)
    ∙ is_among-append (committed_by p.0 p.1) (committed_in (judged_part t ps)) t
    ∙ ap (λ b. is_among (committed_by p.0 p.1) t || b) rest ∙ sym all)
    (λ off. ap (λ h. is_among (committed_in h) t) (without-first t p ps off) ∙ rest
    ∙ sym (all ∙ ap (λ b. b || is_among (committed_in ps) t) (uncounted-commit t p.0 p.1 off)))
    (cases_Bool (stays t p))

pub told-judged : ToldAlikeAreJudgedAlike
told-judged h g told =
    let same : (t : ℕ) → is_among (committed_in h) t ≡ is_among (committed_in g) t
    = λ t. sym (committed-part t h) ∙ ap (λ part. is_among (committed_in part) t) (told.parts t) ∙ committed-part t g in
    record { ended = λ i. filter (λ t. same t i) (told.drawn i); parts = λ t _. told.parts t }

-- ---- longer histories
pub draw-timeless : (e : Event) (r : Reply) → drawn_by e (timeless_reply r) ≡ drawn_by e r
draw-timeless (event.Precommit x) (reply.Began time) = refl
draw-timeless (event.Precommit x) (reply.Precommitted time) = refl
draw-timeless (event.Precommit x) r = refl
draw-timeless e r = refl

drawn-timeless : (h : List (Event × Reply)) → drawn_in (map timeless_step h) ≡ drawn_in h
drawn-timeless [] = refl
drawn-timeless (p ∷ ps) = ap (λ ts. ts ++ drawn_in (map timeless_step ps)) (draw-timeless p.0 p.1) ∙ ap (λ ts. drawn_by p.0 p.1 ++ ts) (drawn-timeless ps)

pub drawn-append : (h g : List (Event × Reply)) → drawn_in (h ++ g) ≡ drawn_in h ++ drawn_in g
drawn-append [] g = refl
drawn-append (p ∷ ps) g = ap (λ ts. drawn_by p.0 p.1 ++ ts) (drawn-append ps g) ∙ sym (append_assoc (drawn_by p.0 p.1) (drawn_in ps) (drawn_in g))

pub part-append : (t : ℕ) (h g : List (Event × Reply)) → judged_part t (h ++ g) ≡ judged_part t h ++ judged_part t g
part-append t h g =
    ap (filter (λ (p : Event × Reply). is_of t p.0 && counts p.0 p.1)) (map-append timeless_step h g)
    ∙ filter-append (λ (p : Event × Reply). is_of t p.0 && counts p.0 p.1) (map timeless_step h) (map timeless_step g)

pub told-go_on : ToldAlikeGoOn
told-go_on h g more others told same = record {
  drawn = drawn-append h more
      ∙ ap (λ ts. ts ++ drawn_in more) told.drawn
      ∙ ap (λ ts. drawn_in g ++ ts) (sym (drawn-timeless more) ∙ ap drawn_in same ∙ drawn-timeless others)
      ∙ sym (drawn-append g others);
  parts = λ t. part-append t h more
      ∙ ap (λ ps. ps ++ judged_part t more) (told.parts t)
      ∙ ap (λ ps. judged_part t g ++ ps) (ap (filter (λ (p : Event × Reply). is_of t p.0 && counts p.0 p.1)) same)
      ∙ sym (part-append t g others);
}
