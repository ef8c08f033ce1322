-- The replies of a run, and those of its parts.
use Rattle.std.proofs.Common.{◌≡◌, ℕ, List, [], ◌∷◌, ◌++◌, length, refl, ap, sym, ◌∙◌, map, arith}
use Rattle.std.proofs.lemmas.List.{map-append, append_cancel_left, length-map}
use Rattle.hek_rules.specs.declared.event.Event.{Event}
use Rattle.hek_rules.specs.declared.reply.Reply.{Reply}
use Rattle.hek_rules.specs.World.{World}
use Rattle.hek_rules.specs.Run.{next, reply as reply_to, run, transcript}
use Rattle.hek_worker.specs.declared.entry.Entry.{Entry}
use Rattle.hek_worker.specs.History.{history_events, replies_in}

pub events-append : (xs ys : List Entry) → history_events (xs ++ ys) ≡ history_events xs ++ history_events ys
events-append xs ys = map-append (λ (x : Entry). x.event) xs ys

pub replies-append : (xs ys : List Entry) → replies_in (xs ++ ys) ≡ replies_in xs ++ replies_in ys
replies-append xs ys = map-append (λ (x : Entry). x.reply) xs ys

-- the replies of the rule table
abbrev pub told : World → List Event → List Reply
told w es = map (λ (x : Event × Reply). x.1) (transcript w es)

pub told-on : (w : World) (es fs : List Event) → told w (es ++ fs) ≡ told w es ++ told (run w es) fs
told-on w [] fs = refl
told-on w (e ∷ es) fs = ap (λ l. reply_to w e ∷ l) (told-on (next w e) es fs)

-- the replies of a history's end are those after its beginning
pub told-after : (w : World) (h now more : List Entry) → now ≡ h ++ more → replies_in h ≡ told w (history_events h) → replies_in now ≡ told w (history_events now)
    → replies_in more ≡ told (run w (history_events h)) (history_events more)
told-after w h now more is before all =
    append_cancel_left (replies_in h) (replies_in more) (told (run w (history_events h)) (history_events more))
    (sym (replies-append h more) ∙ ap replies_in (sym is) ∙ all ∙ ap (λ l. told w (history_events l)) is ∙ ap (told w) (events-append h more)
    ∙ told-on w (history_events h) (history_events more) ∙ ap (λ l. l ++ told (run w (history_events h)) (history_events more)) (sym before))

left-same : {X : Type 0} (xs ys us vs : List X) → length xs ≡ length us → xs ++ ys ≡ us ++ vs → xs ≡ us
left-same [] ys [] vs l e = refl
left-same [] ys (u ∷ us) vs l e = absurd (omega arith)
left-same (x ∷ xs) ys [] vs l e = absurd (omega arith)
left-same (x ∷ xs) ys (u ∷ us) vs l e =
    let head : x ≡ u = cc in
    let tail : xs ++ ys ≡ us ++ vs = cc in
    let rest : xs ≡ us = left-same xs ys us vs (omega arith) tail in
    cc

told-length : (w : World) (es : List Event) → length (told w es) ≡ length es
told-length w [] = refl
told-length w (e ∷ es) = omega (arith, told-length (next w e) es)

-- the replies of a history's beginning
pub told-before : (w : World) (h more : List Entry) → replies_in (h ++ more) ≡ told w (history_events (h ++ more)) → replies_in h ≡ told w (history_events h)
told-before w h more e =
    let a : length (replies_in h) ≡ length h = length-map h (λ (x : Entry). x.reply) in
    let b : length (told w (history_events h)) ≡ length (history_events h) = told-length w (history_events h) in
    let c : length (history_events h) ≡ length h = length-map h (λ (x : Entry). x.event) in
    left-same (replies_in h) (replies_in more) (told w (history_events h)) (told (run w (history_events h)) (history_events more)) (a ∙ sym c ∙ sym b)
    (sym (replies-append h more) ∙ e ∙ ap (told w) (events-append h more) ∙ told-on w (history_events h) (history_events more))
