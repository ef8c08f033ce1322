-- With the rule table's replies a scene leads one way.
use Rattle.std.proofs.Common.{◌≡◌, ℕ, List, [], ◌∷◌, ◌++◌, append_assoc, refl, ap, sym, subst, ◌∙◌, Option, Some, None, map}
use Rattle.std.proofs.lemmas.List.{append-nil}
use Rattle.hek_rules.specs.declared.event.Event.{Event}
use Rattle.hek_rules.specs.declared.reply.Reply.{Reply}
use Rattle.hek_rules.specs.Run.{next as next_world, reply as reply_to, transcript}
use Rattle.hek_rules.specs.World.{World}
use Rattle.hek_worker.specs.declared.entry.Entry.{Entry}
use Rattle.hek_worker.specs.History.{history_events, replies_in}
use Rattle.hek_permute.specs.declared.moves.Form.{Form}
use Rattle.hek_permute.specs.Moves.{Work}
use Rattle.hek_permute.specs.Plays.{Scene, next, after, Reaches}
use Rattle.hek_permute.proofs.RunReplies.{told}

none_some : {X : Type 0} (o : Option X) (x : X) → o ≡ None → o ≡ Some x → ⊥
none_some None x n s = absurd (cc)
none_some (Some y) x n s = absurd (cc)

pub same_some : {X : Type 0} (o : Option X) (x y : X) → o ≡ Some x → o ≡ Some y → x ≡ y
same_some o x y h g = cc

heads : {X : Type 0} (x y : X) (xs ys : List X) → x ∷ xs ≡ y ∷ ys → (x ≡ y) × (xs ≡ ys)
heads x y xs ys e = (cc, cc)

same_entry : (x y : Entry) → ◌≡◌ {A = ℕ × Event} (x.worker, x.event) (y.worker, y.event) → x.reply ≡ y.reply → x ≡ y
same_entry x y e r =
    let who : x.worker ≡ y.worker = ap (λ (z : ℕ × Event). z.0) e in
    let what : x.event ≡ y.event = ap (λ (z : ℕ × Event). z.1) e in
    ap (λ (t : ℕ). record { worker = t; event = x.event; reply = x.reply }) who
    ∙ ap (λ (v : Event). record { worker = y.worker; event = v; reply = x.reply }) what
    ∙ ap (λ (q : Reply). record { worker = y.worker; event = y.event; reply = q }) r

pub one_way : (form : Form) (works : List Work) (t : ℕ) (w : World) (k : List Entry) (s z y : Scene) (xs ys : List Entry) → Reaches form works t k s xs z → Reaches form works t k s ys y
    → next form works t (k ++ xs) z ≡ None → next form works t (k ++ ys) y ≡ None → replies_in xs ≡ told w (history_events xs) → replies_in ys ≡ told w (history_events ys)
    → (xs ≡ ys) × (z ≡ y)
one_way form works t w k s z y [] [] h g e f a b = (refl, sym h ∙ g)
one_way form works t w k s z y [] (v ∷ ys) h g e f a b =
    let none : next form works t k s ≡ None = subst (λ (l : List Entry). next form works t l s ≡ None) (append-nil k) (subst (λ (q : Scene). next form works t (k ++ []) q ≡ None) (sym h) e) in
    absurd (none_some (next form works t k s) (v.worker, v.event) none g.0)
one_way form works t w k s z y (u ∷ xs) [] h g e f a b =
    let none : next form works t k s ≡ None = subst (λ (l : List Entry). next form works t l s ≡ None) (append-nil k) (subst (λ (q : Scene). next form works t (k ++ []) q ≡ None) (sym g) f) in
    absurd (none_some (next form works t k s) (u.worker, u.event) none h.0)
one_way form works t w k s z y (u ∷ xs) (v ∷ ys) h g e f a b =
    let pair : ◌≡◌ {A = ℕ × Event} (u.worker, u.event) (v.worker, v.event) = same_some (next form works t k s) (u.worker, u.event) (v.worker, v.event) h.0 g.0 in
    let what : u.event ≡ v.event = ap (λ (q : ℕ × Event). q.1) pair in
    let p : (u.reply ≡ reply_to w u.event) × (replies_in xs ≡ told (next_world w u.event) (history_events xs)) =
    heads u.reply (reply_to w u.event) (replies_in xs) (told (next_world w u.event) (history_events xs)) a in
    let q : (v.reply ≡ reply_to w v.event) × (replies_in ys ≡ told (next_world w v.event) (history_events ys)) =
    heads v.reply (reply_to w v.event) (replies_in ys) (told (next_world w v.event) (history_events ys)) b in
    let answer : u.reply ≡ v.reply = p.0 ∙ ap (reply_to w) what ∙ sym q.0 in
    let entry : u ≡ v = same_entry u v pair answer in
    let here : after form works k (k ++ v ∷ []) s v.reply ≡ Some h.1 = subst (λ (x : Entry). after form works k (k ++ x ∷ []) s x.reply ≡ Some h.1) entry h.2 in
    let mid : g.1 ≡ h.1 = same_some (after form works k (k ++ v ∷ []) s v.reply) g.1 h.1 g.2 here in
    let mine : Reaches form works t (k ++ v ∷ []) h.1 xs z = subst (λ (x : Entry). Reaches form works t (k ++ x ∷ []) h.1 xs z) entry h.3 in
    let other : Reaches form works t (k ++ v ∷ []) h.1 ys y = subst (λ (m : Scene). Reaches form works t (k ++ v ∷ []) m ys y) mid g.3 in
    let mine_over : next form works t ((k ++ v ∷ []) ++ xs) z ≡ None =
    subst (λ (l : List Entry). next form works t l z ≡ None) (sym (append_assoc k (v ∷ []) xs)) (subst (λ (x : Entry). next form works t (k ++ x ∷ xs) z ≡ None) entry e) in
    let other_over : next form works t ((k ++ v ∷ []) ++ ys) y ≡ None = subst (λ (l : List Entry). next form works t l y ≡ None) (sym (append_assoc k (v ∷ []) ys)) f in
    let rest : (xs ≡ ys) × (z ≡ y) =
    one_way form works t (next_world w u.event) (k ++ v ∷ []) h.1 z y xs ys mine other mine_over other_over p.1
    (subst (λ (k : Event). replies_in ys ≡ told (next_world w k) (history_events ys)) (sym what) q.1) in
    (ap (λ (x : Entry). x ∷ xs) entry ∙ ap (λ (l : List Entry). v ∷ l) rest.0, rest.1)
