-- Plays, event by event.
use Rattle.std.proofs.Common.{◌≡◌, ℕ, suc, zero, ◌+◌, ◌<◌, Bool, true, false, List, [], ◌∷◌, ◌++◌, length, refl, ap, sym, subst, ◌∙◌, inl, inr, arith, Option, Some, None, append_assoc, map, reverse, take, get_or, add-one}
use Rattle.std.specs.Prelude.{slice_get}
use Rattle.std.proofs.lemmas.List.{append-nil, reverse-append}
use Rattle.std.proofs.Math.Seq.{take-append_seam, take-suc}
use Rattle.hek_rules.specs.declared.event.Event.{Event}
use Rattle.hek_rules.specs.declared.reply.Reply.{Reply}
use Rattle.hek_rules.specs.Run.{next as next_world, reply as reply_to, transcript}
use Rattle.hek_rules.specs.World.{World}
use Rattle.hek_worker.specs.declared.entry.Entry.{Entry}
use Rattle.hek_worker.specs.History.{history_events, replies_in}
use Rattle.hek_permute.specs.declared.moves.Form.{Form}
use Rattle.hek_permute.specs.declared.play.Place.{Place}
use Rattle.hek_permute.specs.declared.play.Turn.{Turn}
use Rattle.hek_permute.specs.declared.play.Turn.TheVariants.{Rests}
use Rattle.hek_permute.specs.Moves.{Work}
use Rattle.hek_permute.specs.Plays.{Scene, next, after, comes, Reaches, HasMoved, Plays}

-- one more event
pub reach_more : (form : Form) (works : List Work) (t : ℕ) (k : List Entry) (s m z : Scene) (xs : List Entry) (x : Entry) → Reaches form works t k s xs m
    → next form works t (k ++ xs) m ≡ Some (x.worker, x.event) → after form works (k ++ xs) ((k ++ xs) ++ x ∷ []) m x.reply ≡ Some z → Reaches form works t k s (xs ++ x ∷ []) z
reach_more form works t k s m z [] x h n a =
    let told : next form works t k m ≡ Some (x.worker, x.event) = subst (λ (l : List Entry). next form works t l m ≡ Some (x.worker, x.event)) (append-nil k) n in
    let led : after form works k (k ++ x ∷ []) m x.reply ≡ Some z = subst (λ (l : List Entry). after form works l (l ++ x ∷ []) m x.reply ≡ Some z) (append-nil k) a in
    subst (λ (q : Scene). Reaches form works t k q (x ∷ []) z) (sym h) (told, z, led, refl)
reach_more form works t k s m z (y ∷ ys) x h n a =
    let told : next form works t ((k ++ y ∷ []) ++ ys) m ≡ Some (x.worker, x.event) =
    subst (λ (l : List Entry). next form works t l m ≡ Some (x.worker, x.event)) (sym (append_assoc k (y ∷ []) ys)) n in
    let led : after form works ((k ++ y ∷ []) ++ ys) (((k ++ y ∷ []) ++ ys) ++ x ∷ []) m x.reply ≡ Some z =
    subst (λ (l : List Entry). after form works l (l ++ x ∷ []) m x.reply ≡ Some z) (sym (append_assoc k (y ∷ []) ys)) a in
    (h.0, h.1, h.2, reach_more form works t (k ++ y ∷ []) h.1 m z ys x h.3 told led)

-- a move under way: what it has set off, and the scene then
pub record IsUnderWay (form : Form) (works : List Work) (t : ℕ) (was now : List Place) (turn : Turn) (h k : List Entry) : Type 0 where
  pub more : List Entry
  pub grown : k ≡ h ++ more
  pub first : Scene
  pub sent : comes form works h was t ≡ Some first
  pub way : Reaches form works t h first more (record { places = now; turn = turn })

pub under_way-first : (form : Form) (works : List Work) (t : ℕ) (was now : List Place) (turn : Turn) (h : List Entry)
    → comes form works h was t ≡ Some (record { places = now; turn = turn }) → IsUnderWay form works t was now turn h h
under_way-first form works t was now turn h e = record { more = []; grown = sym (append-nil h); first = record { places = now; turn = turn }; sent = e; way = refl }

pub under_way-more : (form : Form) (works : List Work) (t : ℕ) (was now later : List Place) (turn next_turn : Turn) (h k new : List Entry) (x : Entry) → IsUnderWay form works t was now turn h k
    → next form works t k (record { places = now; turn = turn }) ≡ Some (x.worker, x.event)
    → after form works (take (length k) new) new (record { places = now; turn = turn }) x.reply ≡ Some (record { places = later; turn = next_turn })
    → new ≡ k ++ x ∷ [] → IsUnderWay form works t was later next_turn h new
under_way-more form works t was now later turn next_turn h k new x u n a e =
    let front : take (length k) new ≡ k = ap (take (length k)) e ∙ take-append_seam k (x ∷ []) in
    let told : next form works t (h ++ u.more) (record { places = now; turn = turn }) ≡ Some (x.worker, x.event) =
    subst (λ (l : List Entry). next form works t l (record { places = now; turn = turn }) ≡ Some (x.worker, x.event)) u.grown n in
    let led : after form works k (k ++ x ∷ []) (record { places = now; turn = turn }) x.reply ≡ Some (record { places = later; turn = next_turn }) =
    subst (λ (l : List Entry). after form works k l (record { places = now; turn = turn }) x.reply ≡ Some (record { places = later; turn = next_turn })) e
    (subst (λ (l : List Entry). after form works l new (record { places = now; turn = turn }) x.reply ≡ Some (record { places = later; turn = next_turn })) front a) in
    let on : after form works (h ++ u.more) ((h ++ u.more) ++ x ∷ []) (record { places = now; turn = turn }) x.reply ≡ Some (record { places = later; turn = next_turn }) =
    subst (λ (l : List Entry). after form works l (l ++ x ∷ []) (record { places = now; turn = turn }) x.reply ≡ Some (record { places = later; turn = next_turn })) u.grown led in
    record {
      more = u.more ++ x ∷ [];
      grown = e ∙ ap (λ (l : List Entry). l ++ x ∷ []) u.grown ∙ append_assoc h u.more (x ∷ []);
      first = u.first;
      sent = u.sent;
      way = reach_more form works t h u.first (record { places = now; turn = turn }) (record { places = later; turn = next_turn }) u.more x u.way told on;
    }

pub back_more : (xs : List ℕ) (i d : ℕ) → i < length xs → reverse (take (i + 1) xs) ≡ get_or xs i d ∷ reverse (take i xs)
back_more xs i d h = ap (λ (n : ℕ). reverse (take n xs)) (add-one i) ∙ ap reverse (take-suc xs i d h) ∙ reverse-append (take i xs) (get_or xs i d ∷ [])

pub got : {X : Type 0} (xs : List X) (k : ℕ) (x : X) → k < length xs → x ≡ get_or xs k x → slice_get xs k ≡ Some x
got [] k x h e = absurd (omega arith)
got (y ∷ ys) zero x h e = ap (λ (z : _). Some z) (sym e)
got (y ∷ ys) (suc k) x h e = got ys k x (omega arith) e

-- one more move
pub plays_on : (form : Form) (works : List Work) (t : ℕ) (past : List ℕ) (was now : List Place) (h k : List Entry) → Plays form works past was h
    → HasMoved form works t was h now k → Plays form works (t ∷ past) now k
plays_on form works t past was now h k so m = (was, h, m.more, so, m.set_off, m.grown)
