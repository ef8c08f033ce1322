-- Whose event comes next, and what its reply changes, by the transaction's work and place.
use Rattle.std.proofs.Common.{◌≡◌, ℕ, suc, ◌+◌, Bool, true, false, List, Option, Some, None, refl, ap, sym, subst, ◌∙◌, ◌⊎◌, inl, inr, add-one}
use Rattle.std.specs.Prelude.{if◌then◌else◌, option_and_then, option_map, slice_get, slice_set}
use Rattle.hek_rules.specs.declared.event.Event.{Event}
use Rattle.hek_rules.specs.declared.reply.Reply.{Reply}
use Rattle.hek_worker.specs.declared.entry.Entry.{Entry}
use Rattle.hek_permute.specs.declared.moves.Form.{Form}
use Rattle.hek_permute.specs.declared.play.Place.{Place}
use Rattle.hek_permute.specs.declared.play.Turn.{Turn}
use Rattle.hek_permute.specs.declared.play.Turn.TheVariants.{Goes, Asks}
use Rattle.hek_permute.specs.Moves.{Work}
use Rattle.hek_permute.specs.Plays.{Scene, Shown, after_own, answered, asks, both, come_to, due, event_by, may_go, next_by, next_of, passed, rests, seat, sends, sent, shown_to}

pub seat-of : (works : List Work) (h : List Entry) (places : List Place) (i : ℕ) (w : Work) (p : Place) → slice_get works i ≡ Some w → slice_get places i ≡ Some p
    → seat works h places i ≡ Some (shown_to w (i + 1) h, p)
seat-of works h places i w p work place =
    ap (λ (o : Option Work). both (option_map (λ v. shown_to v (i + 1) h) o) (slice_get places i)) work ∙ ap (λ (o : Option Place). both (Some (shown_to w (i + 1) h)) o) place

pub next-goes : (form : Form) (works : List Work) (mover : ℕ) (h : List Entry) (places : List Place) (turn : Turn) (i : ℕ) (w : Work) (p : Place) (t : ℕ) (e : Event) → turn ≡ Goes i
    → slice_get works i ≡ Some w → slice_get places i ≡ Some p → t ≡ i + 1 → e ≡ event_by t (shown_to w t h) (due form (shown_to w t h) p)
    → Some (t, e) ≡ next_by form works mover h places turn
next-goes form works mover h places turn i w p t e is work place who what =
    ap (λ (v : Event). Some (t, v)) what
    ∙ ap (λ (u : ℕ). Some (u, event_by u (shown_to w u h) (due form (shown_to w u h) p))) who
    ∙ sym (ap (option_map (next_of form i)) (seat-of works h places i w p work place))
    ∙ sym (ap (next_by form works mover h places) is)

-- the transaction at the place goes on, or is asked again
pub next-own : (form : Form) (works : List Work) (mover : ℕ) (h : List Entry) (places : List Place) (turn : Turn) (i : ℕ) (w : Work) (p : Place) (t : ℕ) (e : Event)
    → (turn ≡ Goes i) ⊎ ((but : Option ℕ) × (got_on : Bool) × (turn ≡ Asks i but got_on))
    → slice_get works i ≡ Some w → slice_get places i ≡ Some p → t ≡ i + 1 → e ≡ event_by t (shown_to w t h) (due form (shown_to w t h) p)
    → Some (t, e) ≡ next_by form works mover h places turn
next-own form works mover h places turn i w p t e (inl is) work place who what = next-goes form works mover h places turn i w p t e is work place who what
next-own form works mover h places turn i w p t e (inr is) work place who what =
    next-goes form works mover h places (Goes i) i w p t e refl work place who what ∙ sym (ap (next_by form works mover h places) is.2)

module _ (form : Form) (works : List Work) (h : List Entry) (places : List Place) (i : ℕ) (w : Work) (p : Place) (t : ℕ) (may : Bool) (work : slice_get works i ≡ Some w)
    (place : slice_get places i ≡ Some p) (who : t ≡ i + 1) (can : may ≡ may_go form (shown_to w t h) p.moves p.stage) where
  may-same : may_go form (shown_to w (i + 1) h) p.moves p.stage ≡ may
  may-same = ap (λ (u : ℕ). may_go form (shown_to w u h) p.moves p.stage) (sym who) ∙ sym can

  sends-by : sends form works h places (i + 1) ≡ Some (record { places = places; turn = if may then Goes i else asks (Some i) None places })
  sends-by =
      ap (λ (n : ℕ). sends form works h places n) (add-one i) ∙ ap (option_map (sent form i places)) (seat-of works h places i w p work place)
      ∙ ap (λ (b : Bool). Some (record { places = places; turn = if b then Goes i else asks (Some i) None places })) may-same

  pub sends-goes : may ≡ true → sends form works h places (i + 1) ≡ Some (record { places = places; turn = Goes i })
  sends-goes can_go = sends-by ∙ ap (λ (b : Bool). Some (record { places = places; turn = if b then Goes i else asks (Some i) None places })) can_go

  pub sends-asks : (turn : Turn) → may ≡ false → turn ≡ asks (Some i) None places → sends form works h places (i + 1) ≡ Some (record { places = places; turn = turn })
  sends-asks turn cannot is =
      sends-by ∙ ap (λ (b : Bool). Some (record { places = places; turn = if b then Goes i else asks (Some i) None places })) cannot
      ∙ ap (λ (z : Turn). Some (record { places = places; turn = z })) (sym is)

module _ (form : Form) (works : List Work) (old new front : List Entry) (places : List Place) (i : ℕ) (turn : Turn) (r : Reply) (w : Work) (p q : Place) (t : ℕ) (o : Option Place) (still : Bool)
    (work : slice_get works i ≡ Some w) (place : slice_get places i ≡ Some p) (who : t ≡ i + 1) (is : front ≡ old) (by : o ≡ answered form i (shown_to w t front) p r)
    (some : o ≡ Some q) (stays : still ≡ rests form (shown_to w t new) q) where
  answer : answered form i (shown_to w (i + 1) old) p r ≡ Some q
  answer =
      ap (λ (u : ℕ). answered form i (shown_to w u old) p r) (sym who) ∙ ap (λ (l : List Entry). answered form i (shown_to w t l) p r) (sym is) ∙ sym by ∙ some

  rests-same : rests form (shown_to w (i + 1) new) q ≡ still
  rests-same = ap (λ (u : ℕ). rests form (shown_to w u new) q) (sym who) ∙ sym stays

  own-after : after_own form works old new places i turn r
      ≡ Some (record { places = slice_set places i q; turn = if still then passed turn (slice_set places i q) else turn })
  own-after =
      ap (λ (a : Option (Shown × Place)). option_and_then (λ (x : Shown × Place). option_and_then (λ (y : Shown × Place). option_map (come_to form i places turn y.0) (answered form i x.0 x.1 r)) (seat works new places i)) a)
      (seat-of works old places i w p work place)
      ∙ ap (λ (a : Option (Shown × Place)). option_and_then (λ (y : Shown × Place). option_map (come_to form i places turn y.0) (answered form i (shown_to w (i + 1) old) p r)) a)
      (seat-of works new places i w p work place)
      ∙ ap (option_map (come_to form i places turn (shown_to w (i + 1) new))) answer
      ∙ ap (λ (b : Bool). Some (record { places = slice_set places i q; turn = if b then passed turn (slice_set places i q) else turn })) rests-same

  pub own-rests : (z : Turn) → still ≡ true → z ≡ passed turn (slice_set places i q) → after_own form works old new places i turn r ≡ Some (record { places = slice_set places i q; turn = z })
  own-rests z quiet end =
      own-after ∙ ap (λ (b : Bool). Some (record { places = slice_set places i q; turn = if b then passed turn (slice_set places i q) else turn })) quiet
      ∙ ap (λ (z : Turn). Some (record { places = slice_set places i q; turn = z })) (sym end)

  pub own-goes_on : still ≡ false → after_own form works old new places i turn r ≡ Some (record { places = slice_set places i q; turn = turn })
  own-goes_on busy = own-after ∙ ap (λ (b : Bool). Some (record { places = slice_set places i q; turn = if b then passed turn (slice_set places i q) else turn })) busy
