-- Two runs that are judged alike have the same serial orders.
use Rattle.std.proofs.Common.{◌≡◌, ℕ, Bool, true, false, List, [], ◌∷◌, Option, Some, None, refl, ◌∙◌, ap, sym, subst, ⊎_elim}
use Rattle.std.proofs.lemmas.Bool.{cond_both, or_cases, or_left, or_right, eq-eqb}
use Rattle.std.specs.Prelude.{◌==◌, ◌↔◌, filter, slice_get, if◌then◌else◌, take}
use Rattle.hek_rules.specs.declared.event.Event.{Event}
use Rattle.hek_rules.specs.declared.event.Level.TheVariants.{Serializable}
use Rattle.hek_rules.specs.declared.reply.Reply.{Reply}
use Rattle.hek_rules.specs.declared.serial.Write.{Write}
use Rattle.hek_rules.specs.Faults.{put_all}
use Rattle.hek_rules.specs.Listing.{is_among}
use Rattle.hek_rules.specs.Recorded.{Recorded}
use Rattle.hek_rules.specs.Serial.{lay_all, writes_of, committed_in, AreRight}
use Rattle.hek_laws.proofs.Futures.Invariant.{order_in}
use Rattle.hek_serial.specs.Replay.{IsPlain, IsPlainEntry}
use Rattle.hek_serial.specs.SerialOrders.{by_end, comes_next, without, have_common, IsSerialFrom, IsSerialOrder, IsSerialByEnd, IsSerializability}
use Rattle.hek_serial.specs.declared.serializability.Serializability.{Serializability}
use Rattle.hek_serial.specs.declared.serializability.Serializability.TheVariants.{ByEndTime, InAnotherOrder, NotSerial}
use Rattle.hek_serial.proofs.SerialOrders.{next-among}
use Rattle.hek_similar.specs.Verdicts.{ended_in, judged_part, RecordsRun, JudgedAlike}
use Rattle.hek_similar.proofs.Ended.{names, drawn-names}
use Rattle.hek_similar.proofs.Judging.{writes-part, right-part}
use Rattle.hek_similar.proofs.Verdicts.{Orderly, orderly, alike-back, one-verdict}

-- ---- who is left at first
names-kept : (kept : ℕ → Bool) (xs : List (ℕ × ℕ)) → names (filter (λ (x : ℕ × ℕ). kept x.1) xs) ≡ filter kept (names xs)
names-kept kept [] = refl
names-kept kept (x ∷ xs) =
    let left : List (ℕ × ℕ) = filter (λ (z : ℕ × ℕ). kept z.1) xs in
    let rest : names left ≡ filter kept (names xs) = names-kept kept xs in
    by_test (kept x.1) x.1 left (filter kept (names xs)) rest
  where
    by_test : (b : Bool) (t : ℕ) (left : List (ℕ × ℕ)) (named : List ℕ) → names left ≡ named → names (if b then x ∷ left else left) ≡ (if b then x.1 ∷ named else named)
    by_test true t left named rest = ap (λ l. x.1 ∷ l) rest
    by_test false t left named rest = rest

-- the committed transactions of a run by end time are those in the order of their draws
by_end-run : (s : Recorded) → Orderly s → by_end s ≡ ended_in s.history
by_end-run s o =
    let did : ℕ → Bool = λ t. is_among (committed_in s.history) t in
    ap names o.order ∙ names-kept did (order_in s.history) ∙ ap (filter did) (drawn-names s.history)

-- each place of a run is plain
plain-run : (s : Recorded) → Orderly s → (i : ℕ) → IsPlain s.levels s.history i
plain-run s o i = at (slice_get s.history i) refl
  where
    at : (p : Option (Event × Reply)) → slice_get s.history i ≡ p → IsPlainEntry s.levels (take i s.history) p
    at None is = tt
    at (Some p) is = (o.declared i p.0 p.1 is, o.commits i p.0 p.1 is)

-- ---- one order, two histories
among-without : (left : List ℕ) (t u : ℕ) → is_among (without t left) u ≡ true → is_among left u ≡ true
among-without [] t u i = i
among-without (x ∷ xs) t u i =
    cond_both (x == t) xs (x ∷ without t xs) (λ l. is_among l u ≡ true → is_among (x ∷ xs) u ≡ true)
    (λ _ j. or_right (x == u) (is_among xs u) j)
    (λ _ j. ⊎_elim (λ here. or_left (x == u) (is_among xs u) here) (λ later. or_right (x == u) (is_among xs u) (among-without xs t u later)) (or_cases (x == u) (is_among (without t xs) u) j)) i

-- each of these transactions did the same in both
abbrev AreSame : List (Event × Reply) → List (Event × Reply) → List ℕ → Type 0
AreSame h g left = (t : ℕ) → is_among left t ≡ true → judged_part t h ≡ judged_part t g

same-writes : (h g : List (Event × Reply)) (left : List ℕ) → AreSame h g left → (t : ℕ) → is_among left t ≡ true → writes_of t h ≡ writes_of t g
same-writes h g left same t i = sym (writes-part t h) ∙ ap (writes_of t) (same t i) ∙ writes-part t g

same-next : (h g : List (Event × Reply)) (left : List ℕ) (t : ℕ) → AreSame h g left → writes_of t h ≡ writes_of t g → comes_next h left t ≡ comes_next g left t
same-next h g [] t same own = refl
same-next h g (u ∷ us) t same own =
    let first : writes_of u h ≡ writes_of u g = same-writes h g (u ∷ us) same u (or_left (u == u) (is_among us u) (eq-eqb u u refl)) in
    let rest : comes_next h us t ≡ comes_next g us t = same-next h g us t (λ x i. same x (or_right (u == x) (is_among us x) i)) own in
    λ i. if u == t then true else if have_common (first i) (own i) then false else rest i

follow-alike : (buckets : ℕ) (h g : List (Event × Reply)) (rows : List (ℕ × ℕ)) (left order : List ℕ) → AreSame h g left →
    IsSerialFrom buckets h rows left order → IsSerialFrom buckets g rows left order
follow-alike buckets h g rows left [] same follows = follows
follow-alike buckets h g rows left (t ∷ ts) same follows =
    let there : is_among left t ≡ true = next-among h left t follows.0 in
    let own : writes_of t h ≡ writes_of t g = same-writes h g left same t there in (
      sym (same-next h g left t same own) ∙ follows.0,
      (right-part buckets t rows g).1 (subst (AreRight Serializable buckets t rows) (same t there) ((right-part buckets t rows h).0 follows.1)),
      subst (λ (ws : List Write). IsSerialFrom buckets g (lay_all ws rows) (without t left) ts) own
          (follow-alike buckets h g (lay_all (writes_of t h) rows) (without t left) ts (λ u i. same u (among-without left t u i)) follows.2),
    )

-- ---- two runs
order-alike : (s u : Recorded) → RecordsRun s → RecordsRun u → s.buckets ≡ u.buckets → s.rows ≡ u.rows → JudgedAlike s.history u.history → (order : List ℕ) → IsSerialOrder s order → IsSerialOrder u order
order-alike s u rs ru buckets rows alike order is =
    let os : Orderly s = orderly s rs in
    let ou : Orderly u = orderly u ru in
    let left : by_end s ≡ by_end u = by_end-run s os ∙ alike.ended ∙ sym (by_end-run u ou) in
    let follows : IsSerialFrom s.buckets u.history (put_all s.rows []) (by_end s) order =
    follow-alike s.buckets s.history u.history (put_all s.rows []) (by_end s) order
    (λ t i. alike.parts t (subst (λ ts. is_among ts t ≡ true) (by_end-run s os) i)) is.follows in
    record {
      plain = plain-run u ou;
      follows = subst (λ (l : List ℕ). IsSerialFrom u.buckets u.history (put_all u.rows []) l order) left
          (subst (λ (rs : List (ℕ × ℕ)). IsSerialFrom u.buckets u.history (put_all rs []) (by_end s) order) rows
          (subst (λ (b : ℕ). IsSerialFrom b u.history (put_all s.rows []) (by_end s) order) buckets follows));
    }

abbrev SameVerdict : Recorded → Recorded → Type 0
SameVerdict s u = IsSerialByEnd s ↔ IsSerialByEnd u

verdict-alike : (s u : Recorded) → RecordsRun s → RecordsRun u → s.buckets ≡ u.buckets → s.rows ≡ u.rows → JudgedAlike s.history u.history →
    (v : Serializability) → IsSerializability s v → IsSerializability u v
verdict-alike s u rs ru buckets rows alike v is =
    let ends : SameVerdict s u = one-verdict s u rs ru buckets rows alike in
    let back : (order : List ℕ) → IsSerialOrder u order → IsSerialOrder s order = order-alike u s ru rs (sym buckets) (sym rows) (alike-back s.history u.history alike) in
    by_case v ends back is
  where
    by_case : (v : Serializability) → SameVerdict s u → ((order : List ℕ) → IsSerialOrder u order → IsSerialOrder s order) → IsSerializability s v → IsSerializability u v
    by_case ByEndTime ends back is = ends.0 is
    by_case InAnotherOrder ends back is = (λ e. is.0 (ends.1 e), (is.1.0, order-alike s u rs ru buckets rows alike is.1.0 is.1.1))
    by_case NotSerial ends back is = (λ e. is.0 (ends.1 e), λ order o. is.1 order (back order o))

pub verdicts-alike : (s u : Recorded) → RecordsRun s → RecordsRun u → s.buckets ≡ u.buckets → s.rows ≡ u.rows → JudgedAlike s.history u.history →
    (v : Serializability) → IsSerializability s v ↔ IsSerializability u v
verdicts-alike s u rs ru buckets rows alike v =
    (verdict-alike s u rs ru buckets rows alike v, verdict-alike u s ru rs (sym buckets) (sym rows) (alike-back s.history u.history alike) v)
