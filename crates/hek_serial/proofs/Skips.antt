-- The events between two events of a transaction write nothing for it, and are right for it.
use Rattle.std.proofs.Common.{◌≡◌, ℕ, zero, suc, ◌+◌, ◌<◌, ◌≤◌, false, List, [], ◌∷◌, ◌++◌, length, refl, ◌∙◌, ap, sym, subst, Some, None, take, arith, ⊎_elim}
use Rattle.std.proofs.lemmas.Bool.{cond-false, false≢true, cases_eq, cases_lt}
use Rattle.std.specs.Prelude.{slice_get, ◌==◌}
use Rattle.std.specs.List.{zip}
use Rattle.hek_rules.specs.declared.event.Level.{Level}
use Rattle.hek_rules.specs.declared.event.Event.{Event}
use Rattle.hek_rules.specs.declared.event.Event.TheVariants as event
use Rattle.hek_rules.specs.declared.reply.Reply.{Reply}
use Rattle.hek_rules.specs.declared.reply.Reply.TheVariants as reply
use Rattle.hek_rules.specs.declared.serial.Write.TheVariants.{Put, Remove}
use Rattle.hek_rules.specs.Serial.{lay_all, write_of, writes_of, is_of}
use Rattle.hek_serial.specs.Links.{is_event_of, comes_at}
use Rattle.hek_serial.specs.Replay.{IsRightFor, IsRightEntry}

write_none : (t : ℕ) (e : Event) (r : Reply) → is_of t e ≡ false → write_of t e r ≡ []
write_none t (event.Insert x key value) reply.Done h = cond-false (x == t) (Put key value ∷ []) [] h
write_none t (event.Update x key value) reply.Done h = cond-false (x == t) (Put key value ∷ []) [] h
write_none t (event.Delete x key) reply.Done h = cond-false (x == t) (Remove key ∷ []) [] h
write_none t e r h = refl

pub zip-event : (es : List Event) (rs : List Reply) (j : ℕ) (p : Event × Reply) → slice_get (zip es rs) j ≡ Some p → slice_get es j ≡ Some p.0
zip-event [] rs j p h = cc
zip-event (e ∷ es) [] j p h = cc
zip-event (e ∷ es) (r ∷ rs) zero p h = let same : (e, r) ≡ p = cc in ap (λ (q : Event × Reply). Some q.0) same
zip-event (e ∷ es) (r ∷ rs) (suc j) p h = zip-event es rs j p h

pub writes-between : (t : ℕ) (es : List Event) (rs : List Reply) (a n : ℕ) → a ≤ n → ((j : ℕ) → a ≤ j → j < n → comes_at t es j ≡ false) →
    writes_of t (take n (zip es rs)) ≡ writes_of t (take a (zip es rs))
writes-between t [] rs zero zero l h = refl
writes-between t [] rs zero (suc n) l h = refl
writes-between t [] rs (suc a) zero l h = refl
writes-between t [] rs (suc a) (suc n) l h = refl
writes-between t (e ∷ es) [] zero zero l h = refl
writes-between t (e ∷ es) [] zero (suc n) l h = refl
writes-between t (e ∷ es) [] (suc a) zero l h = refl
writes-between t (e ∷ es) [] (suc a) (suc n) l h = refl
writes-between t (e ∷ es) (r ∷ rs) zero zero l h = refl
writes-between t (e ∷ es) (r ∷ rs) zero (suc n) l h =
    ap (λ ws. ws ++ writes_of t (take n (zip es rs))) (write_none t e r (h 0 (omega arith) (omega arith)))
    ∙ writes-between t es rs zero n (omega arith) (λ j a b. h (suc j) (omega arith) (omega (arith, b)))
writes-between t (e ∷ es) (r ∷ rs) (suc a) zero l h = absurd (omega (arith, l))
writes-between t (e ∷ es) (r ∷ rs) (suc a) (suc n) l h =
    ap (λ ws. write_of t e r ++ ws) (writes-between t es rs a n (omega (arith, l)) (λ j b c. h (suc j) (omega (arith, b)) (omega (arith, c))))

pub right-between : (level : Level) (buckets t : ℕ) (rows : List (ℕ × ℕ)) (es : List Event) (rs : List Reply) (j : ℕ) → comes_at t es j ≡ false → IsRightFor level buckets t rows (zip es rs) j
right-between level buckets t rows es rs j h =
    elim (slice_get (zip es rs) j) as (λ o. slice_get (zip es rs) j ≡ o → IsRightEntry level buckets t (lay_all (writes_of t (take j (zip es rs))) rows) o) [
      | None ↦ λ at. tt
      | Some p ↦ λ at mine. absurd (false≢true (sym h ∙ ap (is_event_of t) (zip-event es rs j p at) ∙ mine))
    ] refl

above : (a b : ℕ) → b ≤ a → (a ≡ b → ⊥) → b + 1 ≤ a
above a b m n = omega (arith, m, n)

-- one more place, and those up to the next of the same transaction
pub right-on : (level : Level) (buckets t : ℕ) (rows : List (ℕ × ℕ)) (es : List Event) (rs : List Reply) (i n : ℕ) → ((j : ℕ) → j < i → IsRightFor level buckets t rows (zip es rs) j) →
    IsRightFor level buckets t rows (zip es rs) i → ((j : ℕ) → i + 1 ≤ j → j < n → comes_at t es j ≡ false) → (j : ℕ) → j < n → IsRightFor level buckets t rows (zip es rs) j
right-on level buckets t rows es rs i n before here between j l =
    ⊎_elim (λ (less : j < i). before j less)
    (λ (more : i ≤ j).
    ⊎_elim (λ same. subst (IsRightFor level buckets t rows (zip es rs)) (sym same) here)
    (λ other. right-between level buckets t rows es rs j (between j (above j i more other) l)) (cases_eq j i))
    (cases_lt j i)

-- n is the first place before `at` at which a reply to t isn't right, or the number of places
pub record IsWrongBefore (level : Level) (buckets t : ℕ) (rows : List (ℕ × ℕ)) (h : List (Event × Reply)) (at n : ℕ) : Type 0 where
  pub within : n ≤ length h
  pub early : n < length h → n < at
  pub right : (j : ℕ) → j < n → j < at → IsRightFor level buckets t rows h j
  pub wrong : n < length h → IsRightFor level buckets t rows h n → ⊥

pub wrong-none : (level : Level) (buckets t : ℕ) (rows : List (ℕ × ℕ)) (es : List Event) (rs : List Reply) (n : ℕ) → ((j : ℕ) → 0 ≤ j → j < n → comes_at t es j ≡ false) →
    IsWrongBefore level buckets t rows (zip es rs) n (length (zip es rs))
wrong-none level buckets t rows es rs n between =
    record {
      within = omega arith;
      early = λ l. absurd (omega (arith, l));
      right = λ j _ l. right-between level buckets t rows es rs j (between j (omega arith) l);
      wrong = λ l. absurd (omega (arith, l));
    }

-- the first wrong reply is at this place
pub wrong-here : (level : Level) (buckets t : ℕ) (rows : List (ℕ × ℕ)) (h : List (Event × Reply)) (i n w : ℕ) → IsWrongBefore level buckets t rows h i w → w ≡ length h → i < length h → i < n →
    (IsRightFor level buckets t rows h i → ⊥) → IsWrongBefore level buckets t rows h n i
wrong-here level buckets t rows h i n w before none l on bad =
    record { within = omega (arith, l); early = λ _. on; right = λ j a _. before.right j (omega (arith, a, l, none)) a; wrong = λ _. bad }

-- no wrong reply is at this place, or one was before it
pub wrong-on : (level : Level) (buckets t : ℕ) (rows : List (ℕ × ℕ)) (es : List Event) (rs : List Reply) (i n w : ℕ) → IsWrongBefore level buckets t rows (zip es rs) i w → i < n →
    (i < w → IsRightFor level buckets t rows (zip es rs) i) → ((j : ℕ) → i + 1 ≤ j → j < n → comes_at t es j ≡ false) → IsWrongBefore level buckets t rows (zip es rs) n w
wrong-on level buckets t rows es rs i n w before on here between =
    record {
      within = before.within;
      early = λ l. let e = before.early l in omega (arith, e, on);
      right = λ j a l.
          ⊎_elim (λ (less : j < i). before.right j a less)
          (λ (more : i ≤ j).
          ⊎_elim (λ same. subst (IsRightFor level buckets t rows (zip es rs)) (sym same) (here (subst (λ m. m < w) same a)))
          (λ other. right-between level buckets t rows es rs j (between j (above j i more other) l)) (cases_eq j i))
          (cases_lt j i);
      wrong = before.wrong;
    }
