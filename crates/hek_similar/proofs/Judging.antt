-- What a transaction writes, and whether its replies are right, is told by its part that counts.
use Rattle.std.proofs.Common.{◌≡◌, ℕ, Bool, true, false, List, [], ◌∷◌, ◌++◌, Option, Some, None, refl, ◌∙◌, ap, sym, ⊎_elim, subst}
use Rattle.std.proofs.lemmas.Bool.{cases_Bool, cond-true, cond-false, false≢true}
use Rattle.std.specs.Prelude.{◌↔◌, not, ◌&&◌, ◌==◌, is_some, if◌then◌else◌}
use Rattle.hek_rules.specs.declared.event.Level.TheVariants.{Serializable}
use Rattle.hek_rules.specs.declared.event.Event.{Event}
use Rattle.hek_rules.specs.declared.event.Event.TheVariants as event
use Rattle.hek_rules.specs.declared.reply.Reply.{Reply}
use Rattle.hek_rules.specs.declared.reply.Reply.TheVariants as reply
use Rattle.hek_rules.specs.declared.serial.Write.{Write}
use Rattle.hek_rules.specs.Listing.{value_of}
use Rattle.hek_rules.specs.Serial.{lay_all, write_of, writes_of, found_in, serial_reply, is_of, IsSerial, AreRight}
use Rattle.hek_similar.specs.Similar.{timeless_reply, timeless_step}
use Rattle.hek_similar.specs.Verdicts.{is_refused, counts, judged_part}

-- ---- replies without times
abbrev is_timed : Reply → Bool
is_timed (reply.Began time) = true
is_timed (reply.Precommitted time) = true
is_timed r = false

-- a reply, if there is one, has no time
abbrev IsUntimed : Option Reply → Type 0
IsUntimed None = Unit {0}
IsUntimed (Some x) = is_timed x ≡ false

untimed-found : (o : Option ℕ) → is_timed (found_in o) ≡ false
untimed-found None = refl
untimed-found (Some value) = refl

untimed-either : (b : Bool) (x y : Reply) → is_timed x ≡ false → is_timed y ≡ false → is_timed (if b then x else y) ≡ false
untimed-either true x y h k = h
untimed-either false x y h k = k

untimed-serial : (buckets : ℕ) (rows : List (ℕ × ℕ)) (e : Event) → IsUntimed (serial_reply buckets rows e)
untimed-serial buckets rows (event.Read t key) = untimed-found (value_of rows key)
untimed-serial buckets rows (event.Scan t bucket) = refl
untimed-serial buckets rows (event.Insert t key value) = untimed-either (is_some (value_of rows key)) reply.Exists reply.Done refl refl
untimed-serial buckets rows (event.Update t key value) = untimed-either (is_some (value_of rows key)) reply.Done reply.Absent refl refl
untimed-serial buckets rows (event.Delete t key) = untimed-either (is_some (value_of rows key)) reply.Done reply.Absent refl refl
untimed-serial buckets rows e = tt

unjudged-right : (r : Reply) → IsSerial None r
unjudged-right (reply.Refused why) = tt
unjudged-right r = tt

timed-wrong : (x r : Reply) → is_timed x ≡ false → is_timed r ≡ true → r ≡ x → ⊥
timed-wrong x r off on same = false≢true (sym off ∙ ap is_timed (sym same) ∙ on)

-- a reply is the serial one exactly if it is so without its time
serial-timeless : (o : Option Reply) (r : Reply) → IsUntimed o → IsSerial o r ↔ IsSerial o (timeless_reply r)
serial-timeless None r off = ((λ _. unjudged-right (timeless_reply r)), (λ _. unjudged-right r))
serial-timeless (Some x) (reply.Began time) off = ((λ h. absurd (timed-wrong x _ off refl h)), (λ h. absurd (timed-wrong x _ off refl h)))
serial-timeless (Some x) (reply.Precommitted time) off = ((λ h. absurd (timed-wrong x _ off refl h)), (λ h. absurd (timed-wrong x _ off refl h)))
serial-timeless (Some x) r off = ((λ h. h), (λ h. h))

write-timeless : (t : ℕ) (e : Event) (r : Reply) → write_of t e (timeless_reply r) ≡ write_of t e r
write-timeless t (event.Insert x key value) (reply.Began time) = refl
write-timeless t (event.Insert x key value) (reply.Precommitted time) = refl
write-timeless t (event.Insert x key value) r = refl
write-timeless t (event.Update x key value) (reply.Began time) = refl
write-timeless t (event.Update x key value) (reply.Precommitted time) = refl
write-timeless t (event.Update x key value) r = refl
write-timeless t (event.Delete x key) (reply.Began time) = refl
write-timeless t (event.Delete x key) (reply.Precommitted time) = refl
write-timeless t (event.Delete x key) r = refl
write-timeless t e r = refl

-- ---- steps that don't count
pub plain-false : (b : Bool) → (b && true) ≡ false → b ≡ false
plain-false true e = e
plain-false false e = refl

uncounted-write : (t : ℕ) (e : Event) (r : Reply) → (is_of t e && counts e (timeless_reply r)) ≡ false → write_of t e r ≡ []
uncounted-write t (event.Insert x key value) reply.Done off = rw (plain-false (x == t) off) refl
uncounted-write t (event.Update x key value) reply.Done off = rw (plain-false (x == t) off) refl
uncounted-write t (event.Delete x key) reply.Done off = rw (plain-false (x == t) off) refl
uncounted-write t e r off = refl

refused-right : (o : Option Reply) (r : Reply) → is_refused (timeless_reply r) ≡ true → IsSerial o r
refused-right o (reply.Refused why) y = tt
refused-right o r y = absurd (false≢true y)

own-refused : (own refused : Bool) → (own && not refused) ≡ false → own ≡ true → refused ≡ true
own-refused own true off on = refl
own-refused own false off on = absurd (false≢true (sym (plain-false own off) ∙ on))

uncounted-right : (buckets t : ℕ) (rows : List (ℕ × ℕ)) (e : Event) (r : Reply) → (is_of t e && counts e (timeless_reply r)) ≡ false → is_of t e ≡ true → IsSerial (serial_reply buckets rows e) r
uncounted-right buckets t rows (event.Read x key) r off on = refused-right (serial_reply buckets rows (event.Read x key)) r (own-refused (x == t) (is_refused (timeless_reply r)) off on)
uncounted-right buckets t rows (event.Scan x bucket) r off on = refused-right (serial_reply buckets rows (event.Scan x bucket)) r (own-refused (x == t) (is_refused (timeless_reply r)) off on)
uncounted-right buckets t rows (event.Insert x key value) r off on = refused-right (serial_reply buckets rows (event.Insert x key value)) r (own-refused (x == t) (is_refused (timeless_reply r)) off on)
uncounted-right buckets t rows (event.Update x key value) r off on = refused-right (serial_reply buckets rows (event.Update x key value)) r (own-refused (x == t) (is_refused (timeless_reply r)) off on)
uncounted-right buckets t rows (event.Delete x key) r off on = refused-right (serial_reply buckets rows (event.Delete x key)) r (own-refused (x == t) (is_refused (timeless_reply r)) off on)
uncounted-right buckets t rows e r off on = unjudged-right r

-- ---- whole histories
-- whether a step is in the part of t
abbrev pub stays : ℕ → Event × Reply → Bool
stays t p = is_of t p.0 && counts p.0 (timeless_reply p.1)

pub with-first : (t : ℕ) (p : Event × Reply) (ps : List (Event × Reply)) → stays t p ≡ true → judged_part t (p ∷ ps) ≡ timeless_step p ∷ judged_part t ps
with-first t p ps on = cond-true (stays t p) (timeless_step p ∷ judged_part t ps) (judged_part t ps) on

pub without-first : (t : ℕ) (p : Event × Reply) (ps : List (Event × Reply)) → stays t p ≡ false → judged_part t (p ∷ ps) ≡ judged_part t ps
without-first t p ps off = cond-false (stays t p) (timeless_step p ∷ judged_part t ps) (judged_part t ps) off

pub writes-part : (t : ℕ) (h : List (Event × Reply)) → writes_of t (judged_part t h) ≡ writes_of t h
writes-part t [] = refl
writes-part t (p ∷ ps) =
    ⊎_elim
    (λ on. ap (writes_of t) (with-first t p ps on) ∙ ap (λ ws. ws ++ writes_of t (judged_part t ps)) (write-timeless t p.0 p.1) ∙ ap (λ ws. write_of t p.0 p.1 ++ ws) (writes-part t ps))
    (λ off. ap (writes_of t) (without-first t p ps off) ∙ writes-part t ps ∙ ap (λ ws. ws ++ writes_of t ps) (sym (uncounted-write t p.0 p.1 off)))
    (cases_Bool (stays t p))

-- the replies to t are right in the history exactly if they are so in its part
pub right-part : (buckets t : ℕ) (rows : List (ℕ × ℕ)) (h : List (Event × Reply)) → AreRight Serializable buckets t rows h ↔ AreRight Serializable buckets t rows (judged_part t h)
right-part buckets t rows [] = ((λ _. tt), (λ _. tt))
right-part buckets t rows (p ∷ ps) =
    let Right : List Write → List (Event × Reply) → Type 0 = λ ws h. AreRight Serializable buckets t (lay_all ws rows) h in
    let rest : Right (write_of t p.0 p.1) ps ↔ Right (write_of t p.0 p.1) (judged_part t ps) = right-part buckets t (lay_all (write_of t p.0 p.1) rows) ps in
    let this : IsSerial (serial_reply buckets rows p.0) p.1 ↔ IsSerial (serial_reply buckets rows p.0) (timeless_reply p.1) = serial-timeless (serial_reply buckets rows p.0) p.1 (untimed-serial buckets rows p.0) in
    ⊎_elim
    (λ on. subst (λ h. AreRight Serializable buckets t rows (p ∷ ps) ↔ AreRight Serializable buckets t rows h) (sym (with-first t p ps on)) (
      (λ right. ((λ mine. this.0 (right.0 mine)), subst (λ ws. Right ws (judged_part t ps)) (sym (write-timeless t p.0 p.1)) (rest.0 right.1))),
      (λ right. ((λ mine. this.1 (right.0 mine)), rest.1 (subst (λ ws. Right ws (judged_part t ps)) (write-timeless t p.0 p.1) right.1))),
    ))
    (λ off. subst (λ h. AreRight Serializable buckets t rows (p ∷ ps) ↔ AreRight Serializable buckets t rows h) (sym (without-first t p ps off)) (
      (λ right. subst (λ ws. Right ws (judged_part t ps)) (uncounted-write t p.0 p.1 off) (rest.0 right.1)),
      (λ right. (uncounted-right buckets t rows p.0 p.1 off, rest.1 (subst (λ ws. Right ws (judged_part t ps)) (sym (uncounted-write t p.0 p.1 off)) right))),
    ))
    (cases_Bool (stays t p))
