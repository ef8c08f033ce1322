-- A log with fewer turns.
use Rattle.std.proofs.Common.{◌≡◌, ℕ, Bool, true, List, [], ◌∷◌, Option, Some, None, refl, sym, ap, ◌∙◌, inl, inr}
use Rattle.std.specs.Prelude.{slice_get, is_some}
use Rattle.std.specs.List.{list_any}
use Rattle.hek_levels.specs.declared.log.Log.{Log}
use Rattle.hek_levels.specs.declared.log.Transaction.{Transaction}
use Rattle.hek_levels.specs.declared.log.Turn.{Turn}
use Rattle.hek_levels.specs.declared.log.Read.{Read}
use Rattle.hek_levels.specs.declared.log.Scan.{Scan}
use Rattle.hek_levels.specs.declared.log.Change.{Change}
use Rattle.hek_levels.specs.declared.log.Place.{Place}
use Rattle.hek_levels.specs.declared.log.Place.TheVariants.{Listed, Missing}
use Rattle.hek_levels.specs.declared.rules.Rules.{Rules}
use Rattle.hek_levels.specs.declared.rules.Links.{Links}
use Rattle.hek_levels.specs.declared.rules.Own.{Own}
use Rattle.hek_levels.specs.declared.rules.Own.TheVariants.{Nothing, Earlier, All}
use Rattle.hek_levels.specs.declared.certificate.Writer.{Writer}
use Rattle.hek_levels.specs.declared.certificate.Writer.TheVariants as writer
use Rattle.hek_levels.specs.Levels.{asked_of}
use Rattle.hek_levels.specs.Logs.{transaction, reads_in, scans_in, writes_in, writes_of, turns_in, turns_of, missing_in, read_at, meets_in, left_in, left_by, offers, does_write, committed_in, possible_in, is_before_turn, is_seen_turn, is_kept, is_earlier}
use Rattle.hek_levels.specs.Seen.{Explanation, ReadsFrom, SeesByOwn, Precedes, IsLinked, SeesFirst, Shows, SeesBy, Sees}
use Rattle.hek_levels.proofs.Turned.{any-at, at-any}
use Rattle.hek_levels_laws.specs.Laws.{AreAmong, IsFewerOf, HasFewerTurns, FewerTurnsImply}

any-more : (f g : Turn → Bool) (few more : List Turn) → AreAmong few more → ((x : Turn) → f x ≡ true → g x ≡ true) → list_any f few ≡ true → list_any g more ≡ true
any-more f g few more among implies e =
    let p = any-at f few e in
    let q = among p.0 p.1 p.2 in
    at-any g more q.0 p.1 q.1 (implies p.1 p.3)

-- ---- of transactions

reads-same : (x y : Option Transaction) → IsFewerOf x y → reads_in x ≡ reads_in y
reads-same None None f = refl
reads-same None (Some y) f = absurd f
reads-same (Some x) None f = absurd f
reads-same (Some x) (Some y) f = f.reads

scans-same : (x y : Option Transaction) → IsFewerOf x y → scans_in x ≡ scans_in y
scans-same None None f = refl
scans-same None (Some y) f = absurd f
scans-same (Some x) None f = absurd f
scans-same (Some x) (Some y) f = f.scans

writes-same : (x y : Option Transaction) → IsFewerOf x y → writes_in x ≡ writes_in y
writes-same None None f = refl
writes-same None (Some y) f = absurd f
writes-same (Some x) None f = absurd f
writes-same (Some x) (Some y) f = f.writes

committed-same : (x y : Option Transaction) → IsFewerOf x y → committed_in x ≡ committed_in y
committed-same None None f = refl
committed-same None (Some y) f = absurd f
committed-same (Some x) None f = absurd f
committed-same (Some x) (Some y) f = rw f.status refl

possible-same : (x y : Option Transaction) → IsFewerOf x y → possible_in x ≡ possible_in y
possible-same None None f = refl
possible-same None (Some y) f = absurd f
possible-same (Some x) None f = absurd f
possible-same (Some x) (Some y) f = rw f.status (rw f.fits refl)

turns-among : (x y : Option Transaction) → IsFewerOf x y → AreAmong (turns_in x) (turns_in y)
turns-among None None f = λ i turn there. cc
turns-among None (Some y) f = absurd f
turns-among (Some x) None f = absurd f
turns-among (Some x) (Some y) f = f.turns

module _ (few more : Log) (h : HasFewerTurns few more) where
  read-same : (t : ℕ) (r : Place) → read_at few t r ≡ read_at more t r
  read-same t (Listed r) = ap (λ (xs : List Read). slice_get xs r) (reads-same (transaction few t) (transaction more t) (h.each t))
  read-same t (Missing s key) = ap (λ (xs : List Scan). missing_in (slice_get xs s) key) (scans-same (transaction few t) (transaction more t) (h.each t))

  writes-alike : (t : ℕ) → writes_of few t ≡ writes_of more t
  writes-alike t = writes-same (transaction few t) (transaction more t) (h.each t)

  does-same : (t key : ℕ) → does_write few t key ≡ does_write more t key
  does-same t key = ap (λ (xs : List Change). is_some (left_in xs key)) (writes-alike t)

  left-same : (key : ℕ) (w : Writer) → left_by few key w ≡ left_by more key w
  left-same key writer.Opening = rw h.rows refl
  left-same key (writer.Transaction t) = ap (λ (xs : List Change). left_in xs key) (writes-alike t)

  offers-same : (w : Writer) (read : Read) → offers few w read ≡ offers more w read
  offers-same w read = ap (λ (o : Option (Option ℕ)). meets_in read.need o) (left-same read.key w)

  among : (t : ℕ) → AreAmong (turns_of few t) (turns_of more t)
  among t = turns-among (transaction few t) (transaction more t) (h.each t)

  kept-more : (x t : ℕ) → is_kept few x t ≡ true → is_kept more x t ≡ true
  kept-more x t e =
      any-more (λ (a : Turn). list_any (λ (b : Turn). is_before_turn a b) (turns_of few t)) (λ (a : Turn). list_any (λ (b : Turn). is_before_turn a b) (turns_of more t)) (turns_of few x) (turns_of more x) (among x)
      (λ a f. any-more (λ (b : Turn). is_before_turn a b) (λ (b : Turn). is_before_turn a b) (turns_of few t) (turns_of more t) (among t) (λ b g. g) f) e

  earlier-more : (x t : ℕ) → is_earlier few x t ≡ true → is_earlier more x t ≡ true
  earlier-more x t e =
      any-more (λ (a : Turn). list_any (λ (b : Turn). is_seen_turn a b) (turns_of few t)) (λ (a : Turn). list_any (λ (b : Turn). is_seen_turn a b) (turns_of more t)) (turns_of few x) (turns_of more x) (among x)
      (λ a f. any-more (λ (b : Turn). is_seen_turn a b) (λ (b : Turn). is_seen_turn a b) (turns_of few t) (turns_of more t) (among t) (λ b g. g) f) e

  -- ---- what is seen

  module _ (e : Explanation) where
    reads-more : (t x : ℕ) → ReadsFrom few e t x → ReadsFrom more e t x
    reads-more t x r = (r.0, r.1, sym (read-same t r.0) ∙ r.2, r.3)

    own-more : (own : Own) (t n x : ℕ) → SeesByOwn own few e t n x → SeesByOwn own more e t n x
    own-more Nothing t n x s = s
    own-more Earlier t n x s = (s.0, s.1, sym (read-same t s.0) ∙ s.2, s.3, s.4)
    own-more All t n x s = reads-more t x s

    precedes-more : (x t : ℕ) → Precedes few e x t → Precedes more e x t
    precedes-more x t p = (earlier-more x t p.0, p.1)

    linked-more : (links : Links) (t x : ℕ) → IsLinked links few e t x → IsLinked links more e t x
    linked-more links t x l =
        elim l [
          | inl a ↦ inl (a.0, (a.1.0, sym (does-same x a.1.0) ∙ a.1.1, sym (does-same t a.1.0) ∙ a.1.2, a.1.3))
          | inr other ↦
              elim other [
                | inl b ↦ inr (inl (b.0, precedes-more x t b.1))
                | inr c ↦ inr (inr (c.0, (c.1.0, precedes-more c.1.0 t c.1.1, reads-more c.1.0 x c.1.2)))
              ]
        ]

    first-more : (rules : Rules) (t n x : ℕ) → SeesFirst rules few e t n x → SeesFirst rules more e t n x
    first-more rules t n x s =
        elim s [
          | inl whole ↦ inl whole
          | inr other ↦ elim other [ inl own ↦ inr (inl (own-more rules.own t n x own)) | inr l ↦ inr (inr (linked-more rules.first t x l)) ]
        ]

    shows-more : (rules : Rules) (y x : ℕ) → Shows rules few e y x → Shows rules more e y x
    shows-more rules y x s =
        elim s [
          | inl before ↦ inl before
          | inr other ↦ elim other [ inl r ↦ inr (inl (r.0, reads-more y x r.1)) | inr l ↦ inr (inr (linked-more rules.next y x l)) ]
        ]

    by-more : (rules : Rules) (t n : ℕ) (ys : List ℕ) (x : ℕ) → SeesBy rules few e t n ys x → SeesBy rules more e t n ys x
    by-more rules t n [] x s = first-more rules t n x s
    by-more rules t n (y ∷ ys) x s = (shows-more rules y x s.0, by-more rules t n ys y s.1)

    sees-more : (rules : Rules) (t n x : ℕ) → Sees rules few e t n x → Sees rules more e t n x
    sees-more rules t n x s = (s.0, by-more rules t n s.0 x s.1)

pub fewer_turns_imply : FewerTurnsImply
fewer_turns_imply asked few more e h x = record {
  possible = (λ i t a. possible-same (transaction few t) (transaction more t) (h.each t) ∙ x.possible i t a);
  once = x.once;
  committed = (λ t k. x.committed t (sym (committed-same (transaction few t) (transaction more t) (h.each t)) ∙ k));
  sources = (λ t r read o there.
      let s = x.sources t r read o (sym (read-same few more h t r) ∙ there) in
      record { offered = offers-same few more h (e.source t r) read ∙ s.offered; before = s.before });
  turns = (λ y t kept o p. x.turns y t (kept-more few more h y t kept) o p);
  newest = (λ t r read y o there s does.
      x.newest t r read y o (sym (read-same few more h t r) ∙ there) (sees-more few more h e (asked_of asked t) t read.operation y s) (sym (does-same few more h y read.key) ∙ does));
}
