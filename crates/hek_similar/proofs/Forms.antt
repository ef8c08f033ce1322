-- Similarity is an equivalence, and equal forms decide it.
use Rattle.std.proofs.Common.{◌≡◌, ℕ, zero, suc, ◌<◌, true, List, [], ◌∷◌, Option, Some, None, refl, ◌∙◌, ap, sym, length, arith, ⊎_elim}
use Rattle.std.proofs.lemmas.Bool.{cases_Bool, cond-true, cond-false, lt-ltb, le-ltb}
use Rattle.std.specs.Prelude.{map, slice_get, unwrap_or, ◌&&◌, nat_lt}
use Rattle.hek_rules.specs.Words.{infinity}
use Rattle.hek_rules.specs.World.{World, no_txn, no_version, txn_in, is_prepared}
use Rattle.hek_laws.specs.Sound.{Sound}
use Rattle.hek_similar.specs.Similar.{Similar, LookAlike, timeless, timeless_txn, timeless_version, made_time, ended_time, looks_back}
use Rattle.hek_similar.specs.Forms.{After, after, look, Form, form}
use Rattle.hek_similar.specs.Laws.{SimilarToItself, SimilarBothWays, SimilarInTurn, FormsDecide}
use Rattle.hek_similar.proofs.Lists.{same-txn, same-length}
use Rattle.hek_similar.proofs.Alike.{Past, sound-past}
use Rattle.hek_similar.proofs.Agree.{similar-alike}
use Rattle.hek_similar.proofs.Data.{and-same}

-- ---- an equivalence
same-at : (w x : World) → Similar w x → (t : ℕ) → timeless_txn (txn_in w.txns t) ≡ timeless_txn (txn_in x.txns t)
same-at w x s t = same-txn w.txns x.txns (similar-alike w x s).txns t

pub similar-itself : SimilarToItself
similar-itself w = record { same = refl; looks = λ t l. record { made = λ v. refl; ended = λ v. refl; prepared = λ u p. refl } }

pub similar-both_ways : SimilarBothWays
similar-both_ways w x s = record {
  same = sym s.same;
  looks = λ t l.
      let k : LookAlike w.versions x.versions w.txns x.txns (txn_in w.txns t).begin (txn_in x.txns t).begin = s.looks t (ap looks_back (same-at w x s t) ∙ l) in
      record { made = λ v. sym (k.made v); ended = λ v. sym (k.ended v); prepared = λ u p. sym (k.prepared u (ap (λ y. is_prepared y.state) (same-at w x s u) ∙ p)) };
}

pub similar-in_turn : SimilarInTurn
similar-in_turn w x y s r = record {
  same = s.same ∙ r.same;
  looks = λ t l.
      let k : LookAlike w.versions x.versions w.txns x.txns (txn_in w.txns t).begin (txn_in x.txns t).begin = s.looks t l in
      let m : LookAlike x.versions y.versions x.txns y.txns (txn_in x.txns t).begin (txn_in y.txns t).begin = r.looks t (sym (ap looks_back (same-at w x s t)) ∙ l) in
      record { made = λ v. k.made v ∙ m.made v; ended = λ v. k.ended v ∙ m.ended v; prepared = λ u p. k.prepared u p ∙ m.prepared u (sym (ap (λ y. is_prepared y.state) (same-at w x s u)) ∙ p) };
}

-- ---- lists of answers
-- two lists give equal answers, if each two elements do
pub answers-from : {X Y : Type 0} (f g : X → Y) (none : X) (xs ys : List X) → length xs ≡ length ys →
    ((i : ℕ) → f (unwrap_or (slice_get xs i) none) ≡ g (unwrap_or (slice_get ys i) none)) → map f xs ≡ map g ys
answers-from f g none [] [] e h = refl
answers-from f g none [] (b ∷ bs) e h = cc
answers-from f g none (a ∷ cs) [] e h = cc
answers-from f g none (a ∷ cs) (b ∷ bs) e h =
    let l : length cs ≡ length bs = cc in
    ap (λ y. y ∷ map f cs) (h 0) ∙ ap (λ l. g b ∷ l) (answers-from f g none cs bs l (λ i. h (suc i)))

-- equal answers are equal one by one, if they are equal past the ends
answer-at : {X Y : Type 0} (f g : X → Y) (none : X) (xs ys : List X) → f none ≡ g none → map f xs ≡ map g ys →
    (i : ℕ) → f (unwrap_or (slice_get xs i) none) ≡ g (unwrap_or (slice_get ys i) none)
answer-at f g none [] [] e h i = e
answer-at f g none [] (b ∷ bs) e h i = cc
answer-at f g none (a ∷ cs) [] e h i = cc
answer-at f g none (a ∷ cs) (b ∷ bs) e h zero = cc
answer-at f g none (a ∷ cs) (b ∷ bs) e h (suc i) = let l : map f cs ≡ map g bs = cc in answer-at f g none cs bs e l i

module _ (w x : World) where
  -- ---- from similarity
  same-after : (r q : ℕ) → timeless w ≡ timeless x → LookAlike w.versions x.versions w.txns x.txns r q → after w.versions w.txns r ≡ after x.versions x.txns q
  same-after r q s l =
      let vers : length w.versions ≡ length x.versions = same-length timeless_version w.versions x.versions (ap (λ y. y.versions) s) in
      let txns : map timeless_txn w.txns ≡ map timeless_txn x.txns = ap (λ y. y.txns) s in
      let made : map (λ y. nat_lt r (made_time y.creator)) w.versions ≡ map (λ y. nat_lt q (made_time y.creator)) x.versions
      = answers-from (λ y. nat_lt r (made_time y.creator)) (λ y. nat_lt q (made_time y.creator)) no_version w.versions x.versions vers l.made in
      let ended : map (λ y. nat_lt r (ended_time y.ender)) w.versions ≡ map (λ y. nat_lt q (ended_time y.ender)) x.versions
      = answers-from (λ y. nat_lt r (ended_time y.ender)) (λ y. nat_lt q (ended_time y.ender)) no_version w.versions x.versions vers l.ended in
      let prepared : map (λ y. is_prepared y.state && nat_lt r y.end) w.txns ≡ map (λ y. is_prepared y.state && nat_lt q y.end) x.txns
      = answers-from (λ y. is_prepared y.state && nat_lt r y.end) (λ y. is_prepared y.state && nat_lt q y.end) no_txn w.txns x.txns (same-length timeless_txn w.txns x.txns txns)
      (λ i. and-same (is_prepared (txn_in w.txns (suc i)).state) _ _ (l.prepared (suc i)) ∙ ap (λ y. is_prepared y.state && nat_lt q (txn_in x.txns (suc i)).end) (same-txn w.txns x.txns txns (suc i))) in
      ap (λ m. record { made = m; ended = map (λ y. nat_lt r (ended_time y.ender)) w.versions; prepared = map (λ y. is_prepared y.state && nat_lt r y.end) w.txns }) made
      ∙ ap (λ m. record { made = map (λ y. nat_lt q (made_time y.creator)) x.versions; ended = m; prepared = map (λ y. is_prepared y.state && nat_lt r y.end) w.txns }) ended
      ∙ ap (λ m. record { made = map (λ y. nat_lt q (made_time y.creator)) x.versions; ended = map (λ y. nat_lt q (ended_time y.ender)) x.versions; prepared = m }) prepared

  same-look : Similar w x → (t : ℕ) → look w.versions w.txns (txn_in w.txns t) ≡ look x.versions x.txns (txn_in x.txns t)
  same-look s t =
      let b : looks_back (txn_in w.txns t) ≡ looks_back (txn_in x.txns t) = ap looks_back (same-at w x s t) in
      ⊎_elim
      (λ y. cond-true _ (Some (after w.versions w.txns (txn_in w.txns t).begin)) None y ∙ ap Some (same-after _ _ s.same (s.looks t y)) ∙ sym (cond-true _ (Some (after x.versions x.txns (txn_in x.txns t).begin)) None (sym b ∙ y)))
      (λ n. cond-false _ (Some (after w.versions w.txns (txn_in w.txns t).begin)) None n ∙ sym (cond-false _ (Some (after x.versions x.txns (txn_in x.txns t).begin)) None (sym b ∙ n)))
      (cases_Bool (looks_back (txn_in w.txns t)))

  pub same-form : Similar w x → form w ≡ form x
  same-form s =
      let looks : map (look w.versions w.txns) w.txns ≡ map (look x.versions x.txns) x.txns
      = answers-from (look w.versions w.txns) (look x.versions x.txns) no_txn w.txns x.txns (same-length timeless_txn w.txns x.txns (ap (λ y. y.txns) s.same)) (λ i. same-look s (suc i)) in
      ap {A = World} {B = Form} (λ y. record { world = y; looks = map (look w.versions w.txns) w.txns }) s.same
      ∙ ap {A = List (Option After)} {B = Form} (λ l. record { world = timeless x; looks = l }) looks

  -- ---- from forms
  alike-from : (r q : ℕ) → r < infinity → q < infinity → timeless w ≡ timeless x → after w.versions w.txns r ≡ after x.versions x.txns q → LookAlike w.versions x.versions w.txns x.txns r q
  alike-from r q b c s e =
      let txns : map timeless_txn w.txns ≡ map timeless_txn x.txns = ap (λ y. y.txns) s in
      record {
        made = answer-at (λ y. nat_lt r (made_time y.creator)) (λ y. nat_lt q (made_time y.creator)) no_version w.versions x.versions (lt-ltb r infinity b ∙ sym (lt-ltb q infinity c)) (ap (λ a. a.made) e);
        ended = answer-at (λ y. nat_lt r (ended_time y.ender)) (λ y. nat_lt q (ended_time y.ender)) no_version w.versions x.versions (le-ltb r 0 (omega arith) ∙ sym (le-ltb q 0 (omega arith))) (ap (λ a. a.ended) e);
        prepared = λ u p. prepared-at txns (ap (λ a. a.prepared) e) u p;
      }
    where
      prepared-at : map timeless_txn w.txns ≡ map timeless_txn x.txns → map (λ y. is_prepared y.state && nat_lt r y.end) w.txns ≡ map (λ y. is_prepared y.state && nat_lt q y.end) x.txns →
          (u : ℕ) → is_prepared (txn_in w.txns u).state ≡ true → nat_lt r (txn_in w.txns u).end ≡ nat_lt q (txn_in x.txns u).end
      prepared-at txns h zero p = cc
      prepared-at txns h (suc i) p =
          let here : (is_prepared (txn_in w.txns (suc i)).state && nat_lt r (txn_in w.txns (suc i)).end) ≡ (is_prepared (txn_in x.txns (suc i)).state && nat_lt q (txn_in x.txns (suc i)).end)
          = answer-at (λ y. is_prepared y.state && nat_lt r y.end) (λ y. is_prepared y.state && nat_lt q y.end) no_txn w.txns x.txns refl h i in
          let there : is_prepared (txn_in x.txns (suc i)).state ≡ true = sym (ap (λ y. is_prepared y.state) (same-txn w.txns x.txns txns (suc i))) ∙ p in
          sym (ap (λ b. b && nat_lt r (txn_in w.txns (suc i)).end) p) ∙ here ∙ ap (λ b. b && nat_lt q (txn_in x.txns (suc i)).end) there

  pub form-similar : Sound w → Sound x → form w ≡ form x → Similar w x
  form-similar here there e = record { same = ap (λ f. f.world) e; looks = looks-at }
    where
      looks-at : (t : ℕ) → looks_back (txn_in w.txns t) ≡ true → LookAlike w.versions x.versions w.txns x.txns (txn_in w.txns t).begin (txn_in x.txns t).begin
      looks-at zero l = cc
      looks-at (suc i) l =
          let same : timeless w ≡ timeless x = ap (λ f. f.world) e in
          let m : looks_back (txn_in x.txns (suc i)) ≡ true = sym (ap looks_back (same-txn w.txns x.txns (ap (λ y. y.txns) same) (suc i))) ∙ l in
          let n : look w.versions w.txns (txn_in w.txns (suc i)) ≡ look x.versions x.txns (txn_in x.txns (suc i))
          = answer-at (look w.versions w.txns) (look x.versions x.txns) no_txn w.txns x.txns refl (ap (λ f. f.looks) e) i in
          let k : Some (after w.versions w.txns (txn_in w.txns (suc i)).begin) ≡ Some (after x.versions x.txns (txn_in x.txns (suc i)).begin)
          = sym (cond-true _ (Some (after w.versions w.txns (txn_in w.txns (suc i)).begin)) None l) ∙ n ∙ cond-true _ (Some (after x.versions x.txns (txn_in x.txns (suc i)).begin)) None m in
          let a : after w.versions w.txns (txn_in w.txns (suc i)).begin ≡ after x.versions x.txns (txn_in x.txns (suc i)).begin = cc in
          let p : Past w.clock w.versions w.txns = sound-past w here in
          let q : Past x.clock x.versions x.txns = sound-past x there in
          let pc : w.clock < infinity = p.clock in
          let pb : (txn_in w.txns (suc i)).begin < w.clock = p.begins (suc i) in
          let qc : x.clock < infinity = q.clock in
          let qb : (txn_in x.txns (suc i)).begin < x.clock = q.begins (suc i) in
          alike-from _ _ (omega arith) (omega arith) same a

pub forms-decide : FormsDecide
forms-decide w x here there = (form-similar w x here there, same-form w x)
