-- Claims of which some are assumed, one after another.
use Rattle.std.proofs.Common.{◌≡◌, ℕ, zero, suc, ◌<◌, List, [], ◌∷◌, ◌++◌, Option, Some, None, refl, sym, ap, ◌∙◌, subst, inl, inr, ◌⊎◌, take, length, arith}
use Rattle.std.proofs.lemmas.Bool.{cases_order}
use Rattle.std.proofs.lemmas.Option.{slice_get_within}
use Rattle.std.specs.Prelude.{slice_get}
use Rattle.hek_levels.specs.declared.log.Log.{Log}
use Rattle.hek_levels.specs.declared.rules.Asked.{Asked}
use Rattle.hek_levels_refutation.specs.declared.claim.Claim.{Claim}
use Rattle.hek_levels_refutation.specs.declared.claim.Claim.TheVariants.{Contradiction}
use Rattle.hek_levels_refutation.specs.declared.claim.Shown.{Shown}
use Rattle.hek_levels.specs.Seen.{Explanation}
use Rattle.hek_levels.specs.Explanations.{Explains, HasNoExplanation}
use Rattle.hek_levels_refutation.specs.Claims.{Holds, AllHold, Follows, AssumedHold, IsContrary, IsSound, NoneAssumed, IsLastAssumed, IsTurned}

-- ---- places in a list with one element more, and in a front

last_or_before : {A : Type 0} (xs : List A) (x : A) (k : ℕ) (y : A) → slice_get (xs ++ x ∷ []) k ≡ Some y → ((k < length xs) × (slice_get xs k ≡ Some y)) ⊎ ((k ≡ length xs) × (x ≡ y))
last_or_before [] x zero y e = inr (refl, cc)
last_or_before [] x (suc k) y e = cc
last_or_before (z ∷ xs) x zero y e = inl (omega arith, e)
last_or_before (z ∷ xs) x (suc k) y e =
    elim (last_or_before xs x k y e) [
      | inl l ↦ inl (let lt = l.0 in omega (arith, lt), l.1)
      | inr r ↦ inr (ap suc r.0, r.1)
    ]

stays : {A : Type 0} (xs ys : List A) (k : ℕ) (y : A) → slice_get xs k ≡ Some y → slice_get (xs ++ ys) k ≡ Some y
stays [] ys k y e = cc
stays (z ∷ xs) ys zero y e = e
stays (z ∷ xs) ys (suc k) y e = stays xs ys k y e

pub front_at : {A : Type 0} (xs : List A) (n k : ℕ) (x : A) → slice_get (take n xs) k ≡ Some x → (k < n) × (slice_get xs k ≡ Some x)
front_at xs zero k x e = cc
front_at [] (suc n) k x e = cc
front_at (y ∷ xs) (suc n) zero x e = (omega arith, e)
front_at (y ∷ xs) (suc n) (suc k) x e = let r = front_at xs n k x e in (let lt = r.0 in omega (arith, lt), r.1)

at_front : {A : Type 0} (xs : List A) (n k : ℕ) (x : A) → k < n → slice_get xs k ≡ Some x → slice_get (take n xs) k ≡ Some x
at_front xs zero k x l e = absurd (omega (arith, l))
at_front [] (suc n) k x l e = e
at_front (y ∷ xs) (suc n) zero x l e = e
at_front (y ∷ xs) (suc n) (suc k) x l e = at_front xs n k x (omega (arith, l)) e

one_element : {A : Type 0} (x y : A) → Some x ≡ Some y → x ≡ y
one_element x y e = cc

cases_contrary : (o : Option Claim) → (o ≡ None) ⊎ ((c : Claim) × (o ≡ Some c))
cases_contrary None = inl refl
cases_contrary (Some c) = inr (c, refl)

no_contrary : (o : Option Claim) (c : Claim) → o ≡ None → o ≡ Some c → ⊥
no_contrary o c e f = let g : ◌≡◌ {A = Option Claim} None (Some c) = sym e ∙ f in cc

module _ (asked : Asked) (log : Log) where
  -- ---- what is assumed and what holds

  all_hold : (e : Explanation) → Explains asked log e → (shown : List Shown) → IsSound asked log shown → AssumedHold asked log e shown (length shown) → AllHold asked log e shown
  all_hold e ex shown sound assumed n s there =
      let lt = slice_get_within shown n s there in
      elim (cases_contrary s.contrary) [
        | inr c ↦ assumed n s c.0 lt there c.1
        | inl none ↦ sound.holds e ex n s there none (λ k y c l. assumed k y c (omega (arith, l, lt)))
      ]

  AssumedHold-front : (e : Explanation) (shown : List Shown) (x : Shown) (n : ℕ) → AssumedHold asked log e (shown ++ x ∷ []) n → AssumedHold asked log e shown n
  AssumedHold-front e shown x n assumed k s c l there a = assumed k s c l (stays shown (x ∷ []) k s there) a

  pub IsSound-push : (shown : List Shown) (x : Shown) → IsSound asked log shown →
      (x.contrary ≡ None → (e : Explanation) → Explains asked log e → AssumedHold asked log e shown (length shown) → Holds asked log e x.claim) →
      ((c : Claim) → x.contrary ≡ Some c → IsContrary asked log x.claim c) →
      IsSound asked log (shown ++ x ∷ [])
  IsSound-push shown x sound new_holds new_turns = record {
    holds = (λ e ex n s there none assumed.
        elim (last_or_before shown x n s there) [
          | inl l ↦ sound.holds e ex n s l.1 none (AssumedHold-front e shown x n assumed)
          | inr r ↦
              let before : AssumedHold asked log e shown (length shown) = AssumedHold-front e shown x (length shown) (subst (AssumedHold asked log e (shown ++ x ∷ [])) r.0 assumed) in
              subst (λ (y : Shown). Holds asked log e y.claim) r.1 (new_holds (ap (λ (y : Shown). y.contrary) r.1 ∙ none) e ex before)
        ]);
    turns = (λ n s c there is.
        elim (last_or_before shown x n s there) [
          | inl l ↦ sound.turns n s c l.1 is
          | inr r ↦ subst (λ (y : Shown). IsContrary asked log y.claim c) r.1 (new_turns c (ap (λ (y : Shown). y.contrary) r.1 ∙ is))
        ]);
  }

  pub IsSound-more : (shown : List Shown) (x : Shown) → IsSound asked log shown → (x.contrary ≡ None → Follows asked log shown x.claim) →
      ((c : Claim) → x.contrary ≡ Some c → IsContrary asked log x.claim c) → IsSound asked log (shown ++ x ∷ [])
  IsSound-more shown x sound follows turns =
      IsSound-push shown x sound (λ none e ex assumed. follows none e ex (all_hold e ex shown sound assumed)) turns

  pub IsSound-none : IsSound asked log []
  IsSound-none = record { holds = λ e ex n s there. cc; turns = λ n s c there. cc }

  IsSound-front : (shown : List Shown) (n : ℕ) → IsSound asked log shown → IsSound asked log (take n shown)
  IsSound-front shown n sound = record {
    holds = (λ e ex k s there none assumed.
        let f = front_at shown n k s there in
        sound.holds e ex k s f.1 none (λ m y c l at b. assumed m y c l (at_front shown n m y (let lt = f.0 in omega (arith, l, lt)) at) b));
    turns = (λ k s c there is. let f = front_at shown n k s there in sound.turns k s c f.1 is);
  }

  -- ---- contradictions

  pub none_at_all : (shown : List Shown) → IsSound asked log shown → NoneAssumed shown → Follows asked log shown Contradiction → HasNoExplanation asked log
  none_at_all shown sound none follows e ex =
      follows e ex (all_hold e ex shown sound (λ k s c l there a. absurd (no_contrary s.contrary c (none k s there) a)))

  pub IsSound-turned : (shown new : List Shown) (n : ℕ) (c : Claim) → IsSound asked log shown → IsLastAssumed shown n c → Follows asked log shown Contradiction → IsTurned shown n c new →
      IsSound asked log new
  IsSound-turned shown new n c sound case follows turned =
      let x : Shown = record { claim = c; contrary = None } in
      let within : n < length shown = slice_get_within shown n case.step case.there in
      subst (IsSound asked log) (sym turned)
      (IsSound-push (take n shown) x (IsSound-front shown n sound)
      (λ a e ex assumed.
      let before : AssumedHold asked log e shown n =
      λ k s d l there b. (let at = at_front shown n k s l there in assumed k s d (slice_get_within (take n shown) k s at) at b) in
      sound.turns n case.step c case.there case.assumed e ex
      (λ holds.
      let all : AssumedHold asked log e shown (length shown) =
      λ k s d l there b.
      elim (cases_order k n) [
        | inl same ↦
            let here : slice_get shown n ≡ Some s = subst (λ (m : ℕ). slice_get shown m ≡ Some s) same there in
            subst (λ (y : Shown). Holds asked log e y.claim) (one_element case.step s (sym case.there ∙ here)) holds
        | inr other ↦
            elim other [
              | inl less ↦ before k s d less there b
              | inr more ↦ absurd (no_contrary s.contrary d (case.last k s more there) b)
            ]
      ] in
      follows e ex (all_hold e ex shown sound all)))
      (λ d a. cc))

  -- ---- a step, over the lists that it reads

  pub step_none : (shown seen again : List Shown) (x : Shown) → IsSound asked log shown → seen ≡ shown → again ≡ shown → NoneAssumed again →
      (x.contrary ≡ None → Follows asked log seen x.claim) → (x.claim ≡ Contradiction) × (x.contrary ≡ None) → HasNoExplanation asked log
  step_none shown seen again x sound read read_again none follows is =
      none_at_all shown sound (subst NoneAssumed read_again none)
      (subst (Follows asked log shown) is.0 (subst (λ (s : List Shown). Follows asked log s x.claim) read (follows is.1)))

  pub step_turned : (shown seen again new : List Shown) (x : Shown) (n : ℕ) (c : Claim) → IsSound asked log shown → seen ≡ shown → again ≡ shown → IsLastAssumed again n c →
      (x.contrary ≡ None → Follows asked log seen x.claim) → (x.claim ≡ Contradiction) × (x.contrary ≡ None) → IsTurned shown n c new → IsSound asked log new
  step_turned shown seen again new x n c sound read read_again case follows is turned =
      IsSound-turned shown new n c sound (subst (λ (s : List Shown). IsLastAssumed s n c) read_again case)
      (subst (Follows asked log shown) is.0 (subst (λ (s : List Shown). Follows asked log s x.claim) read (follows is.1))) turned

  pub step_more : (shown seen new : List Shown) (x : Shown) → IsSound asked log shown → seen ≡ shown →
      (x.contrary ≡ None → Follows asked log seen x.claim) → ((c : Claim) → x.contrary ≡ Some c → IsContrary asked log x.claim c) →
      new ≡ shown ++ x ∷ [] → IsSound asked log new
  step_more shown seen new x sound read follows turns is =
      subst (IsSound asked log) (sym is)
      (IsSound-more shown x sound (λ none. subst (λ (s : List Shown). Follows asked log s x.claim) read (follows none)) turns)
