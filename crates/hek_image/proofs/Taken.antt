-- What a reader took from the front.
use Rattle.std.proofs.Common.{◌≡◌, ℕ, zero, suc, ◌+◌, Bool, true, false, cond, List, [], ◌∷◌, ◌++◌, length, take, drop, Result, Ok, Err, refl, sym, ap, subst, ◌∙◌, append_assoc, arith, inl, inr}
use Rattle.std.specs.Int.{Width, w8, byte_len, from_be_bytes, to_be_bytes}
use Rattle.std.specs.List.{AllByRecursion, flat_map}
use Rattle.std.proofs.lemmas.Bool.{cases_lt, lt-ltb, le-ltb}
use Rattle.std.proofs.lemmas.List.{take-append-drop, length-take}
use Rattle.hek_rules.specs.Plan.{Plan}
use Rattle.hek_image.specs.declared.fault.LoadFault.{LoadFault}
use Rattle.hek_image.specs.declared.fault.LoadFault.TheVariants.{BadField, Short}
use Rattle.hek_image.specs.Laws.{IsBytes}
use Rattle.hek_image.specs.Loading.{Place, Reader, then_read, both, checked_from, required, checked_read, bytes_at, value, number_at, number_within, is_within, times}
use Rattle.hek_image.proofs.Wide.{IsWide, IsBytes-take, IsBytes-drop, byte_back}

pub record Took (p : Place) (text : List ℕ) (q : Place) : Type 0 where
  pub parts : p.rest ≡ text ++ q.rest
  pub bytes : IsBytes q.rest

pub took_then : (p m q : Place) (s t : List ℕ) → Took p s m → Took m t q → Took p (s ++ t) q
took_then p m q s t h k = record { parts = h.parts ∙ ap (λ (bs : List ℕ). s ++ bs) k.parts ∙ sym (append_assoc s t q.rest); bytes = k.bytes }

pub took_none : (p : Place) → IsBytes p.rest → Took p [] p
took_none p h = record { parts = refl; bytes = h }

-- a reader's answer: a value and a place
abbrev pub gave : {A : Type 0} → A → Place → Result (A × Place) LoadFault
gave x q = Ok (x, q)

pub gave_is : {A : Type 0} (x y : A) (p q : Place) → gave x p ≡ gave y q → (x ≡ y) × (p ≡ q)
gave_is {A = A} x y p q e =
    let both : (x, p) ≡ (y, q) = cc in
    (ap (λ (z : A × Place). z.0) both, ap (λ (z : A × Place). z.1) both)

-- if two readers in a row give a value, the first gives one
pub then_ok : {A B : Type 0} (r : Result (A × Place) LoadFault) (f : A → Reader B) (y : B) (q : Place) → then_read r f ≡ gave y q → (x : A) × (m : Place) × (r ≡ gave x m) × (f x m ≡ gave y q)
then_ok (Ok x) f y q e = (x.0, x.1, refl, e)
then_ok (Err d) f y q e = absurd cc

pub both_ok : {A B : Type 0} (r : Reader A) (f : A → Reader B) (p : Place) (y : B) (q : Place) → both r f p ≡ gave y q → (x : A) × (m : Place) × (r p ≡ gave x m) × (f x m ≡ gave y q)
unfolding both
both_ok r f p y q e = then_ok (r p) f y q e

guard_ok : {A : Type 0} (b : Bool) (d : LoadFault) (x y : A) (p q : Place) → cond b (gave x p) (Err d) ≡ gave y q → (b ≡ true) × (gave x p ≡ gave y q)
guard_ok true d x y p q e = (refl, e)
guard_ok false d x y p q e = absurd cc

checked_from_ok : {A : Type 0} (r : Result (A × Place) LoadFault) (test : A → Bool) (fault : LoadFault) (y : A) (q : Place) → checked_from r test fault ≡ gave y q → (r ≡ gave y q) × (test y ≡ true)
checked_from_ok {A = A} (Ok x) test fault y q e =
    let g = guard_ok (test x.0) fault x.0 y x.1 q e in
    (g.1, subst (λ (z : A). test z ≡ true) (gave_is x.0 y x.1 q g.1).0 g.0)
checked_from_ok (Err d) test fault y q e = absurd cc

pub checked_ok : {A : Type 0} (r : Reader A) (test : A → Bool) (p : Place) (y : A) (q : Place) → checked_read r test p ≡ gave y q → (r p ≡ gave y q) × (test y ≡ true)
unfolding checked_read
checked_ok r test p y q e = checked_from_ok (r p) test (BadField p.at) y q e

pub required_ok : {A : Type 0} (r : Reader A) (test : A → Bool) (fault : LoadFault) (p : Place) (y : A) (q : Place) → required r test fault p ≡ gave y q → (r p ≡ gave y q) × (test y ≡ true)
unfolding required
required_ok r test fault p y q e = checked_from_ok (r p) test fault y q e

pub bytes_ok : (n : ℕ) (p : Place) (w : List ℕ) (q : Place) → IsBytes p.rest → bytes_at n p ≡ gave w q → Took p w q × (length w ≡ n) × IsBytes w
unfolding bytes_at
bytes_ok n p w q fits e = elim (cases_lt (length p.rest) n) [
  | inl lt ↦
      let short : bytes_at n p ≡ Err Short = rw (lt-ltb (length p.rest) n lt) refl in
      absurd cc
  | inr le ↦
      let m : Place = record { at = p.at + n; rest = drop n p.rest } in
      let is : bytes_at n p ≡ gave (take n p.rest) m = rw (le-ltb (length p.rest) n le) refl in
      let same = gave_is (take n p.rest) w m q (sym is ∙ e) in
      let taken : Took p (take n p.rest) m = record { parts = sym (take-append-drop n p.rest); bytes = IsBytes-drop n p.rest fits } in
      let facts : Took p (take n p.rest) m × (length (take n p.rest) ≡ n) × IsBytes (take n p.rest) = (taken, omega (arith, length-take n p.rest), IsBytes-take n p.rest fits) in
      subst (λ (x : List ℕ). Took p x q × (length x ≡ n) × IsBytes x) same.0
      (subst (λ (z : Place). Took p (take n p.rest) z × (length (take n p.rest) ≡ n) × IsBytes (take n p.rest)) same.1 facts)
]

pub number_ok : (w : Width) (limit : ℕ) → IsWide w limit → (p : Place) (n : ℕ) (q : Place) → IsBytes p.rest → number_at w p ≡ gave n q → Took p (to_be_bytes w n) q
unfolding number_at
number_ok w limit wide p n q fits e =
    let b = both_ok (bytes_at (byte_len w)) (λ bs. value (from_be_bytes w bs)) p n q e in
    let t = bytes_ok (byte_len w) p b.0 b.1 fits b.2 in
    let same = gave_is (from_be_bytes w b.0) n b.1 q b.3 in
    let text : b.0 ≡ to_be_bytes w n = sym (wide.back b.0 t.1 t.2) ∙ ap (to_be_bytes w) same.0 in
    subst (λ (z : Place). Took p (to_be_bytes w n) z) same.1 (subst (λ (x : List ℕ). Took p x b.1) text t.0)

pub byte_ok : (p : Place) (n : ℕ) (q : Place) → IsBytes p.rest → number_at w8 p ≡ gave n q → Took p (n ∷ []) q
unfolding number_at
byte_ok p n q fits e =
    let b = both_ok (bytes_at 1) (λ bs. value (from_be_bytes w8 bs)) p n q e in
    let t = bytes_ok 1 p b.0 b.1 fits b.2 in
    let same = gave_is (from_be_bytes w8 b.0) n b.1 q b.3 in
    let text : b.0 ≡ n ∷ [] = sym (byte_back b.0 t.1) ∙ ap (λ (k : ℕ). k ∷ []) same.0 in
    subst (λ (z : Place). Took p (n ∷ []) z) same.1 (subst (λ (x : List ℕ). Took p x b.1) text t.0)

pub within_ok : (low high : ℕ) (w : Width) (p : Place) (n : ℕ) (q : Place) → number_within low high w p ≡ gave n q → (number_at w p ≡ gave n q) × (is_within low high n ≡ true)
unfolding number_within
within_ok low high w p n q e = checked_ok (number_at w) (is_within low high) p n q e

-- ---- items, one after another
module _ {X : Type 0} (item : Plan → Reader Plan) (bytes : X → List ℕ) (add : Plan → X → Plan) (Fits : X → Type 0)
    (gives : (plan : Plan) (p : Place) (after : Plan) (q : Place) → IsBytes p.rest → item plan p ≡ gave after q → (x : X) × (after ≡ add plan x) × Took p (bytes x) q × Fits x) where
  abbrev pub all_added : Plan → List X → Plan
  all_added p [] = p
  all_added p (x ∷ xs) = all_added (add p x) xs

  pub times_ok : (n : ℕ) (plan : Plan) (p : Place) (after : Plan) (q : Place) → IsBytes p.rest → times n item plan p ≡ gave after q → (xs : List X) × (length xs ≡ n) × (after ≡ all_added plan xs) × Took p (flat_map bytes xs) q × AllByRecursion Fits xs
  unfolding times
  times_ok zero plan p after q fits e =
      let same = gave_is plan after p q e in
      ([], refl, sym same.0, subst (λ (z : Place). Took p [] z) same.1 (took_none p fits), tt)
  times_ok (suc n) plan p after q fits e =
      let b = then_ok (item plan p) (times n item) after q e in
      let one = gives plan p b.0 b.1 fits b.2 in
      let rest = times_ok n b.0 b.1 after q one.2.bytes b.3 in
      (one.0 ∷ rest.0, ap suc rest.1, rest.2 ∙ ap (λ (z : Plan). all_added z rest.0) one.1, took_then p b.1 q (bytes one.0) (flat_map bytes rest.0) one.2 rest.3, (one.3, rest.4))
