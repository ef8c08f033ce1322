-- What is certain of a source's bytes, field by field: no bytes after them change it.
use Rattle.std.proofs.Common.{◌≡◌, ℕ, suc, ◌+◌, ◌-◌, ◌*◌, ◌<◌, ◌≤◌, List, [], ◌∷◌, ◌++◌, length, take, Result, Ok, Err, refl, sym, ap, subst, ◌∙◌, append_assoc, arith, inl, inr, ◌⊎◌, length-append}
use Rattle.std.proofs.Math.Nat.{mul-le-mul_right}
use Rattle.std.proofs.Math.Seq.{take-append-add}
use Rattle.std.proofs.lemmas.List.{take-take, take-append-le, take_all}
use Rattle.hek_rules.specs.Plan.{Plan}
use Rattle.hek_image.specs.declared.fault.LoadFault.{LoadFault}
use Rattle.hek_image.specs.declared.fault.LoadFault.TheVariants as load
use Rattle.hek_image.specs.Gives.{FieldFails}
use Rattle.std.specs.Int.{w8}
use Rattle.hek_image.specs.Loading.{Place, Reader, then_read, both, checked_read, bytes_at, number_at, number_within, times}
use Rattle.hek_image.specs.Taking.{FaultHolds, Holds, Takes}
use Rattle.hek_image.proofs.Steady.{IsSteady, Agrees}
use Rattle.hek_image.proofs.Taken.{gave}
use Rattle.hek_image.proofs.Readers.{here}
use Rattle.hek_image.proofs.Exact.{IsExact}
use Rattle.hek_image.proofs.Times.{more, done}

nothing : (xs : List ℕ) → length xs ≡ 0 → xs ≡ []
nothing [] h = refl
nothing (y ∷ ys) h = absurd (omega arith)

-- ---- one take after the bytes that a buffer holds
pub gave_more : (held size count : ℕ) (buffer front back rest old new : List ℕ) → held ≤ size → front ≡ take held (take size buffer) → length front ≡ held → count ≤ length back → old ≡ take count back ++ new → take held buffer ++ old ≡ take (held + count) ((front ++ back) ++ rest) ++ new
gave_more held size count buffer front back rest old new le is len few gave =
    let kept : front ≡ take held buffer = is ∙ take-take held size buffer le in
    let all : take (held + count) ((front ++ back) ++ rest) ≡ front ++ take count back =
    ap (take (held + count)) (append_assoc front back rest)
    ∙ ap (λ (n : ℕ). take (n + count) (front ++ (back ++ rest))) (sym len)
    ∙ take-append-add front (back ++ rest) count
    ∙ ap (λ (bs : List ℕ). front ++ bs) (take-append-le count back rest few) in
    ap (λ (bs : List ℕ). take held buffer ++ bs) gave
    ∙ ap (λ (bs : List ℕ). bs ++ (take count back ++ new)) (sym kept)
    ∙ sym (append_assoc front (take count back) new)
    ∙ ap (λ (bs : List ℕ). bs ++ new) (sym all)

-- ---- bytes that a buffer holds
module _ {Y : Type 0} (P : Y → Type 0) (size : ℕ) (r : Reader Y) (steady : IsSteady P size r) (at : ℕ) (text : List ℕ) where
  agrees : (s : Result (Y × Place) LoadFault) (more : List ℕ) → r (here at text) ≡ s → Agrees P (here at text) more size s (r (here at (text ++ more)))
  agrees s more e = subst (λ (t : Result (Y × Place) LoadFault). Agrees P (here at text) more size t (r (here at (text ++ more)))) e (steady.agrees (here at text) more)

  -- bytes that end too early are fewer than `size`
  pub short_is_less : r (here at text) ≡ Err load.Short → length text < size
  short_is_less e = agrees (Err load.Short) [] e

  fault_holds : (e : LoadFault) (rest : List ℕ) → (e ≡ load.Short → ⊥) → FieldFails e (r (here at text)) → FaultHolds e r at text rest
  fault_holds load.NoMemory rest other h = tt
  fault_holds load.Read rest other h = absurd h
  fault_holds load.Short rest other h = absurd (other refl)
  fault_holds load.BadMagic rest other h = λ more. agrees (Err load.BadMagic) more h
  fault_holds load.BadVersion rest other h = λ more. agrees (Err load.BadVersion) more h
  fault_holds (load.BadField n) rest other h = λ more. agrees (Err (load.BadField n)) more h
  fault_holds load.Trailing rest other h = λ more. agrees (Err load.Trailing) more h

  pub took_fault : {X : Type 0} (view : X → Y × ℕ) (e : LoadFault) (whole rest : List ℕ) → (e ≡ load.Short → ⊥) → FieldFails e (r (here at text)) → whole ≡ text ++ rest → length text ≤ size → Takes view r at size (Err e) whole rest
  took_fault view e whole rest other h parts few = record { text = text; parts = parts; few = few; holds = fault_holds e rest other h }

  pub took_value : {X : Type 0} (view : X → Y × ℕ) (x : X) (q : Place) (whole rest : List ℕ) → IsExact size r → r (here at text) ≡ gave (view x).0 q → q.at ≡ (view x).1 → whole ≡ text ++ rest → length text ≤ size → Takes view r at size (Ok x) whole rest
  took_value view x q whole rest exact h next parts few =
      let none : q.rest ≡ [] = nothing q.rest (omega (arith, (exact.exact (here at text) (view x).0 q h).0)) in
      record {
        text = text;
        parts = parts;
        few = few;
        holds = λ more. (agrees (gave (view x).0 q) more h).0 ∙ ap (λ (bs : List ℕ). gave (view x).0 (here q.at (bs ++ more))) none ∙ ap (λ (n : ℕ). gave (view x).0 (here n more)) next;
      }

  -- the source failed, or has no more bytes
  pub took_end : {X : Type 0} (view : X → Y × ℕ) (e : LoadFault) (whole rest : List ℕ) → (e ≡ load.Short) ⊎ (e ≡ load.Read) → (e ≡ load.Short → rest ≡ []) → r (here at text) ≡ Err load.Short → whole ≡ text ++ rest → Takes view r at size (Err e) whole rest
  took_end {X = X} view e whole rest which ends h parts =
      let few : length text < size = short_is_less h in
      record {
        text = text;
        parts = parts;
        few = omega arith;
        holds = elim which [
          | inl is ↦ subst (λ (d : LoadFault). FaultHolds d r at text rest) (sym is) (h, ends is)
          | inr is ↦ subst (λ (d : LoadFault). FaultHolds d r at text rest) (sym is) h
        ];
      }

-- the source failed, or has no more bytes, and gave none
pub took_nothing : {X Y : Type 0} (view : X → Y × ℕ) (P : Y → Type 0) (size : ℕ) (r : Reader Y) (at : ℕ) (e : LoadFault) (whole rest : List ℕ) → IsSteady P size r → (e ≡ load.Short) ⊎ (e ≡ load.Read) → (e ≡ load.Short → rest ≡ []) → r (here at []) ≡ Err load.Short → whole ≡ rest → Takes view r at size (Err e) whole rest
took_nothing view P size r at e whole rest steady which ends h same = took_end P size r steady at [] view e whole rest which ends h same

pub nothing_within : (low high at : ℕ) → number_within low high w8 (here at []) ≡ Err load.Short
unfolding number_within checked_read number_at both bytes_at
nothing_within low high at = refl

-- a text that fills a buffer
pub all_held : (n : ℕ) (buffer whole rest : List ℕ) → length buffer ≤ n → whole ≡ take n buffer ++ rest → whole ≡ buffer ++ rest
all_held n buffer whole rest le e = e ∙ ap (λ (bs : List ℕ). bs ++ rest) (take_all n buffer le)

-- ---- one reader after another
fault_first : {A B : Type 0} (e : LoadFault) (r : Reader A) (f : A → Reader B) (at : ℕ) (text rest : List ℕ) → FaultHolds e r at text rest → FaultHolds e (both r f) at text rest
unfolding both
fault_first load.NoMemory r f at text rest h = tt
fault_first {A = A} load.Read r f at text rest h = ap (λ (s : Result (A × Place) LoadFault). then_read s f) h
fault_first {A = A} load.Short r f at text rest h = (ap (λ (s : Result (A × Place) LoadFault). then_read s f) h.0, h.1)
fault_first {A = A} load.BadMagic r f at text rest h = λ more. ap (λ (s : Result (A × Place) LoadFault). then_read s f) (h more)
fault_first {A = A} load.BadVersion r f at text rest h = λ more. ap (λ (s : Result (A × Place) LoadFault). then_read s f) (h more)
fault_first {A = A} (load.BadField n) r f at text rest h = λ more. ap (λ (s : Result (A × Place) LoadFault). then_read s f) (h more)
fault_first {A = A} load.Trailing r f at text rest h = λ more. ap (λ (s : Result (A × Place) LoadFault). then_read s f) (h more)

pub then_fault : {A B X Y : Type 0} (v : X → A × ℕ) (w : Y → B × ℕ) (r : Reader A) (f : A → Reader B) (at m n : ℕ) (e : LoadFault) (result : Result Y LoadFault) (whole rest : List ℕ) → m ≤ n → result ≡ Err e → Takes v r at m (Err e) whole rest → Takes w (both r f) at n result whole rest
then_fault {Y = Y} v w r f at m n e result whole rest le is t =
    let it : Takes w (both r f) at n (Err e) whole rest = record { text = t.text; parts = t.parts; few = omega (arith, t.few); holds = fault_first e r f at t.text rest t.holds } in
    subst (λ (s : Result Y LoadFault). Takes w (both r f) at n s whole rest) (sym is) it

abbrev pub IsAhead : {B : Type 0} → Reader B → ℕ → List ℕ → Reader B → ℕ → Type 0
IsAhead r at text s next = (more : List ℕ) → r (here at (text ++ more)) ≡ s (here next more)

-- if a reader goes on as another one after a text, its faults are those of the other
fault_ahead : {B : Type 0} (e : LoadFault) (r s : Reader B) (at next : ℕ) (text last rest : List ℕ) → IsAhead r at text s next → FaultHolds e s next last rest → FaultHolds e r at (text ++ last) rest
fault_ahead load.NoMemory r s at next text last rest a h = tt
fault_ahead load.Read r s at next text last rest a h = a last ∙ h
fault_ahead load.Short r s at next text last rest a h = (a last ∙ h.0, h.1)
fault_ahead load.BadMagic r s at next text last rest a h = λ more. ap (λ (bs : List ℕ). r (here at bs)) (append_assoc text last more) ∙ a (last ++ more) ∙ h more
fault_ahead load.BadVersion r s at next text last rest a h = λ more. ap (λ (bs : List ℕ). r (here at bs)) (append_assoc text last more) ∙ a (last ++ more) ∙ h more
fault_ahead (load.BadField n) r s at next text last rest a h = λ more. ap (λ (bs : List ℕ). r (here at bs)) (append_assoc text last more) ∙ a (last ++ more) ∙ h more
fault_ahead load.Trailing r s at next text last rest a h = λ more. ap (λ (bs : List ℕ). r (here at bs)) (append_assoc text last more) ∙ a (last ++ more) ∙ h more

holds_ahead : {B X : Type 0} (w : X → B × ℕ) (r s : Reader B) (at next : ℕ) (result : Result X LoadFault) (text last rest : List ℕ) → IsAhead r at text s next → Holds w result s next last rest → Holds w result r at (text ++ last) rest
holds_ahead w r s at next (Ok x) text last rest a h = λ more. ap (λ (bs : List ℕ). r (here at bs)) (append_assoc text last more) ∙ a (last ++ more) ∙ h more
holds_ahead w r s at next (Err e) text last rest a h = fault_ahead e r s at next text last rest a h

pub takes_ahead : {B X : Type 0} (w : X → B × ℕ) (r s : Reader B) (at next m n size : ℕ) (result : Result X LoadFault) (text whole mid rest : List ℕ) → IsAhead r at text s next → whole ≡ text ++ mid → length text ≤ m → m + n ≤ size → Takes w s next n result mid rest → Takes w r at size result whole rest
takes_ahead w r s at next m n size result text whole mid rest a parts few le t = record {
  text = text ++ t.text;
  parts = parts ∙ ap (λ (bs : List ℕ). text ++ bs) t.parts ∙ sym (append_assoc text t.text rest);
  few = omega (arith, t.few, length-append text t.text);
  holds = holds_ahead w r s at next result text t.text rest a t.holds;
}

pub then_takes : {A B X Y : Type 0} (v : X → A × ℕ) (w : Y → B × ℕ) (r : Reader A) (f : A → Reader B) (s : Reader B) (at next m n size : ℕ) (x : X) (result : Result Y LoadFault) (whole mid rest : List ℕ) → m + n ≤ size → (v x).1 ≡ next → f (v x).0 ≡ s → Takes v r at m (Ok x) whole mid → Takes w s next n result mid rest → Takes w (both r f) at size result whole rest
unfolding both
then_takes {A = A} {B = B} v w r f s at next m n size x result whole mid rest le place same one two =
    let goes_on : IsAhead (both r f) at one.text (f (v x).0) (v x).1 = λ more. ap (λ (s : Result (A × Place) LoadFault). then_read s f) (one.holds more) in
    let there : IsAhead (both r f) at one.text (f (v x).0) next = subst (λ (k : ℕ). IsAhead (both r f) at one.text (f (v x).0) k) place goes_on in
    let then : IsAhead (both r f) at one.text s next = subst (λ (q : Reader B). IsAhead (both r f) at one.text q next) same there in
    takes_ahead w (both r f) s at next m n size result one.text whole mid rest then one.parts one.few le two

-- ---- several items: the state after the first i of them
pub record Ahead (item : Plan → Reader Plan) (count i : ℕ) (first : Plan) (start : ℕ) (plan : Plan) (at size : ℕ) (whole rest : List ℕ) : Type 0 where
  pub text : List ℕ
  pub parts : whole ≡ text ++ rest
  pub few : length text ≤ i * size
  pub ahead : IsAhead (times count item first) start text (times (count - i) item plan) at

pub at_first : (item : Plan → Reader Plan) (count : ℕ) (plan : Plan) (at size : ℕ) (whole : List ℕ) → Ahead item count 0 plan at plan at size whole whole
at_first item count plan at size whole =
    let all : count ≡ count - 0 = omega arith in
    record { text = []; parts = refl; few = omega arith; ahead = λ more. ap (λ (n : ℕ). times n item plan (here at more)) all }

pub one_more_taken : (item : Plan → Reader Plan) (count i : ℕ) (first : Plan) (start : ℕ) (plan after : Plan) (at next size : ℕ) (whole mid rest : List ℕ) → i < count → Ahead item count i first start plan at size whole mid → Takes (λ (n : ℕ). (after, n)) (item plan) at size (Ok next) mid rest → Ahead item count (i + 1) first start after next size whole rest
one_more_taken item count i first start plan after at next size whole mid rest lt a t = record {
  text = a.text ++ t.text;
  parts = a.parts ∙ ap (λ (bs : List ℕ). a.text ++ bs) t.parts ∙ sym (append_assoc a.text t.text rest);
  few = let sum : (i + 1) * size ≡ i * size + size = omega arith in omega (arith, a.few, t.few, length-append a.text t.text);
  ahead = λ rest2. ap (λ (bs : List ℕ). times count item first (here start bs)) (append_assoc a.text t.text rest2) ∙ a.ahead (t.text ++ rest2) ∙ more item count i plan after (here at (t.text ++ rest2)) (here next rest2) lt (t.holds rest2);
}

fault_times : (item : Plan → Reader Plan) (k : ℕ) (plan : Plan) (e : LoadFault) (at : ℕ) (text rest : List ℕ) → FaultHolds e (item plan) at text rest → FaultHolds e (times (suc k) item plan) at text rest
unfolding times
fault_times item k plan load.NoMemory at text rest h = tt
fault_times item k plan load.Read at text rest h = ap (λ (s : Result (Plan × Place) LoadFault). then_read s (times k item)) h
fault_times item k plan load.Short at text rest h = (ap (λ (s : Result (Plan × Place) LoadFault). then_read s (times k item)) h.0, h.1)
fault_times item k plan load.BadMagic at text rest h = λ more. ap (λ (s : Result (Plan × Place) LoadFault). then_read s (times k item)) (h more)
fault_times item k plan load.BadVersion at text rest h = λ more. ap (λ (s : Result (Plan × Place) LoadFault). then_read s (times k item)) (h more)
fault_times item k plan (load.BadField n) at text rest h = λ more. ap (λ (s : Result (Plan × Place) LoadFault). then_read s (times k item)) (h more)
fault_times item k plan load.Trailing at text rest h = λ more. ap (λ (s : Result (Plan × Place) LoadFault). then_read s (times k item)) (h more)

pub fault_of_one : {X : Type 0} (view : X → Plan × ℕ) (item : Plan → Reader Plan) (count i : ℕ) (first : Plan) (start : ℕ) (plan after : Plan) (at size : ℕ) (e : LoadFault) (whole mid rest : List ℕ) → i < count → Ahead item count i first start plan at size whole mid → Takes (λ (n : ℕ). (after, n)) (item plan) at size (Err e) mid rest → Takes view (times count item first) start (count * size) (Err e) whole rest
fault_of_one view item count i first start plan after at size e whole mid rest lt a t =
    let one : count - i ≡ suc (count - (i + 1)) = omega arith in
    let sum : (i + 1) * size ≡ i * size + size = omega arith in
    let le : (i + 1) * size ≤ count * size = mul-le-mul_right size (omega arith) in
    let there : FaultHolds e (times (count - i) item plan) at t.text rest = subst (λ (k : ℕ). FaultHolds e (times k item plan) at t.text rest) (sym one) (fault_times item (count - (i + 1)) plan e at t.text rest t.holds) in
    record {
      text = a.text ++ t.text;
      parts = a.parts ∙ ap (λ (bs : List ℕ). a.text ++ bs) t.parts ∙ sym (append_assoc a.text t.text rest);
      few = omega (arith, a.few, t.few, length-append a.text t.text);
      holds = fault_ahead e (times count item first) (times (count - i) item plan) start at a.text t.text rest a.ahead there;
    }

pub all_taken : (item : Plan → Reader Plan) (count i : ℕ) (first : Plan) (start : ℕ) (plan : Plan) (at size : ℕ) (whole rest : List ℕ) → i ≤ count → count ≤ i → Ahead item count i first start plan at size whole rest → Takes (λ (n : ℕ). (plan, n)) (times count item first) start (count * size) (Ok at) whole rest
all_taken item count i first start plan at size whole rest le ge a = record {
  text = a.text;
  parts = a.parts;
  few = let mul : i * size ≤ count * size = mul-le-mul_right size le in omega (arith, a.few);
  holds = λ more. a.ahead more ∙ done item count i plan (here at more) ge;
}
