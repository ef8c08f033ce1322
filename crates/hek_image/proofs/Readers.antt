-- Readers read what was written, and leave what follows.
use Rattle.std.proofs.Common.{◌≡◌, ℕ, ◌+◌, ◌<◌, Bool, true, List, [], ◌∷◌, ◌++◌, length, Result, Ok, refl, ap, subst, ◌∙◌, append_assoc, arith, length-append}
use Rattle.std.specs.Int.{Width, w8, byte_len, from_be_bytes, to_be_bytes}
use Rattle.std.specs.List.{flat_map}
use Rattle.std.proofs.lemmas.Bool.{le-ltb}
use Rattle.std.proofs.lemmas.List.{take_at, drop_at}
use Rattle.hek_rules.specs.Plan.{Plan}
use Rattle.hek_image.specs.declared.fault.LoadFault.{LoadFault}
use Rattle.hek_image.specs.declared.fault.LoadFault.TheVariants.{BadField}
use Rattle.hek_image.specs.Loading.{Place, Reader, then_read, both, checked_from, required, checked_read, bytes_at, value, number_at, number_within, is_within, times}
use Rattle.hek_image.proofs.Wide.{IsWide, byte_again}

abbrev pub here : ℕ → List ℕ → Place
here at rest = record { at = at; rest = rest }

pub record Reads {A : Type 0} (r : Reader A) (text : List ℕ) (x : A) : Type 0 where
  pub reads : (at : ℕ) (more : List ℕ) → r (here at (text ++ more)) ≡ Ok (x, here (at + length text) more)

pub bytes_reads : (w : List ℕ) → Reads (bytes_at (length w)) w w
unfolding bytes_at
bytes_reads w = record { reads = λ at more. rw (le-ltb (length (w ++ more)) (length w) (omega (arith, length-append w more)), take_at w more (length w) refl, drop_at w more (length w) refl) refl }

pub both_reads : {A B : Type 0} (r : Reader A) (f : A → Reader B) (s t : List ℕ) (x : A) (y : B) → Reads r s x → Reads (f x) t y → Reads (both r f) (s ++ t) y
unfolding both
both_reads {A = A} {B = B} r f s t x y h k = record {
  reads = λ at more.
      let size : (at + length s) + length t ≡ at + length (s ++ t) = omega (arith, length-append s t) in
      ap (λ (bs : List ℕ). then_read (r (here at bs)) f) (append_assoc s t more)
      ∙ ap (λ (res : Result (A × Place) LoadFault). then_read res f) (h.reads at (t ++ more))
      ∙ k.reads (at + length s) more
      ∙ ap (λ (n : ℕ). Ok (y, here n more)) size;
}

-- a value made of what was read
pub then_reads : {A B : Type 0} (r : Reader A) (g : A → B) (s : List ℕ) (x : A) → Reads r s x → Reads (both r (λ a. value (g a))) s (g x)
unfolding both
then_reads {A = A} r g s x h = record { reads = λ at more. ap (λ (res : Result (A × Place) LoadFault). then_read res (λ a. value (g a))) (h.reads at more) }

pub checked_reads : {A : Type 0} (r : Reader A) (test : A → Bool) (s : List ℕ) (x : A) → test x ≡ true → Reads r s x → Reads (checked_read r test) s x
unfolding checked_read
checked_reads {A = A} r test s x e h = record {
  reads = λ at more.
      let passed : checked_from (Ok (x, here (at + length s) more)) test (BadField at) ≡ Ok (x, here (at + length s) more) = rw e refl in
      ap (λ (res : Result (A × Place) LoadFault). checked_from res test (BadField at)) (h.reads at more) ∙ passed;
}

pub required_reads : {A : Type 0} (r : Reader A) (test : A → Bool) (fault : LoadFault) (s : List ℕ) (x : A) → test x ≡ true → Reads r s x → Reads (required r test fault) s x
unfolding required
required_reads {A = A} r test fault s x e h = record {
  reads = λ at more.
      let passed : checked_from (Ok (x, here (at + length s) more)) test fault ≡ Ok (x, here (at + length s) more) = rw e refl in
      ap (λ (res : Result (A × Place) LoadFault). checked_from res test fault) (h.reads at more) ∙ passed;
}

pub number_reads : (w : Width) (limit : ℕ) → IsWide w limit → (n : ℕ) → n < limit → Reads (number_at w) (to_be_bytes w n) n
unfolding number_at
number_reads w limit wide n lt =
    let bytes = to_be_bytes w n in
    let it : Reads (bytes_at (byte_len w)) bytes bytes = subst (λ (k : ℕ). Reads (bytes_at k) bytes bytes) (wide.len n) (bytes_reads bytes) in
    subst (λ (m : ℕ). Reads (both (bytes_at (byte_len w)) (λ bs. value (from_be_bytes w bs))) bytes m) (wide.again n lt) (then_reads (bytes_at (byte_len w)) (λ bs. from_be_bytes w bs) bytes bytes it)

pub byte_reads : (n : ℕ) → Reads (number_at w8) (n ∷ []) n
unfolding number_at
byte_reads n = subst (λ (m : ℕ). Reads (both (bytes_at 1) (λ bs. value (from_be_bytes w8 bs))) (n ∷ []) m) (byte_again n) (then_reads (bytes_at 1) (λ bs. from_be_bytes w8 bs) (n ∷ []) (n ∷ []) (bytes_reads (n ∷ [])))

pub within_reads : (low high : ℕ) (w : Width) (s : List ℕ) (n : ℕ) → is_within low high n ≡ true → Reads (number_at w) s n → Reads (number_within low high w) s n
unfolding number_within
within_reads low high w s n e h = checked_reads (number_at w) (is_within low high) s n e h

-- ---- items, one after another
module _ {X : Type 0} (item : Plan → Reader Plan) (bytes : X → List ℕ) (add : Plan → X → Plan) (Good : Plan → X → Type 0)
    (says : (p : Plan) (x : X) → Good p x → Reads (item p) (bytes x) (add p x)) where
  abbrev pub AllGood : Plan → List X → Type 0
  AllGood p [] = Unit {0}
  AllGood p (x ∷ xs) = Good p x × AllGood (add p x) xs

  abbrev pub added : Plan → List X → Plan
  added p [] = p
  added p (x ∷ xs) = added (add p x) xs

  pub times_reads : (p : Plan) (xs : List X) → AllGood p xs → Reads (times (length xs) item p) (flat_map bytes xs) (added p xs)
  unfolding times both
  times_reads p [] h = record { reads = λ at more. let same : at ≡ at + 0 = omega arith in ap (λ (n : ℕ). Ok (p, here n more)) same }
  times_reads p (x ∷ xs) h = record { reads = (both_reads (item p) (times (length xs) item) (bytes x) (flat_map bytes xs) (add p x) (added (add p x) xs) (says p x h.0) (times_reads (add p x) xs h.1)).reads }
