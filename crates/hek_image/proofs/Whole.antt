-- An image has at most 22,083,414 bytes, and more bytes after it change no fault but Short.
use Rattle.std.proofs.Common.{◌≡◌, ℕ, zero, suc, ◌+◌, ◌-◌, ◌<◌, ◌≤◌, false, List, [], ◌++◌, length, take, Result, Ok, Err, refl, ap, subst, ◌∙◌, arith, inl, inr, length-append}
use Rattle.std.specs.Prelude.{◌==◌}
use Rattle.std.specs.Int.{w8, w16, w32, w64}
use Rattle.std.proofs.lemmas.Bool.{cases_Bool, eqb-true, ne_eqb}
use Rattle.std.proofs.Math.Seq.{take-append_seam}
use Rattle.hek_rules.specs.Plan.{Plan, IsPlan}
use Rattle.hek_image.specs.declared.fault.LoadFault.{LoadFault}
use Rattle.hek_image.specs.declared.fault.LoadFault.TheVariants as load
use Rattle.hek_image.specs.Loading.{Place, Header, row_at, txn_at, kind_at, step_at, magic_at, image_version, header_at, plan_at, ended, loading}
use Rattle.hek_image.specs.Schedules.{image, image_in}
use Rattle.hek_image.specs.Gives.{given_between}
use Rattle.hek_image.proofs.ImageAgain.{image_again}
use Rattle.hek_image.proofs.Steady.{IsSteady, Agrees, FaultAgrees, Any, wider, bytes_steady, value_steady, both_steady, checked_steady, required_steady, times_steady, number_steady, within_steady}

pub row_steady : (plan : Plan) → IsSteady Any 16 (row_at plan)
unfolding row_at
row_steady plan = both_steady Any Any 8 8 _ _ (checked_steady Any Any 8 _ _ (λ k any e. tt) (number_steady w64)) (λ key any. both_steady Any Any 8 0 _ _ (number_steady w64) (λ v any2. value_steady Any _ tt))

txn_steady : (version : ℕ) (plan : Plan) → IsSteady Any 34 (txn_at version plan)
unfolding txn_at
txn_steady version plan = both_steady (λ n. n ≤ version + 1) Any 1 33 _ _ (within_steady 1 (version + 1) w8) (λ level low.
    both_steady (λ n. n ≤ 32) Any 1 32 _ _ (within_steady 1 32 w8) (λ len high.
    both_steady Any Any 32 0 _ _ (checked_steady Any Any 32 _ _ (λ w any e. tt) (wider Any len 32 _ high (bytes_steady len))) (λ name any. value_steady Any _ tt)))

pub kind_steady : IsSteady Any 1 kind_at
unfolding kind_at
kind_steady = both_steady Any Any 1 0 _ _ (checked_steady Any Any 1 _ _ (λ k any e. tt) (number_steady w8)) (λ n any. value_steady Any _ tt)

pub step_steady : (plan : Plan) → IsSteady Any 21 (step_at plan)
unfolding step_at
step_steady plan = both_steady Any Any 1 20 _ _ kind_steady (λ k any.
    both_steady Any Any 4 16 _ _ (checked_steady Any Any 4 _ _ (λ x any e. tt) (number_steady w32)) (λ t any2.
    both_steady Any Any 8 8 _ _ (checked_steady Any Any 8 _ _ (λ x any e. tt) (number_steady w64)) (λ a any3.
    both_steady Any Any 8 0 _ _ (checked_steady Any Any 8 _ _ (λ x any e. tt) (number_steady w64)) (λ b any4. value_steady Any _ tt))))

magic_steady : IsSteady Any 4 magic_at
unfolding magic_at
magic_steady = required_steady Any Any 4 _ _ load.BadMagic (λ C D d. d) (λ x any e. tt) (bytes_steady 4)

version_steady : IsSteady Any 2 image_version
unfolding image_version
version_steady = required_steady Any Any 2 _ _ load.BadVersion (λ C D d. d) (λ x any e. tt) (number_steady w16)

pub record AreFew (head : Plan × Header) : Type 0 where
  pub rows : head.1.rows ≤ 65536
  pub txns : head.1.txns ≤ 1024
  pub steps : head.1.steps ≤ 1000000

pub header_steady : IsSteady AreFew 22 header_at
unfolding header_at
header_steady = both_steady Any AreFew 4 18 _ _ magic_steady (λ m any.
    both_steady Any AreFew 2 16 _ _ version_steady (λ v any2.
    both_steady (λ n. n ≤ 1024) AreFew 4 12 _ _ (within_steady 1 1024 w32) (λ buckets b.
    both_steady (λ n. n ≤ 65536) AreFew 4 8 _ _ (within_steady 0 65536 w32) (λ rows r.
    both_steady (λ n. n ≤ 1024) AreFew 4 4 _ _ (within_steady 0 1024 w32) (λ txns t.
    both_steady (λ n. n ≤ 1000000) AreFew 4 0 _ _ (within_steady 0 1000000 w32) (λ steps s. value_steady AreFew _ (record { rows = r; txns = t; steps = s })))))))

abbrev longest : ℕ
longest = 22083414

pub plan_steady : IsSteady Any longest plan_at
unfolding plan_at
plan_steady = both_steady AreFew Any 22 22083392 _ _ header_steady (λ head few.
    both_steady Any Any 1048576 21034816 _ _ (times_steady 16 head.1.rows 65536 row_at head.0 few.rows row_steady) (λ plan any.
    both_steady Any Any 34816 21000000 _ _ (times_steady 34 head.1.txns 1024 (txn_at head.1.version) plan few.txns (txn_steady head.1.version)) (λ full any2.
    times_steady 21 head.1.steps 1000000 step_at full few.steps step_steady)))

-- what bytes give, and what they give with more bytes after them
abbrev LoadAgrees : List ℕ → Result Plan LoadFault → Result Plan LoadFault → Type 0
LoadAgrees bytes (Ok p) s = length bytes ≤ longest
LoadAgrees bytes (Err e) s = FaultAgrees e (length bytes < longest) (s ≡ Err e)

some_left : (n : ℕ) → (n == 0) ≡ false → 0 < n
some_left zero e = absurd cc
some_left (suc n) e = omega arith

ended_agrees : (bytes more : List ℕ) (r s : Result (Plan × Place) LoadFault) → Agrees Any (record { at = 0; rest = bytes }) more longest r s → LoadAgrees bytes (ended r) (ended s)
ended_agrees bytes more (Ok x) s g = elim (cases_Bool (length x.1.rest == 0)) [
  | inl e ↦ let none : length x.1.rest ≡ 0 = eqb-true (length x.1.rest) 0 e in rw e (omega (arith, g.1))
  | inr e ↦
      let some : (length (x.1.rest ++ more) == 0) ≡ false = ne_eqb (length (x.1.rest ++ more)) 0 (λ h. absurd (omega (arith, some_left (length x.1.rest) e, length-append x.1.rest more))) in
      rw (e, g.0, some) refl
]
ended_agrees bytes more (Err load.Short) s g = g
ended_agrees bytes more (Err load.BadMagic) s g = rw g refl
ended_agrees bytes more (Err load.BadVersion) s g = rw g refl
ended_agrees bytes more (Err (load.BadField n)) s g = rw g refl
ended_agrees bytes more (Err load.Trailing) s g = rw g refl
ended_agrees bytes more (Err load.Read) s g = rw g refl
ended_agrees bytes more (Err load.NoMemory) s g = rw g refl

loading_agrees : (bytes more : List ℕ) → LoadAgrees bytes (loading bytes) (loading (bytes ++ more))
unfolding loading
loading_agrees bytes more = ended_agrees bytes more _ _ (plan_steady.agrees (record { at = 0; rest = bytes }) more)

whole_plan : (p : Plan) (bytes more : List ℕ) → loading bytes ≡ Ok p → length bytes ≤ longest
whole_plan p bytes more h = subst (λ (r : Result Plan LoadFault). LoadAgrees bytes r (loading (bytes ++ more))) h (loading_agrees bytes more)

-- ---- what a source gave before it failed
pub given_is : (whole bytes more : List ℕ) → whole ≡ bytes ++ more → given_between whole more ≡ bytes
given_is whole bytes more parts =
    let count : length whole - length more ≡ length bytes = omega (arith, ap length parts, length-append bytes more) in
    ap (λ (n : ℕ). take n whole) count ∙ ap (take (length bytes)) parts ∙ take-append_seam bytes more

-- ---- the length of an image, of any version: two versions differ in the version field alone
pub image_bounded : (version : ℕ) (p : Plan) → IsPlan p → length (image_in version p) ≤ longest
image_bounded version p is = whole_plan p (image p) [] (image_again p is)
