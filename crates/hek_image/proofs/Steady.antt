-- More bytes at the end change no value and no fault but Short, and Short means that the bytes are too few.
use Rattle.std.proofs.Common.{◌≡◌, ℕ, zero, suc, ◌+◌, ◌*◌, ◌<◌, ◌≤◌, Bool, true, List, ◌++◌, length, Result, Ok, Err, refl, ap, subst, arith, inl, inr, length-append, length-drop}
use Rattle.std.specs.Prelude.{nat_le}
use Rattle.std.specs.Int.{Width, byte_len}
use Rattle.std.proofs.lemmas.Bool.{cases_lt, lt-ltb, le-ltb, cases_Bool, and_parts, leb-true}
use Rattle.std.proofs.Math.Nat.{mul-le-mul_right}
use Rattle.std.proofs.lemmas.List.{take-append-le, drop-append-le}
use Rattle.hek_rules.specs.Plan.{Plan}
use Rattle.hek_image.specs.declared.fault.LoadFault.{LoadFault}
use Rattle.hek_image.specs.declared.fault.LoadFault.TheVariants as load
use Rattle.hek_image.specs.Loading.{Place, Reader, then_read, both, checked_from, required, checked_read, bytes_at, value, number_at, number_within, is_within, times}

abbrev pub longer : Place → List ℕ → Place
longer p more = record { at = p.at; rest = p.rest ++ more }

-- one fact for Short, and another for every other fault
abbrev pub FaultAgrees : LoadFault → Type 0 → Type 0 → Type 0
FaultAgrees load.Short short other = short
FaultAgrees load.BadMagic short other = other
FaultAgrees load.BadVersion short other = other
FaultAgrees (load.BadField n) short other = other
FaultAgrees load.Trailing short other = other
FaultAgrees load.Read short other = other
FaultAgrees load.NoMemory short other = other

pub fault_agrees : {A B C D : Type 0} (e : LoadFault) → (A → C) → (B → D) → FaultAgrees e A B → FaultAgrees e C D
fault_agrees load.Short f g h = f h
fault_agrees load.BadMagic f g h = g h
fault_agrees load.BadVersion f g h = g h
fault_agrees (load.BadField n) f g h = g h
fault_agrees load.Trailing f g h = g h
fault_agrees load.Read f g h = g h
fault_agrees load.NoMemory f g h = g h

-- what r gives at p, and at p with more bytes after it
abbrev pub Agrees : {A : Type 0} → (A → Type 0) → Place → List ℕ → ℕ → Result (A × Place) LoadFault → Result (A × Place) LoadFault → Type 0
Agrees P p more size (Ok x) s = (s ≡ Ok (x.0, longer x.1 more)) × (length p.rest ≤ size + length x.1.rest) × P x.0
Agrees P p more size (Err e) s = FaultAgrees e (length p.rest < size) (s ≡ Err e)

-- r takes at most `size` bytes, its values have P, and more bytes change no fault but Short
pub record IsSteady {A : Type 0} (P : A → Type 0) (size : ℕ) (r : Reader A) : Type 0 where
  pub agrees : (p : Place) (more : List ℕ) → Agrees P p more size (r p) (r (longer p more))

abbrev pub Any : {A : Type 0} → A → Type 0
Any x = Unit {0}

wider_agrees : {A : Type 0} (P : A → Type 0) (p : Place) (more : List ℕ) (m n : ℕ) (r s : Result (A × Place) LoadFault) → m ≤ n → Agrees P p more m r s → Agrees P p more n r s
wider_agrees P p more m n (Ok x) s le g = (g.0, omega (arith, g.1), g.2)
wider_agrees P p more m n (Err e) s le g = fault_agrees e (λ (lt : length p.rest < m). omega arith) (λ (same : s ≡ Err e). same) g

pub wider : {A : Type 0} (P : A → Type 0) (m n : ℕ) (r : Reader A) → m ≤ n → IsSteady P m r → IsSteady P n r
wider P m n r le h = record { agrees = λ p more. wider_agrees P p more m n (r p) (r (longer p more)) le (h.agrees p more) }

pub bytes_steady : (n : ℕ) → IsSteady Any n (bytes_at n)
unfolding bytes_at
bytes_steady n = record {
  agrees = λ p more. elim (cases_lt (length p.rest) n) [
    | inl lt ↦ rw (lt-ltb (length p.rest) n lt) lt
    | inr le ↦ rw (le-ltb (length p.rest) n le, le-ltb (length (p.rest ++ more)) n (omega (arith, length-append p.rest more)), take-append-le n p.rest more le, drop-append-le n p.rest more le) (refl, omega (arith, length-drop n p.rest), tt)
  ];
}

pub value_steady : {A : Type 0} (P : A → Type 0) (x : A) → P x → IsSteady P 0 (value x)
value_steady P x h = record { agrees = λ p more. (refl, omega arith, h) }

-- one reader after another
after_agrees : {B : Type 0} (Q : B → Type 0) (p q : Place) (more : List ℕ) (m n : ℕ) (r s : Result (B × Place) LoadFault) → length p.rest ≤ m + length q.rest → Agrees Q q more n r s → Agrees Q p more (m + n) r s
after_agrees Q p q more m n (Ok y) s le g = (g.0, omega (arith, g.1), g.2)
after_agrees Q p q more m n (Err e) s le g = fault_agrees e (λ (lt : length q.rest < n). omega arith) (λ (same : s ≡ Err e). same) g

then_agrees : {A B : Type 0} (P : A → Type 0) (Q : B → Type 0) (p : Place) (more : List ℕ) (m n : ℕ) (f : A → Reader B) (r s : Result (A × Place) LoadFault) → ((x : A) → P x → IsSteady Q n (f x)) → Agrees P p more m r s → Agrees Q p more (m + n) (then_read r f) (then_read s f)
then_agrees {A = A} P Q p more m n f (Err e) s h g = fault_agrees e (λ (lt : length p.rest < m). omega arith) (λ (same : s ≡ Err e). ap (λ (t : Result (A × Place) LoadFault). then_read t f) same) g
then_agrees P Q p more m n f (Ok x) s h g = rw g.0 (after_agrees Q p x.1 more m n (f x.0 x.1) (f x.0 (longer x.1 more)) g.1 ((h x.0 g.2).agrees x.1 more))

pub both_steady : {A B : Type 0} (P : A → Type 0) (Q : B → Type 0) (m n : ℕ) (r : Reader A) (f : A → Reader B) → IsSteady P m r → ((x : A) → P x → IsSteady Q n (f x)) → IsSteady Q (m + n) (both r f)
unfolding both
both_steady P Q m n r f h k = record { agrees = λ p more. then_agrees P Q p more m n f (r p) (r (longer p more)) k (h.agrees p more) }

-- a test, and a fault that isn't Short
checked_agrees : {A : Type 0} (P Q : A → Type 0) (p : Place) (more : List ℕ) (m : ℕ) (test : A → Bool) (fault : LoadFault) (r s : Result (A × Place) LoadFault) → ((C D : Type 0) → D → FaultAgrees fault C D) → ((x : A) → P x → test x ≡ true → Q x) → Agrees P p more m r s → Agrees Q p more m (checked_from r test fault) (checked_from s test fault)
checked_agrees {A = A} P Q p more m test fault (Err e) s other keeps g = fault_agrees e (λ (lt : length p.rest < m). lt) (λ (same : s ≡ Err e). ap (λ (t : Result (A × Place) LoadFault). checked_from t test fault) same) g
checked_agrees P Q p more m test fault (Ok x) s other keeps g = elim (cases_Bool (test x.0)) [
  | inl e ↦ rw (g.0, e) (refl, g.1, keeps x.0 g.2 e)
  | inr e ↦ rw (g.0, e) (other _ _ refl)
]

pub checked_steady : {A : Type 0} (P Q : A → Type 0) (m : ℕ) (r : Reader A) (test : A → Bool) → ((x : A) → P x → test x ≡ true → Q x) → IsSteady P m r → IsSteady Q m (checked_read r test)
unfolding checked_read
checked_steady P Q m r test keeps h = record { agrees = λ p more. checked_agrees P Q p more m test (load.BadField p.at) (r p) (r (longer p more)) (λ C D d. d) keeps (h.agrees p more) }

pub required_steady : {A : Type 0} (P Q : A → Type 0) (m : ℕ) (r : Reader A) (test : A → Bool) (fault : LoadFault) → ((C D : Type 0) → D → FaultAgrees fault C D) → ((x : A) → P x → test x ≡ true → Q x) → IsSteady P m r → IsSteady Q m (required r test fault)
unfolding required
required_steady P Q m r test fault other keeps h = record { agrees = λ p more. checked_agrees P Q p more m test fault (r p) (r (longer p more)) other keeps (h.agrees p more) }

-- items that each take at most m bytes
times_exact : (m n : ℕ) (item : Plan → Reader Plan) (plan : Plan) → ((p : Plan) → IsSteady Any m (item p)) → IsSteady Any (n * m) (times n item plan)
unfolding times
times_exact m zero item plan h = record { agrees = λ p more. (refl, omega arith, tt) }
times_exact m (suc n) item plan h =
    let size : m + n * m ≡ suc n * m = omega arith in
    record { agrees = λ p more. subst (λ (k : ℕ). Agrees Any p more k (then_read (item plan p) (times n item)) (then_read (item plan (longer p more)) (times n item))) size (then_agrees Any Any p more m (n * m) (times n item) (item plan p) (item plan (longer p more)) (λ q any. times_exact m n item q h) ((h plan).agrees p more)) }

pub times_steady : (m n most : ℕ) (item : Plan → Reader Plan) (plan : Plan) → n ≤ most → ((p : Plan) → IsSteady Any m (item p)) → IsSteady Any (most * m) (times n item plan)
times_steady m n most item plan le h = wider Any (n * m) (most * m) (times n item plan) (mul-le-mul_right m le) (times_exact m n item plan h)

-- ---- numbers
pub number_steady : (w : Width) → IsSteady Any (byte_len w + 0) (number_at w)
unfolding number_at
number_steady w = both_steady Any Any (byte_len w) 0 (bytes_at (byte_len w)) _ (bytes_steady (byte_len w)) (λ x any. value_steady Any _ tt)

pub within_steady : (low high : ℕ) (w : Width) → IsSteady (λ n. n ≤ high) (byte_len w + 0) (number_within low high w)
unfolding number_within
within_steady low high w = checked_steady Any (λ n. n ≤ high) (byte_len w + 0) (number_at w) (is_within low high) (λ n any e. leb-true n high (and_parts (nat_le low n) (nat_le n high) e).1) (number_steady w)
