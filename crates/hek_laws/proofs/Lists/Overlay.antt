-- Rows under writes, key by key.
use Rattle.std.proofs.Common.{◌≡◌, ℕ, Bool, true, false, List, [], ◌∷◌, refl, ◌∙◌, ap, sym, arith, Some, None, Option, ⊎_elim}
use Rattle.std.proofs.lemmas.Bool.{cond_both, cond-true, cond-false, or_parts, or_cases}
use Rattle.std.proofs.lemmas.Bool.Decides.{nat_tests}
use Rattle.std.specs.Prelude.{◌==◌, ◌||◌, if◌then◌else◌}
use Rattle.hek_rules.specs.Listing.{put, take_out, value_of}
use Rattle.hek_rules.specs.declared.serial.Write.{Write}
use Rattle.hek_rules.specs.declared.serial.Write.TheVariants.{Put, Remove}
use Rattle.hek_rules.specs.Serial.{lay, lay_all}
use Rattle.hek_laws.specs.Rows.{key_of}

-- the value of a key after a write of it, and after a write of another key
pub value_of-put : (rows : List (ℕ × ℕ)) (k x q : ℕ) → value_of (put k x rows) q ≡ (if k == q then Some x else value_of rows q)
value_of-put [] k x q = refl
value_of-put (p ∷ ps) k x q = let rest = value_of-put ps k x q in grind (arith, nat_tests, rest)

pub value_of-take_out : (rows : List (ℕ × ℕ)) (k q : ℕ) → value_of (take_out k rows) q ≡ (if k == q then None else value_of rows q)
value_of-take_out [] k q = cond_both (k == q) None None (λ o. None ≡ o) (λ _. refl) (λ _. refl)
value_of-take_out (p ∷ ps) k q = let rest = value_of-take_out ps k q in grind (arith, nat_tests, rest)

-- whether one of the writes is of the key
abbrev pub wrote : List Write → ℕ → Bool
wrote [] k = false
wrote (x ∷ xs) k = (key_of x == k) || wrote xs k

abbrev pub left_by : Write → Option ℕ
left_by (Put key value) = Some value
left_by (Remove key) = None

pub value_of-lay : (x : Write) (rows : List (ℕ × ℕ)) (k : ℕ) → value_of (lay x rows) k ≡ (if key_of x == k then left_by x else value_of rows k)
value_of-lay (Put key value) rows k = value_of-put rows key value k
value_of-lay (Remove key) rows k = value_of-take_out rows key k

-- writes of other keys do not change the value of a key
pub lay_all-other : (xs : List Write) (rows : List (ℕ × ℕ)) (k : ℕ) → wrote xs k ≡ false → value_of (lay_all xs rows) k ≡ value_of rows k
lay_all-other [] rows k h = refl
lay_all-other (x ∷ xs) rows k h =
    let parts = or_parts _ _ h in
    lay_all-other xs (lay x rows) k parts.1 ∙ value_of-lay x rows k ∙ cond-false (key_of x == k) (left_by x) (value_of rows k) parts.0

-- rows that agree on a key agree on it under equal writes
pub lay_all-same : (xs : List Write) (rows others : List (ℕ × ℕ)) (k : ℕ) → value_of rows k ≡ value_of others k → value_of (lay_all xs rows) k ≡ value_of (lay_all xs others) k
lay_all-same [] rows others k h = h
lay_all-same (x ∷ xs) rows others k h =
    lay_all-same xs (lay x rows) (lay x others) k (value_of-lay x rows k ∙ ap (λ o. if key_of x == k then left_by x else o) h ∙ sym (value_of-lay x others k))

-- the value of a key that was written does not depend on the rows below
pub lay_all-written : (xs : List Write) (rows others : List (ℕ × ℕ)) (k : ℕ) → wrote xs k ≡ true → value_of (lay_all xs rows) k ≡ value_of (lay_all xs others) k
lay_all-written [] rows others k h = cc
lay_all-written (x ∷ xs) rows others k h =
    ⊎_elim
    (λ here. lay_all-same xs (lay x rows) (lay x others) k
    (value_of-lay x rows k ∙ cond-true (key_of x == k) (left_by x) (value_of rows k) here ∙ sym (value_of-lay x others k ∙ cond-true (key_of x == k) (left_by x) (value_of others k) here)))
    (λ later. lay_all-written xs (lay x rows) (lay x others) k later) (or_cases _ _ h)
