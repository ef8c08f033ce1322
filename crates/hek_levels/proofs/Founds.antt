-- What an index of changes knows.
use Rattle.std.proofs.Common.{◌≡◌, ◌==◌, ℕ, zero, suc, true, false, Bool, cond, List, [], ◌∷◌, Option, Some, None, refl, ap, ◌∙◌, inl, inr, arith}
use Rattle.std.specs.Prelude.{not, ◌&&◌, ◌||◌}
use Rattle.std.proofs.lemmas.Bool.{cases_Bool, eqb-true}
use Rattle.std.proofs.lemmas.Bool.Decides.{nat_tests}
use Rattle.hek_levels.specs.declared.log.Log.{Log}
use Rattle.hek_levels.specs.declared.log.Need.{Need}
use Rattle.hek_levels.specs.declared.log.Change.{Change}
use Rattle.hek_levels.specs.declared.uncommitted.Who.{Who}
use Rattle.hek_levels.specs.declared.uncommitted.Who.TheVariants.{One, Several}
use Rattle.hek_levels.specs.Logs.{writes_of}
use Rattle.hek_levels.specs.Uncommitted.{passing_of, does_meet, is_met_in, did_leave, did_other_leave, with_one, is_other, who_by, who_with, who_below}

-- the value of a pair
pub noted_value : (f g : ℕ × ℕ → Option Who) (key value t : ℕ) (who : Who) → Some who ≡ with_one (f (key, value)) t →
    ((q : ℕ × ℕ) → g q ≡ cond ((key == q.0) && (value == q.1)) (Some who) (f q)) →
    (k v : ℕ) → g (k, v) ≡ cond ((key == k) && (value == v)) (with_one (f (k, v)) t) (f (k, v))
noted_value f g key value t who is more k v =
    elim (cases_Bool (key == k)) [
      | inr other ↦ more (k, v) ∙ rw other refl
      | inl a ↦
          elim (cases_Bool (value == v)) [
            | inr other ↦ more (k, v) ∙ rw a rw other refl
            | inl b ↦
                let one : with_one (f (key, value)) t ≡ with_one (f (k, v)) t = ap (λ (n : ℕ). with_one (f (n, value)) t) (eqb-true key k a) ∙ ap (λ (n : ℕ). with_one (f (k, n)) t) (eqb-true value v b) in
                more (k, v) ∙ rw a rw b (is ∙ one)
          ]
    ]

-- ---- whether another is among those that are known

other_with : (who : Option Who) (x t : ℕ) → is_other (with_one who x) t ≡ (is_other who t || not (x == t))
other_with None x t = refl
other_with (Some (One y)) x t = elim (cases_Bool (y == x)) [ inl same ↦ rw same (grind (arith, nat_tests, same)) | inr other ↦ rw other (grind (arith, nat_tests, other)) ]
other_with (Some Several) x t = refl

no_more : (a b : Bool) → a ≡ (a || (b && false))
no_more true b = refl
no_more false true = refl
no_more false false = refl

one_more : (a b m : Bool) → ((a || b) || (b && m)) ≡ (a || (b && true))
one_more true b m = refl
one_more false true m = refl
one_more false false m = refl

both_kinds : (a b m n : Bool) → ((a || (b && m)) || (b && n)) ≡ (a || (b && (m || n)))
both_kinds true b m n = refl
both_kinds false true m n = refl
both_kinds false false m n = refl

other_by : (key : ℕ) (need : Need) (x t : ℕ) (cs : List Change) (who : Option Who) → is_other (who_by key need x cs who) t ≡ (is_other who t || (not (x == t) && is_met_in key need cs))
other_by key need x t [] who = no_more (is_other who t) (not (x == t))
other_by key need x t (c ∷ cs) who =
    elim (cases_Bool (does_meet key need c)) [
      | inl met ↦ rw met (other_by key need x t cs (with_one who x) ∙ ap (λ (b : Bool). b || (not (x == t) && is_met_in key need cs)) (other_with who x t) ∙ one_more (is_other who t) (not (x == t)) (is_met_in key need cs))
      | inr other ↦ rw other (other_by key need x t cs who)
    ]

other_with_all : (log : Log) (key : ℕ) (need : Need) (x t : ℕ) (who : Option Who) → is_other (who_with log key need x who) t ≡ (is_other who t || (not (x == t) && did_leave log x key need))
other_with_all log key need x t who =
    other_by key need x t (passing_of log x) (who_by key need x (writes_of log x) who)
    ∙ ap (λ (b : Bool). b || (not (x == t) && is_met_in key need (passing_of log x))) (other_by key need x t (writes_of log x) who)
    ∙ both_kinds (is_other who t) (not (x == t)) (is_met_in key need (writes_of log x)) (is_met_in key need (passing_of log x))

pub other_below : (log : Log) (t key : ℕ) (need : Need) (n : ℕ) → is_other (who_below log key need n None) t ≡ did_other_leave log t key need n
other_below log t key need zero = refl
other_below log t key need (suc n) =
    other_with_all log key need n t (who_below log key need n None) ∙ ap (λ (b : Bool). b || (not (n == t) && did_leave log n key need)) (other_below log t key need n)

-- what the opening does not have
pub found_else : (a b : Bool) → a ≡ false → b ≡ (a || b)
found_else a b none = rw none refl
