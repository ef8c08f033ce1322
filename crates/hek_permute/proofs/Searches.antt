-- The search for a reply among the first moves of all orders.
use Rattle.std.proofs.Common.{◌≡◌, ◌∙◌, ℕ, suc, zero, ◌+◌, ◌<◌, Bool, true, false, List, [], ◌∷◌, refl, ap, sym, subst, inl, inr, arith, Option, Some, None, Vec, Global, is_some, take}
use Rattle.std.specs.Prelude.{◌⊎◌, IfSome, MatchBool}
use Rattle.std.specs.Option.{option_map}
use Rattle.std.specs.List.{AllByRecursion}
use Rattle.hek_rules.specs.Plan.{Plan}
use Rattle.hek_permute.specs.declared.find.Sought.{Sought}
use Rattle.hek_permute.specs.declared.moves.Form.{Form}
use Rattle.hek_permute.specs.Moves.{Work, counts_of}
use Rattle.hek_permute.specs.Orders.{IsNext, IsLast, IsAmong, AreAll}
use Rattle.hek_permute.specs.Wholes.{first_in}
use Rattle.hek_permute.specs.Searches.{Meets, Misses, NoneAt, NoneBelow, IsFirstAt, IsFoundAt}
use Rattle.hek_permute.proofs.Walks.{IsWalk, walk-first, walk-next, walk-last}

-- each of these orders misses the reply in its first n moves
abbrev pub AllMiss : Plan → Form → List Work → Sought → ℕ → List (List ℕ) → Type 0
AllMiss p form works s n past = AllByRecursion (λ (o : List ℕ). Misses p form works s (take n o)) past

-- the orders before one miss the reply in their first n moves
pub record IsSoFar (p : Plan) (form : Form) (works : List Work) (s : Sought) (n : ℕ) (order : List ℕ) : Type 0 where
  pub past : List (List ℕ)
  pub walk : IsWalk (first_in form works) order past
  pub miss : AllMiss p form works s n past

among_miss : (p : Plan) (form : Form) (works : List Work) (s : Sought) (n : ℕ) (past : List (List ℕ)) (o : List ℕ) → AllMiss p form works s n past → IsAmong o past → Misses p form works s (take n o)
among_miss p form works s n [] o all is = absurd is
among_miss p form works s n (q ∷ past) o all (inl is) = subst (λ (q : List ℕ). Misses p form works s (take n q)) (sym is) all.0
among_miss p form works s n (q ∷ past) o all (inr is) = among_miss p form works s n past o all.1 is

pub search-first : (p : Plan) (form : Form) (works : List Work) (s : Sought) (n : ℕ) (order : List ℕ) → order ≡ first_in form works → IsSoFar p form works s n order
search-first p form works s n order is = record { past = []; walk = walk-first (counts_of form works) order is; miss = tt }

pub search-next : (p : Plan) (form : Form) (works : List Work) (s : Sought) (n : ℕ) (order new : List ℕ) → IsSoFar p form works s n order → Misses p form works s (take n order)
    → IsNext order new → IsSoFar p form works s n new
search-next p form works s n order new h miss next = record {
  past = order ∷ h.past;
  walk = walk-next (first_in form works) order new h.past h.walk next;
  miss = (miss, h.miss);
}

pub search-last : (p : Plan) (form : Form) (works : List Work) (s : Sought) (n : ℕ) (order : List ℕ) → IsSoFar p form works s n order → Misses p form works s (take n order)
    → IsLast order → NoneAt p form works s n
search-last p form works s n order h miss last = λ o alike.
    let all : AreAll (first_in form works) (order ∷ h.past) = walk-last (first_in form works) order h.past h.walk last in
    among_miss p form works s n (order ∷ h.past) o (miss, h.miss) (all.complete o alike)

pub search-hit : (p : Plan) (form : Form) (works : List Work) (s : Sought) (n : ℕ) (order moves : List ℕ) → IsSoFar p form works s n order → moves ≡ take n order
    → Meets p form works s moves → IsFirstAt p form works s n moves
search-hit p form works s n order moves h is meets = record {
  order = order;
  alike = h.walk.alike;
  front = is;
  meets = meets;
  first = λ o alike below. among_miss p form works s n h.past o h.miss (h.walk.complete o alike below);
}

-- one number of moves more
pub none-more : (p : Plan) (form : Form) (works : List Work) (s : Sought) (n : ℕ) → NoneBelow p form works s (n + 1) → NoneAt p form works s (n + 1) → NoneBelow p form works s (n + 1 + 1)
none-more p form works s n below here = λ k some low. elim (less_or_same k (n + 1) (omega (arith, low))) [
  | inl less ↦ below k some less
  | inr same ↦ subst (NoneAt p form works s) (sym same) here
]
  where
    less_or_same : (k n : ℕ) → k < n + 1 → (k < n) ⊎ (k ≡ n)
    less_or_same zero zero h = inr refl
    less_or_same zero (suc n) h = inl (omega arith)
    less_or_same (suc k) zero h = absurd (omega (arith, h))
    less_or_same (suc k) (suc n) h = elim (less_or_same k n (omega (arith, h))) [ inl l ↦ inl (omega (arith, l)) | inr e ↦ inr (ap suc e) ]

-- ---- what the functions of the search have

pub when_true : (A B : Type 0) (b : Bool) → b ≡ true → MatchBool b A B → A
when_true A B true e h = h
when_true A B false e h = absurd (cc)

pub when_false : (A B : Type 0) (b : Bool) → b ≡ false → MatchBool b A B → B
when_false A B true e h = absurd (cc)
when_false A B false e h = h

pub front_is : (n : ℕ) (order slice front : List ℕ) → slice ≡ order → front ≡ take n slice → front ≡ take n order
front_is n order slice front e f = f ∙ ap (take n) e

pub tried-miss : {T : Type 0} (P : List T → Type 0) (o : Option (Vec T Global)) (front : List T) → option_map (λ v. v.items) o ≡ Some front → P front → IfSome o (λ v. P v.items)
tried-miss P (Some v) front e h = let same : v.items ≡ front = cc in subst P (sym same) h
tried-miss P None front e h = tt

pub none-found : (p : Plan) (form : Form) (works : List Work) (s : Sought) (n : ℕ) (o : Option (Vec ℕ Global)) → is_some o ≡ false
    → IsFoundAt p form works s n (option_map (λ v. v.items) o) → NoneAt p form works s n
none-found p form works s n (Some v) e h = absurd (cc)
none-found p form works s n None e h = h
