-- One more line of a text that is written line by line.
use Rattle.std.proofs.Common.{◌≡◌, ℕ, zero, suc, ◌+◌, List, [], ◌∷◌, ◌++◌, length, map, drop, Some, sym, ap, subst, ◌∙◌, append_assoc, arith, slice_get}
use Rattle.std.specs.List.{flat_map, AllByRecursion}
use Rattle.std.specs.Map.{keys_of}
use Rattle.std.proofs.lemmas.Option.{slice_get_within}
use Rattle.hek_rules.specs.declared.event.Event.{Event}
use Rattle.hek_rules.specs.declared.event.Event.TheVariants as event
use Rattle.hek_rules.specs.Plan.{Plan, IsPlan, IsStep}
use Rattle.hek_rules.specs.Lines.{line_text}
use Rattle.hek_asm.specs.Trace.{NamesDeclared}

-- the element at a place, and those after it
pub at_place : {X : Type 0} (xs : List X) (i : ℕ) (x : X) → slice_get xs i ≡ Some x → drop i xs ≡ x ∷ drop (i + 1) xs
at_place [] i x h = absurd (omega (arith, slice_get_within [] i x h))
at_place (y ∷ ys) zero x h = cc
at_place (y ∷ ys) (suc i) x h = let e : suc i + 1 ≡ suc (i + 1) = omega arith in rw e (at_place ys i x h)

pub one_line : {X : Type 0} (words : X → List (List ℕ)) (xs : List X) (i : ℕ) (x : X) (old new whole : List ℕ) → slice_get xs i ≡ Some x → new ≡ old ++ line_text (words x) →
    old ++ flat_map line_text (map words (drop i xs)) ≡ whole → new ++ flat_map line_text (map words (drop (i + 1) xs)) ≡ whole
one_line {X = X} words xs i x old new whole here added so_far =
    let rest = flat_map line_text (map words (drop (i + 1) xs)) in
    ap (λ (bs : List ℕ). bs ++ rest) added
    ∙ append_assoc old (line_text (words x)) rest
    ∙ ap (λ (ys : List X). old ++ flat_map line_text (map words ys)) (sym (at_place xs i x here))
    ∙ so_far

-- a pair, by its parts
pub pair_at : {X Y : Type 0} (ps : List (X × Y)) (i : ℕ) (x : X) (y : Y) → slice_get (keys_of ps) i ≡ Some x → slice_get (map (λ (p : X × Y). p.1) ps) i ≡ Some y → slice_get ps i ≡ Some (x, y)
pair_at [] i x y h k = absurd (omega (arith, slice_get_within [] i x h))
pair_at {X = X} {Y = Y} (p ∷ ps) zero x y h k =
    let first : p.0 ≡ x = cc in
    let second : p.1 ≡ y = cc in
    ap (λ (a : X). Some (a, p.1)) first ∙ ap (λ (b : Y). Some (x, b)) second
pair_at (p ∷ ps) (suc i) x y h k = pair_at ps i x y h k

-- a step's transaction is declared
pub step_declared : (buckets txns : ℕ) (e : Event) → IsStep buckets txns e → NamesDeclared txns e
step_declared b n (event.Begin t) h = h
step_declared b n (event.Read t k) h = h.0
step_declared b n (event.Scan t k) h = h.0
step_declared b n (event.Insert t k v) h = h.0
step_declared b n (event.Update t k v) h = h.0
step_declared b n (event.Delete t k) h = h.0
step_declared b n (event.Finish t) h = h
step_declared b n (event.Precommit t) h = h
step_declared b n (event.Release t) h = h
step_declared b n (event.Commit t) h = h
step_declared b n (event.Fail t) h = h
step_declared b n (event.Stamp t) h = h
step_declared b n (event.End t) h = h
step_declared b n event.Detect h = tt

pub all_declared : (buckets txns : ℕ) (es : List Event) → AllByRecursion (IsStep buckets txns) es → AllByRecursion (NamesDeclared txns) es
all_declared b n [] h = tt
all_declared b n (e ∷ es) h = (step_declared b n e h.0, all_declared b n es h.1)

-- the steps of a schedule, as a slice gives them
pub steps_declared : (p : Plan) (es : List Event) → IsPlan p → es ≡ p.steps → AllByRecursion (NamesDeclared (length p.txns)) es
steps_declared p es is same = subst (AllByRecursion (NamesDeclared (length p.txns))) (sym same) (all_declared p.buckets (length p.txns) p.steps is.steps)
