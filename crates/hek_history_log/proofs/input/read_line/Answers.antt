use Rattle.std.proofs.Common.{◌≡◌, ◌≢◌, ◌≤◌, ◌<◌, ◌-◌, ◌+◌, ◌++◌, ◌∷◌, [], ℕ, List, All, Bool, Option, Some, None, IfSome, true, false, cond, eqb, take, length, sym, ap, subst, ◌∙◌, arith, append_assoc, take_all, length-append, length-take, get_or}
use Rattle.std.proofs.lemmas.List.{take_more}
use Rattle.std.specs.Io.{StopsAt}
use Rattle.std.specs.Io.KnownBytes.{Consumes}
use Rattle.std.specs.Io.BufRead.{take_through, DropsThrough}
use Rattle.std.proofs.BufReadLemmas.{Consumes_through, take_through-append}
use Rattle.hek_history_log.specs.Parts.{TakesPart}
use Rattle.hek_history_log.proofs.input.read_line.Goals as goal

-- the last part of a line makes it whole
whole_line : (a b c : Option (List ℕ)) (old new : List ℕ) (is_whole : Bool) → TakesPart b c old new is_whole → is_whole ≡ true → All (λ x. x ≢ 10) old → Consumes a b old
    → IfSome a (λ xs. new ≡ take_through 10 xs) × DropsThrough a c 10
whole_line a b c old new is_whole step whole none taken =
    let read = Consumes_through 10 a b c old step.part taken none step.taken step.stops (step.ends whole) (step.nothing_left whole) in
    (subst (λ l. IfSome a (λ xs. l ≡ take_through 10 xs)) (sym step.appended) read.0, read.1)

some_byte : (x : ℕ) (xs : List ℕ) → 0 < length (take_through 10 (x ∷ xs))
some_byte x xs = at (eqb x 10)
  where
    at : (b : Bool) → 0 < length (cond b (x ∷ []) (x ∷ take_through 10 xs))
    at true = omega arith
    at false = omega arith

-- a part of a line is no longer than the line
part_within : (part rest : List ℕ) → StopsAt part 10 → length part ≤ length (take_through 10 (part ++ rest))
part_within [] rest stops = omega arith
part_within (x ∷ xs) rest stops =
    let part = x ∷ xs in
    let front = take (length part - 1) part in
    let split : part ≡ front ++ get_or part (length part - 1) 0 ∷ [] =
    sym (take_all (length part - 1 + 1) part (omega arith)) ∙ take_more part (length part - 1) 0 (omega arith) in
    let last = get_or part (length part - 1) 0 in
    let joined : part ++ rest ≡ front ++ last ∷ rest = ap (λ l. l ++ rest) split ∙ append_assoc front (last ∷ []) rest in
    omega (
      arith,
      ap (λ l. length (take_through 10 l)) joined,
      ap length (take_through-append 10 front (last ∷ rest) stops),
      length-append front (take_through 10 (last ∷ rest)),
      some_byte last rest,
      length-take (length part - 1) part,
    )

within_line : (old part rest : List ℕ) → All (λ x. x ≢ 10) old → StopsAt part 10 → length (old ++ part) ≤ length (take_through 10 (old ++ (part ++ rest)))
within_line old part rest none stops =
    omega (arith, ap length (take_through-append 10 old (part ++ rest) none), length-append old part, length-append old (take_through 10 (part ++ rest)), part_within part rest stops)

-- a line is at least as long as what was read of it
too_long : (a b c : Option (List ℕ)) (old new : List ℕ) (is_whole : Bool) (most : ℕ) → TakesPart b c old new is_whole → All (λ x. x ≢ 10) old → Consumes a b old → most < length new
    → IfSome a (λ xs. length (take_through 10 xs) ≤ most → ⊥)
too_long None b c old new is_whole most step none taken long = tt
too_long (Some xs) None c old new is_whole most step none taken long = absurd taken
too_long (Some xs) (Some ys) None old new is_whole most step none taken long = absurd step.taken
too_long (Some xs) (Some ys) (Some zs) old new is_whole most step none taken long = λ short.
    let is : xs ≡ old ++ (step.part ++ zs) = taken ∙ ap (λ l. old ++ l) step.taken in
    omega (arith, within_line old step.part zs none step.stops, ap (λ l. length (take_through 10 l)) is, ap length step.appended)

pub returns-then-len-gt-MOST_BYTES-clause-fails : goal.returns-then-len-gt-MOST_BYTES-clause-fails
returns-then-len-gt-MOST_BYTES-clause-fails g c =
    too_long _ _ _ _ _ _ _ c.in_ok-is_whole.ensures c.loop.invariant.1 c.loop.invariant.2 (omega arith)

pub returns-then-is_whole-clause-bytes : goal.returns-then-is_whole-clause-bytes
returns-then-is_whole-clause-bytes g c =
    (whole_line _ _ _ _ _ _ c.in_ok-is_whole.ensures c.if-is_whole.true c.loop.invariant.1 c.loop.invariant.2).0

pub returns-then-is_whole-clause-rest : goal.returns-then-is_whole-clause-rest
returns-then-is_whole-clause-rest g c =
    (whole_line _ _ _ _ _ _ c.in_ok-is_whole.ensures c.if-is_whole.true c.loop.invariant.1 c.loop.invariant.2).1
