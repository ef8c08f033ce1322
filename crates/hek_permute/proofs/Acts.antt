-- Steps that are skipped.
use Rattle.std.proofs.Common.{◌≡◌, ℕ, suc, zero, ◌+◌, List, [], ◌∷◌, Option, Some, None, refl, ap, sym, subst, ◌∙◌, add-one, arith, drop}
use Rattle.std.proofs.lemmas.Option.{slice_get-map}
use Rattle.std.specs.Prelude.{map, option_map, slice_get}
use Rattle.hek_permute.specs.declared.moves.Move.{Move}
use Rattle.hek_program.specs.declared.rule.Act.{Act}
use Rattle.hek_program.specs.declared.rule.Act.TheVariants.{Makes, Skips, Fails}
use Rattle.hek_permute.specs.Plays.{ahead, skips}

skips-suc : (acts : List Act) (i : ℕ) → slice_get acts i ≡ Some Skips → skips (drop i acts) ≡ skips (drop (suc i) acts) + 1
skips-suc [] i h = absurd (cc)
skips-suc (a ∷ acts) zero h = let is : a ≡ Skips = cc in subst (λ (b : Act). skips (b ∷ acts) ≡ skips acts + 1) (sym is) refl
skips-suc (a ∷ acts) (suc i) h = skips-suc acts i h

-- a step that is skipped is passed over
pub ahead-on : (acts : List Act) (i : ℕ) → slice_get acts i ≡ Some Skips → ahead acts i ≡ ahead acts (i + 1)
ahead-on acts i h =
    let here : skips (drop i acts) ≡ skips (drop (suc i) acts) + 1 = skips-suc acts i h in
    let next : skips (drop (i + 1) acts) ≡ skips (drop (suc i) acts) = ap (λ (n : ℕ). skips (drop n acts)) (add-one i) in
    omega (arith, here, next)

pub ahead-here : (acts : List Act) (i : ℕ) → skips (drop i acts) ≡ 0 → ahead acts i ≡ i
ahead-here acts i h = omega (arith, h)

-- another step is not
pub goes-on : (acts : List Act) (i : ℕ) → (slice_get acts i ≡ Some Skips → ⊥) → skips (drop i acts) ≡ 0
goes-on [] zero n = refl
goes-on [] (suc i) n = refl
goes-on (Makes e ∷ acts) zero n = refl
goes-on (Skips ∷ acts) zero n = absurd (n refl)
goes-on (Fails ∷ acts) zero n = refl
goes-on (a ∷ acts) (suc i) n = goes-on acts i n

-- the act at a place
pub act-at : (f : Move → Act) (steps : List Move) (i : ℕ) (m : Move) (a : Act) → a ≡ f m → slice_get steps i ≡ Some m → Some a ≡ slice_get (map f steps) i
act-at f steps i m a is got = ap (λ (b : Act). Some b) is ∙ sym (slice_get-map f steps i ∙ ap (option_map f) got)

-- another act than a step that is skipped
abbrev pub IsOther : Act → Type 0
IsOther Skips = ⊥
IsOther act = Unit {0}

pub some-goes-on : (acts : List Act) (i : ℕ) (o : Option Act) (a : Act) → o ≡ slice_get acts i → o ≡ Some a → IsOther a → skips (drop i acts) ≡ 0
some-goes-on acts i o a at is other = goes-on acts i (λ h. let same : Some a ≡ Some Skips = sym is ∙ at ∙ h in let skip : a ≡ Skips = cc in subst IsOther skip other)

pub none-goes-on : (acts : List Act) (i : ℕ) (o : Option Act) → o ≡ slice_get acts i → o ≡ None → skips (drop i acts) ≡ 0
none-goes-on acts i o at is = goes-on acts i (λ h. let same : ◌≡◌ {A = Option Act} None (Some Skips) = sym is ∙ at ∙ h in absurd (cc))
