-- The last version seen in a list, or the one seen before it.
use Rattle.std.proofs.Common.{◌≡◌, ℕ, ◌+◌, ◌<◌, ◌≤◌, Bool, true, false, List, [], ◌∷◌, refl, ◌∙◌, ap, sym, Option, Some, None, length, drop, get_or}
use Rattle.std.proofs.lemmas.List.{drop_more, drop_all}
use Rattle.std.specs.Prelude.{if◌then◌else◌}
use Rattle.hek_rules.specs.World.{World}
use Rattle.hek_rules.specs.Walk.{last, read_time, seen_of}
use Rattle.hek_rules.specs.Visibility.{sight, is_seen}
use Rattle.hek_rules.specs.declared.event.Sight.{Sight}

abbrev pub last_or : Option ℕ → List ℕ → Option ℕ
last_or seen [] = seen
last_or seen (x ∷ xs) = last_or (Some x) xs

last-some : (x : ℕ) (xs : List ℕ) → last_or (Some x) xs ≡ last (x ∷ xs)
last-some x [] = refl
last-some x (y ∷ ys) = last-some y ys

pub last_or-none : (xs : List ℕ) → last_or None xs ≡ last xs
last_or-none [] = refl
last_or-none (x ∷ xs) = last-some x xs

-- one more version is looked at
pub last_more : (w : World) (t : ℕ) (vs : List ℕ) (i v : ℕ) (s : Sight) (b : Bool) (before after : Option ℕ) → i < length vs → v ≡ get_or vs i v → sight w t (read_time w t) v ≡ s → b ≡ is_seen s →
    after ≡ (if b then Some v else before) → last_or before (seen_of w t (drop i vs)) ≡ last_or after (seen_of w t (drop (i + 1) vs))
last_more w t vs i v s b before after below here seen is grown =
    ap (λ xs. last_or before (seen_of w t xs)) (drop_more vs i v below ∙ ap (λ y. y ∷ drop (i + 1) vs) (sym here))
    ∙ ap (λ x. last_or before (if is_seen x then v ∷ rest else rest)) seen
    ∙ ap (λ x. last_or before (if x then v ∷ rest else rest)) (sym is)
    ∙ by b ∙ sym (ap (λ o. last_or o rest) grown)
  where
    rest : List ℕ
    rest = seen_of w t (drop (i + 1) vs)

    by : (x : Bool) → last_or before (if x then v ∷ rest else rest) ≡ last_or (if x then Some v else before) rest
    by true = refl
    by false = refl

pub last_end : (w : World) (t : ℕ) (vs : List ℕ) (i : ℕ) (seen : Option ℕ) → length vs ≤ i → last_or seen (seen_of w t (drop i vs)) ≡ seen
last_end w t vs i seen out = ap (λ xs. last_or seen (seen_of w t xs)) (drop_all i vs out)
