use Rattle.std.proofs.Common.{◌≡◌, ◌<◌, ◌∙◌, ℕ, true, List, Some, refl, sym, subst, inl, inr}
use Rattle.std.specs.HashMap.{get, keys}
use Rattle.std.specs.Prelude.{◌==◌}
use Rattle.std.proofs.lemmas.Map.Iter.{rest_more, rest_all}
use Rattle.std.specs.Map.Iter.{deref}
use Rattle.hek_levels.specs.Logs.{does_write}
use Rattle.hek_levels.proofs.Among.{IsIn, left-more, in-none, marked-in}
use Rattle.hek_levels.proofs.newest.are_apart.Goals as goal

pub loop-x-init : goal.loop-x-init
loop-x-init c y m = inr (subst (λ (xs : List ℕ). IsIn xs y) (sym (c.into_iter-x-iterator.ensures.into_iter_gives ∙ c.keys-x-items.ensures.rest)) m)

pub loop-x-preserved : goal.loop-x-preserved
loop-x-preserved c =
    left-more (λ (y : ℕ). does_write c.args.log.now y c.args.key ≡ true → (j : ℕ) → get ◌==◌ c.args.places.now y ≡ Some j → j < c.args.low) (keys c.args.marked.now) c.loop-x.x-iterator c.next.new.self _
    (rest_more deref c.loop-x.x-iterator c.next.new.self c.next.result c.in-Some.x c.in-Some.is c.next.ensures.steps) (c.if-not-is_apart.ensures refl) c.loop-x.invariant

pub returns : goal.returns
returns c yes' x j m does there =
    elim (c.loop-x.invariant x (marked-in c.args.marked.now x m)) [
      | inl less ↦ less does j there
      | inr later ↦ absurd (in-none c.loop-x.x-iterator x (rest_all deref c.loop-x.x-iterator c.next.new.self c.next.result c.in-None.is c.next.ensures.steps) later)
    ]
