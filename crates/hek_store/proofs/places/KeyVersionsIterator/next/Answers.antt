use Rattle.std.proofs.Common.{rules, ◌-◌, ◌<◌, ◌∷◌, ◌∙◌, ap, arith, length, slice_index_or, sym}
use Rattle.hek_store.proofs.Linked.{chain_step}
use Rattle.hek_store.proofs.Found.{left_here, left_there, left_none}
use Rattle.hek_store.specs.Places.{left}
use Rattle.hek_store.proofs.places.KeyVersionsIterator.next.Goals as goal

pub returns-then-self-place-clause-steps : goal.returns-then-self-place-clause-steps
returns-then-self-place-clause-steps c =
    let s = c.loop-self.self in
    let some : 0 < s.link = omega (arith, c.loop-self-test.true) in
    sym c.loop-self.invariant
    ∙ left_here s.versions.now s.key s.links.now s.link c.index-self-place.result s.rising s.paired some s.within c.index-self-place.is (ap (λ x. x.key) c.index-self-place.is ∙ c.if-self-place.true)
    ∙ ap (λ v. v ∷ left s.versions.now s.key s.links.now (slice_index_or s.links.now (s.link - 1) 0)) (sym c.new.ensures)

pub returns-then-self-place-clause-goes : goal.returns-then-self-place-clause-goes
returns-then-self-place-clause-goes c = let e = returns-then-self-place-clause-steps c in search (rules, e)

pub loop-self-smaller : goal.loop-self-smaller
loop-self-smaller c =
    let s = c.loop-self.self in
    let some : 0 < s.link = omega (arith, c.loop-self-test.true) in
    let shorter = ap length (chain_step s.links.now s.link s.rising some s.within) in
    omega (arith, shorter)

pub loop-self-preserved : goal.loop-self-preserved
loop-self-preserved c =
    let s = c.loop-self.self in
    let some : 0 < s.link = omega (arith, c.loop-self-test.true) in
    sym (left_there s.versions.now s.key s.links.now s.link c.index-self-place.result s.rising s.paired some s.within c.index-self-place.is
    (λ e. c.if-self-place.false (sym (ap (λ x. x.key) c.index-self-place.is) ∙ e))) ∙ c.loop-self.invariant

pub returns-clause-steps : goal.returns-clause-steps
returns-clause-steps c =
    let s = c.loop-self.self in
    let none = left_none s.versions.now s.key s.links.now s.link c.loop-self-test.false in
    (sym c.loop-self.invariant ∙ none, none)
