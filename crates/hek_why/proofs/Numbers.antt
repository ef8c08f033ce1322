-- There are as many reasons to wait as the counters say.
use Rattle.std.proofs.Common.{◌≡◌, ℕ, ◌+◌, ◌<◌, ◌≤◌, true, List, [], ◌++◌, ◌∙◌, ap, sym, arith, length, length-append, map}
use Rattle.std.proofs.lemmas.List.{length-map}
use Rattle.hek_rules.specs.World.{World, txn_in, is_present, is_preparing}
use Rattle.hek_rules.specs.Waits.{waits, commit_deps}
use Rattle.hek_refinement.proofs.Known.{present-known}
use Rattle.hek_machine.specs.declared.engine.Engine.{Engine}
use Rattle.hek_machine.specs.Stands.{StandsFor}
use Rattle.hek_why.specs.declared.reason.Reason.{Reason}
use Rattle.hek_why.specs.declared.reason.Reason.TheVariants.{ReadLocked, Listed, Depends}
use Rattle.hek_why.specs.Waited.{readers_in, held_over, waiting_list_holders, depended_on, shared_bucket, waits_in, commits_in}
use Rattle.hek_why.proofs.Sounds.{sound_of}
use Rattle.hek_why.proofs.Counted.{members-count}

present-named : (m : Engine) (w : World) (t : ℕ) → StandsFor m w → is_present (txn_in w.txns t).state ≡ true → (0 < t) × (t ≤ length w.txns)
present-named m w t s h =
    let d = present-known m.txns w t s.shows.txns h in
    let l = d.within in let c : length m.txns.cores ≡ length w.txns = ap length s.shows.txns.cores in (d.named, omega (arith, l, c))

preparing-present : (w : World) (t : ℕ) → is_preparing (txn_in w.txns t).state ≡ true → is_present (txn_in w.txns t).state ≡ true
preparing-present w t h = grind (arith, h)

pub waits_number : (m : Engine) (w : World) (u : ℕ) → StandsFor m w → length (waits_in w u) ≡ waits w u
waits_number m w u s =
    length-append (map (λ v. ReadLocked v (readers_in w v)) (held_over w u)) (map (λ h. Listed h (shared_bucket w h u)) (waiting_list_holders w u))
    ∙ ap (λ n. n + length (map (λ h. Listed h (shared_bucket w h u)) (waiting_list_holders w u))) (length-map (held_over w u) (λ v. ReadLocked v (readers_in w v)))
    ∙ ap (λ n. length (held_over w u) + n) (length-map (waiting_list_holders w u) (λ h. Listed h (shared_bucket w h u))
    ∙ members-count w.waiters u (length w.txns) (sound_of m w s).waiters_once (λ t h. present-named m w t s ((sound_of m w s).holder_present t u h)))

pub commits_number : (m : Engine) (w : World) (t : ℕ) → StandsFor m w → length (commits_in w t) ≡ commit_deps w t
commits_number m w t s =
    length-map (depended_on w t) (λ u. Depends u)
    ∙ members-count w.dependents t (length w.txns) (sound_of m w s).dependents_once
    (λ u h. present-named m w u s (preparing-present w u ((sound_of m w s).depended_preparing u t h)))

-- there are as many gathered reasons as the WaitForCounter says
pub gathered_number : (m : Engine) (w : World) (u : ℕ) (versions holders : List ℕ) (l0 l1 l2 : List Reason) → StandsFor m w → l0 ≡ [] →
    l0 ++ map (λ v. ReadLocked v (readers_in w v)) versions ≡ l1 → l1 ++ map (λ h. Listed h (shared_bucket w h u)) holders ≡ l2 →
    held_over w u ≡ versions → waiting_list_holders w u ≡ holders → waits w u ≡ length l2
gathered_number m w u versions holders l0 l1 l2 s none h1 h2 e1 e2 =
    sym (waits_number m w u s)
    ∙ ap length (ap (λ vs. map (λ v. ReadLocked v (readers_in w v)) vs ++ map (λ h. Listed h (shared_bucket w h u)) (waiting_list_holders w u)) e1
    ∙ ap (λ hs. map (λ v. ReadLocked v (readers_in w v)) versions ++ map (λ h. Listed h (shared_bucket w h u)) hs) e2
    ∙ ap (λ xs. xs ++ map (λ h. Listed h (shared_bucket w h u)) holders) (ap (λ xs. xs ++ map (λ v. ReadLocked v (readers_in w v)) versions) (sym none) ∙ h1) ∙ h2)
