-- What holds in each world that a machine represents.
use Rattle.std.proofs.Common.{◌≡◌, ℕ, zero, suc, ◌<◌, Bool, false, refl, arith, Option, Some, None}
use Rattle.std.specs.Prelude.{◌&&◌, ◌==◌, nat_lt}
use Rattle.hek_rules.specs.Words.{writer_of, readers_of}
use Rattle.hek_rules.specs.World.{World, Ender, EndedAt, Held, is_held_by}
use Rattle.hek_rules.specs.Shown.{end_word_by}
use Rattle.hek_laws.specs.Sound.{Sound}
use Rattle.hek_laws.proofs.Runs.Reachable.{reachable-sound}
use Rattle.hek_machine.specs.declared.engine.Engine.{Engine}
use Rattle.hek_machine.specs.Stands.{StandsFor, StandsForSome}
use Rattle.hek_machine.specs.Judgements.{IsShown}

pub sound_of : (m : Engine) (w : World) → StandsFor m w → Sound w
sound_of m w s = reachable-sound w s.reachable

pub some_buckets : (m : Engine) (w : World) → StandsFor m w → 0 < w.buckets
some_buckets m w s = (sound_of m w s).buckets

pub buckets_above : (m : Engine) (n : ℕ) → StandsForSome m → IsShown m (λ w. w.buckets) n → 0 < n
buckets_above m n o shown = let e = shown o.world o.stands in let b = some_buckets m o.world o.stands in omega (arith, e, b)

-- an End word that has a reader names u as its writer
abbrev pub is_held_over : ℕ → Option ℕ → ℕ → Bool
is_held_over u None n = false
is_held_over u (Some x) n = (x == u) && nat_lt 0 n

pub waited_word : (u n : ℕ) (e : Ender) → is_held_over u (writer_of (end_word_by n e)) (readers_of (end_word_by n e)) ≡ (is_held_by u e && nat_lt 0 n)
waited_word u n (EndedAt time) = refl
waited_word u zero (Held None no_more) = refl
waited_word u (suc n) (Held None no_more) = refl
waited_word u n (Held (Some x) no_more) = refl
