-- What is known of a transcript's parts is known of the whole transcript.
use Rattle.std.proofs.Common.{◌≡◌, ◌∙◌, ap, map, List, ℕ}
use Rattle.std.specs.List.{zip}
use Rattle.hek_rules.specs.declared.event.Event.{Event}
use Rattle.hek_rules.specs.declared.event.Level.{Level}
use Rattle.hek_rules.specs.declared.reply.Reply.{Reply}
use Rattle.hek_rules.specs.Recorded.{Recorded}
use Rattle.hek_rules.proofs.Zips.{zip-parts}

pub whole : (s : Recorded) (buckets : ℕ) (rows : List (ℕ × ℕ)) (levels : List Level) (es : List Event) (rs : List Reply) → buckets ≡ s.buckets → rows ≡ s.rows → levels ≡ s.levels →
    es ≡ map (λ (p : Event × Reply). p.0) s.history → rs ≡ map (λ (p : Event × Reply). p.1) s.history → ◌≡◌ {A = Recorded} (record { buckets = buckets; rows = rows; levels = levels; history = zip es rs }) s
whole s buckets rows levels es rs b r l e f =
    let h : zip es rs ≡ s.history = ap (λ xs. zip xs rs) e ∙ ap (zip (map (λ (p : Event × Reply). p.0) s.history)) f ∙ zip-parts s.history in
    λ i. record { buckets = b i; rows = r i; levels = l i; history = h i }
