-- The end times of the transactions that committed so far, as a list.
use Rattle.std.proofs.Common.{◌≡◌, ℕ, List, [], ◌∷◌, ◌++◌, refl, ◌∙◌, ap, Some}
use Rattle.std.specs.Prelude.{◌==◌, ◌||◌}
use Rattle.std.specs.List.{list_any}
use Rattle.hek_rules.specs.declared.event.Event.{Event}
use Rattle.hek_rules.specs.declared.reply.Reply.{Reply}
use Rattle.hek_rules.specs.Faults.{is_time}
use Rattle.std.specs.Option.{option_or}
use Rattle.hek_rules.specs.Serial.{end_of}
use Rattle.hek_laws.proofs.Worlds.Histories.{end_of-append}
use Rattle.hek_serial.specs.Replay.{Drawn}

pub drawn-any : (h : List (Event × Reply)) (ts xs : List ℕ) (time : ℕ) → Drawn h ts xs → list_any (λ (t : ℕ). is_time time (end_of t h)) ts ≡ list_any (λ (m : ℕ). m == time) xs
drawn-any h [] [] time d = refl
drawn-any h [] (x ∷ xs) time d = absurd d
drawn-any h (t ∷ ts) [] time d = absurd d
drawn-any h (t ∷ ts) (x ∷ xs) time d =
    ap (λ o. is_time time o || list_any (λ (t : ℕ). is_time time (end_of t h)) ts) d.0 ∙ ap (λ b. (x == time) || b) (drawn-any h ts xs time d.1)

pub drawn-more : (h : List (Event × Reply)) (ts xs : List ℕ) (t x : ℕ) → Drawn h ts xs → end_of t h ≡ Some x → Drawn h (ts ++ t ∷ []) (xs ++ x ∷ [])
drawn-more h [] [] t x d e = (e, tt)
drawn-more h [] (y ∷ ys) t x d e = absurd d
drawn-more h (u ∷ us) [] t x d e = absurd d
drawn-more h (u ∷ us) (y ∷ ys) t x d e = (d.0, drawn-more h us ys t x d.1 e)

pub drawn-longer : (h g : List (Event × Reply)) (ts xs : List ℕ) → Drawn h ts xs → Drawn (h ++ g) ts xs
drawn-longer h g [] [] d = tt
drawn-longer h g [] (y ∷ ys) d = absurd d
drawn-longer h g (u ∷ us) [] d = absurd d
drawn-longer h g (u ∷ us) (y ∷ ys) d = (end_of-append u h g ∙ ap (λ o. option_or o (end_of u g)) d.0, drawn-longer h g us ys d.1)
