-- The writes, the end times and the committed transactions of a history, as it grows.
use Rattle.std.proofs.Common.{◌≡◌, ℕ, List, [], ◌∷◌, ◌++◌, refl, ◌∙◌, ap, sym, Some, None, Option, append_assoc}
use Rattle.hek_rules.specs.declared.event.Event.{Event}
use Rattle.hek_rules.specs.declared.reply.Reply.{Reply}
use Rattle.hek_rules.specs.declared.serial.Write.{Write}
use Rattle.hek_rules.specs.Serial.{lay_all, lay, write_of, writes_of, end_of, end_drawn, committed_by, committed_in, with_end, ordered, laid_over}
use Rattle.std.specs.Option.{option_or}
use Rattle.hek_rules.specs.declared.event.Event.TheVariants as event
use Rattle.hek_rules.specs.declared.reply.Reply.TheVariants as reply

pub lay_all-append : (xs ys : List Write) (rows : List (ℕ × ℕ)) → lay_all (xs ++ ys) rows ≡ lay_all ys (lay_all xs rows)
lay_all-append [] ys rows = refl
lay_all-append (x ∷ xs) ys rows = lay_all-append xs ys (lay x rows)

pub laid_over-append : (h : List (Event × Reply)) (xs ys rows : List (ℕ × ℕ)) → laid_over h (xs ++ ys) rows ≡ laid_over h ys (laid_over h xs rows)
laid_over-append h [] ys rows = refl
laid_over-append h (x ∷ xs) ys rows = laid_over-append h xs ys (lay_all (writes_of x.1 h) rows)

pub writes_of-append : (t : ℕ) (g h : List (Event × Reply)) → writes_of t (g ++ h) ≡ writes_of t g ++ writes_of t h
writes_of-append t [] h = refl
writes_of-append t (p ∷ ps) h = ap (λ ws. write_of t p.0 p.1 ++ ws) (writes_of-append t ps h) ∙ sym (append_assoc (write_of t p.0 p.1) (writes_of t ps) (writes_of t h))

pub committed_in-append : (g h : List (Event × Reply)) → committed_in (g ++ h) ≡ committed_in g ++ committed_in h
committed_in-append [] h = refl
committed_in-append (p ∷ ps) h = ap (λ ts. committed_by p.0 p.1 ++ ts) (committed_in-append ps h) ∙ sym (append_assoc (committed_by p.0 p.1) (committed_in ps) (committed_in h))

option_or-assoc : (a b c : Option ℕ) → option_or a (option_or b c) ≡ option_or (option_or a b) c
option_or-assoc None b c = refl
option_or-assoc (Some n) b c = refl

pub end_of-append : (t : ℕ) (g h : List (Event × Reply)) → end_of t (g ++ h) ≡ option_or (end_of t g) (end_of t h)
end_of-append t [] h = refl
end_of-append t (p ∷ ps) h = ap (option_or (end_drawn t p.0 p.1)) (end_of-append t ps h) ∙ option_or-assoc (end_drawn t p.0 p.1) (end_of t ps) (end_of t h)

pub option_or-none : (a : Option ℕ) → option_or a None ≡ a
option_or-none None = refl
option_or-none (Some n) = refl

-- a commit of t, which draws no end time and writes nothing
abbrev pub commits : ℕ → List (Event × Reply)
commits t = (event.Commit t, reply.Committed) ∷ []

end_of-commit : (t x : ℕ) (h : List (Event × Reply)) → end_of x (h ++ commits t) ≡ end_of x h
end_of-commit t x h = end_of-append x h (commits t) ∙ option_or-none (end_of x h)

pub append-nil : {X : Type 0} (xs : List X) → xs ++ [] ≡ xs
append-nil [] = refl
append-nil (x ∷ xs) = ap (λ ys. x ∷ ys) (append-nil xs)

writes_of-commit : (t x : ℕ) (h : List (Event × Reply)) → writes_of x (h ++ commits t) ≡ writes_of x h
writes_of-commit t x h = writes_of-append x h (commits t) ∙ append-nil (writes_of x h)

laid_over-commit : (t : ℕ) (h : List (Event × Reply)) (xs rows : List (ℕ × ℕ)) → laid_over (h ++ commits t) xs rows ≡ laid_over h xs rows
laid_over-commit t h [] rows = refl
laid_over-commit t h (x ∷ xs) rows =
    ap (λ ws. laid_over (h ++ commits t) xs (lay_all ws rows)) (writes_of-commit t x.1 h) ∙ laid_over-commit t h xs (lay_all (writes_of x.1 h) rows)

pub ordered-commit : (t : ℕ) (h : List (Event × Reply)) (xs : List ℕ) (order : List (ℕ × ℕ)) → ordered (h ++ commits t) xs order ≡ ordered h xs order
ordered-commit t h [] order = refl
ordered-commit t h (x ∷ xs) order =
    ap (λ o. ordered (h ++ commits t) xs (with_end x o order)) (end_of-commit t x h) ∙ ordered-commit t h xs (with_end x (end_of x h) order)

pub ordered-append : (h : List (Event × Reply)) (xs ys : List ℕ) (order : List (ℕ × ℕ)) → ordered h (xs ++ ys) order ≡ ordered h ys (ordered h xs order)
ordered-append h [] ys order = refl
ordered-append h (x ∷ xs) ys order = ordered-append h xs ys (with_end x (end_of x h) order)
