-- The words of a form lead to it.
use Rattle.std.proofs.Common.{◌≡◌, ℕ, true, false, List, [], ◌∷◌, ◌++◌, Option, Some, None, refl, ap, ◌∙◌}
use Rattle.std.specs.Str.{bytes_eq}
use Rattle.std.proofs.lemmas.Bool.{and_parts}
use Rattle.std.proofs.lemmas.Slice.Eq.{bytes_eq-Decides}
use Rattle.hek_rules.specs.declared.form.ReplyForm.{ReplyForm}
use Rattle.hek_rules.specs.declared.form.ReplyForm.TheVariants as form
use Rattle.hek_rules.specs.Forms.{all_forms, first_word, second_word, word_or_none, form_words}
use Rattle.hek_asm.specs.Likely.{has_second, begins, form_among, is_waiting}

-- the words after those of a form
behind : Option (List ℕ) → List (List ℕ) → List (List ℕ)
behind None ws = ws
behind (Some s) [] = []
behind (Some s) (w ∷ ws) = ws

seconds : (o : Option (List ℕ)) (ws : List (List ℕ)) → has_second o ws ≡ true → ws ≡ word_or_none o ++ behind o ws
unfolding behind
seconds None ws h = refl
seconds (Some s) [] h = absurd cc
seconds (Some s) (w ∷ ws) h = ap (λ (v : List ℕ). v ∷ ws) ((bytes_eq-Decides w s).0 h)

-- words that begin with those of a form
parted : (f : ReplyForm) (w : List ℕ) (ws : List (List ℕ)) → begins f (w ∷ ws) ≡ true → w ∷ ws ≡ form_words f ++ behind (second_word f) ws
parted f w ws h =
    let both = and_parts (bytes_eq w (first_word f)) (has_second (second_word f) ws) h in
    ap (λ (v : List ℕ). v ∷ ws) ((bytes_eq-Decides w (first_word f)).0 both.0) ∙ ap (λ (vs : List (List ℕ)). first_word f ∷ vs) (seconds (second_word f) ws both.1)

computed : (f : ReplyForm) (ws : List (List ℕ)) → is_waiting f ≡ false → form_among all_forms (form_words f ++ ws) ≡ Some f
computed form.Waiting ws h = absurd cc
computed form.Began ws h = refl
computed other ws h = refl

pub form_first : (f : ReplyForm) (ws : List (List ℕ)) → is_waiting f ≡ false → begins f ws ≡ true → form_among all_forms ws ≡ Some f
form_first f [] n h = absurd cc
form_first f (w ∷ ws) n h = ap (form_among all_forms) (parted f w ws h) ∙ computed f (behind (second_word f) ws) n
