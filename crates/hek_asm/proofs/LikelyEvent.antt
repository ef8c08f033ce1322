-- A step's words lead back to its event.
use Rattle.std.proofs.Common.{◌≡◌, ℕ, ◌+◌, true, false, ◌&&◌, ◌||◌, not, List, ◌∷◌, ◌++◌, length, drop, Some, refl, ap, ◌∙◌, codes}
use Rattle.std.specs.Prelude.{nat_le}
use Rattle.std.specs.List.{AllByRecursion, list_all}
use Rattle.std.specs.Str.{bytes_eq}
use Rattle.std.specs.Fmt.{decimal}
use Rattle.std.proofs.lemmas.Bool.{and_parts, not-true}
use Rattle.hek_rules.specs.declared.event.Event.{Event}
use Rattle.hek_rules.specs.declared.event.Event.TheVariants as event
use Rattle.hek_rules.specs.declared.kind.EventKind.{EventKind}
use Rattle.hek_rules.specs.declared.kind.EventKind.TheVariants as kind
use Rattle.hek_rules.specs.Name.{is_name, is_name_byte, is_reserved, begins_with_letter}
use Rattle.hek_rules.specs.Events.{word_of, kind_named, event_of, first_of, second_of}
use Rattle.hek_rules.specs.Plan.{Plan, IsPlan, IsDeclared}
use Rattle.hek_asm.specs.Canonical.{name_at, step_words}
use Rattle.hek_asm.specs.Trace.{NamesDeclared}
use Rattle.hek_asm.specs.Likely.{first_value, step_named, likely_event, step_len}
use Rattle.hek_asm.specs.Reading.{is_small}
use Rattle.hek_asm.proofs.Joined.{IsWord}
use Rattle.hek_asm.proofs.Again.{decimal_word, name_word, letters_word}
use Rattle.hek_asm.proofs.RoundTrip.{id_again, name_again, or_false}
use Rattle.hek_asm.proofs.LikelyReply.{value_again}

not_detect : (w : List ℕ) → is_name w ≡ true → bytes_eq w (codes "detect") ≡ false
not_detect w h =
    let free = not-true (is_reserved w) (and_parts ((begins_with_letter w && nat_le (length w) 32) && list_all is_name_byte w) (not (is_reserved w)) h).1 in
    (or_false ((bytes_eq w (codes "buckets") || bytes_eq w (codes "row")) || bytes_eq w (codes "txn")) (bytes_eq w (codes "detect")) free).1

-- a step of a transaction, by its name and the word of its kind
named : (p : Plan) (t : ℕ) (k : EventKind) (ws : List (List ℕ)) → IsPlan p → IsDeclared (length p.txns) t → kind_named (word_of k) ≡ Some k →
    likely_event p (name_at p t ∷ word_of k ∷ ws) ≡ Some (event_of k t (first_value ws) (first_value (drop 1 ws)))
unfolding likely_event step_named
named p t k ws is declared known = rw (not_detect (name_at p t) (name_again p t is declared), known, id_again p t is declared) refl

pub event_again : (p : Plan) (e : Event) (ws : List (List ℕ)) → IsPlan p → NamesDeclared (length p.txns) e → is_small (first_of e) → is_small (second_of e) → likely_event p (step_words p e ++ ws) ≡ Some e
unfolding likely_event
event_again p (event.Begin t) ws is d a b = named p t kind.Begin ws is d refl
event_again p (event.Read t k) ws is d a b = named p t kind.Read (decimal k ∷ ws) is d refl ∙ ap (λ (n : ℕ). Some (event.Read t n)) (value_again k a)
event_again p (event.Scan t k) ws is d a b = named p t kind.Scan (decimal k ∷ ws) is d refl ∙ ap (λ (n : ℕ). Some (event.Scan t n)) (value_again k a)
event_again p (event.Insert t k v) ws is d a b = named p t kind.Insert (decimal k ∷ decimal v ∷ ws) is d refl ∙ rw (value_again k a, value_again v b) refl
event_again p (event.Update t k v) ws is d a b = named p t kind.Update (decimal k ∷ decimal v ∷ ws) is d refl ∙ rw (value_again k a, value_again v b) refl
event_again p (event.Delete t k) ws is d a b = named p t kind.Delete (decimal k ∷ ws) is d refl ∙ ap (λ (n : ℕ). Some (event.Delete t n)) (value_again k a)
event_again p (event.Finish t) ws is d a b = named p t kind.Finish ws is d refl
event_again p (event.Precommit t) ws is d a b = named p t kind.Precommit ws is d refl
event_again p (event.Release t) ws is d a b = named p t kind.Release ws is d refl
event_again p (event.Commit t) ws is d a b = named p t kind.Commit ws is d refl
event_again p (event.Fail t) ws is d a b = named p t kind.Fail ws is d refl
event_again p (event.Stamp t) ws is d a b = named p t kind.Stamp ws is d refl
event_again p (event.End t) ws is d a b = named p t kind.End ws is d refl
event_again p event.Detect ws is d a b = refl

-- the words after a step and the arrow
pub behind_step : (p : Plan) (e : Event) (arrow : List ℕ) (ws : List (List ℕ)) → drop (step_len e + 1) (step_words p e ++ arrow ∷ ws) ≡ ws
behind_step p (event.Begin t) arrow ws = refl
behind_step p (event.Read t k) arrow ws = refl
behind_step p (event.Scan t k) arrow ws = refl
behind_step p (event.Insert t k v) arrow ws = refl
behind_step p (event.Update t k v) arrow ws = refl
behind_step p (event.Delete t k) arrow ws = refl
behind_step p (event.Finish t) arrow ws = refl
behind_step p (event.Precommit t) arrow ws = refl
behind_step p (event.Release t) arrow ws = refl
behind_step p (event.Commit t) arrow ws = refl
behind_step p (event.Fail t) arrow ws = refl
behind_step p (event.Stamp t) arrow ws = refl
behind_step p (event.End t) arrow ws = refl
behind_step p event.Detect arrow ws = refl

-- ---- a step is written in words
name : (p : Plan) (t : ℕ) → IsPlan p → IsDeclared (length p.txns) t → IsWord (name_at p t)
name p t is d = name_word (name_at p t) (name_again p t is d)

pub step_is_words : (p : Plan) (e : Event) → IsPlan p → NamesDeclared (length p.txns) e → is_small (first_of e) → is_small (second_of e) → AllByRecursion IsWord (step_words p e)
step_is_words p (event.Begin t) is d a b = (name p t is d, (letters_word (codes "begin") refl, tt))
step_is_words p (event.Read t k) is d a b = (name p t is d, (letters_word (codes "read") refl, (decimal_word k a, tt)))
step_is_words p (event.Scan t k) is d a b = (name p t is d, (letters_word (codes "scan") refl, (decimal_word k a, tt)))
step_is_words p (event.Insert t k v) is d a b = (name p t is d, (letters_word (codes "insert") refl, (decimal_word k a, (decimal_word v b, tt))))
step_is_words p (event.Update t k v) is d a b = (name p t is d, (letters_word (codes "update") refl, (decimal_word k a, (decimal_word v b, tt))))
step_is_words p (event.Delete t k) is d a b = (name p t is d, (letters_word (codes "delete") refl, (decimal_word k a, tt)))
step_is_words p (event.Finish t) is d a b = (name p t is d, (letters_word (codes "finish") refl, tt))
step_is_words p (event.Precommit t) is d a b = (name p t is d, (letters_word (codes "precommit") refl, tt))
step_is_words p (event.Release t) is d a b = (name p t is d, (letters_word (codes "release") refl, tt))
step_is_words p (event.Commit t) is d a b = (name p t is d, (letters_word (codes "commit") refl, tt))
step_is_words p (event.Fail t) is d a b = (name p t is d, (letters_word (codes "fail") refl, tt))
step_is_words p (event.Stamp t) is d a b = (name p t is d, (letters_word (codes "stamp") refl, tt))
step_is_words p (event.End t) is d a b = (name p t is d, (letters_word (codes "end") refl, tt))
step_is_words p event.Detect is d a b = (letters_word (codes "detect") refl, tt)
