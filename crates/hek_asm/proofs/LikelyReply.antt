-- A reply's words lead back to it.
use Rattle.std.proofs.Common.{◌≡◌, ℕ, Bool, true, false, ◌&&◌, not, eqb, leb, List, [], ◌∷◌, ◌++◌, length, map, take, drop, Option, Some, None, refl, ap, ◌∙◌, arith, codes, subst, length-append}
use Rattle.std.specs.Prelude.{nat_le, nat_lt, ◌==◌, unwrap_or}
use Rattle.std.specs.List.{AllByRecursion, list_all, position_or_len}
use Rattle.std.specs.Str.{all_ascii_digits, bytes_eq}
use Rattle.std.specs.Fmt.{decimal}
use Rattle.std.proofs.lemmas.Bool.{and_parts, leb-true, ltb-true, not-true, ne_eqb}
use Rattle.std.proofs.lemmas.Fmt.{digits_decimal}
use Rattle.std.proofs.lemmas.Slice.Eq.{bytes_eq-Decides}
use Rattle.std.proofs.Math.Seq.{drop-append_seam}
use Rattle.hek_rules.specs.declared.event.Cause.{Cause}
use Rattle.hek_rules.specs.declared.event.Cause.TheVariants as cause
use Rattle.hek_rules.specs.declared.reply.Refusal.{Refusal}
use Rattle.hek_rules.specs.declared.reply.Refusal.TheVariants as refusal
use Rattle.hek_rules.specs.declared.reply.Reply.{Reply}
use Rattle.hek_rules.specs.declared.reply.Reply.TheVariants as reply
use Rattle.hek_rules.specs.declared.form.ReplyForm.{ReplyForm}
use Rattle.hek_rules.specs.declared.form.ReplyForm.TheVariants as form
use Rattle.hek_rules.specs.Forms.{form_words}
use Rattle.hek_rules.specs.Names.{cause_word, refusal_number, refusal_name}
use Rattle.hek_rules.specs.Replies.{form_of}
use Rattle.hek_asm.specs.Trace.{refusal_words, pair_word, reply_operands, reply_words}
use Rattle.hek_asm.specs.Likely.{number_else_zero, is_equals, pair_of, cause_at, refusal_at, likely_reply}
use Rattle.hek_asm.specs.Reading.{is_small, AreSmall, IsSmallReply}
use Rattle.hek_asm.proofs.Joined.{IsPlain, IsWord, all_append}
use Rattle.hek_asm.proofs.Again.{own, number_again, decimal_word}
use Rattle.hek_asm.proofs.Fronts.{take_front}

pub value_again : (n : ℕ) → is_small n → number_else_zero (decimal n) ≡ n
value_again n h = ap (λ (o : Option ℕ). unwrap_or o 0) (number_again n h)

values_again : (ns : List ℕ) → AllByRecursion is_small ns → map number_else_zero (map decimal ns) ≡ ns
values_again [] h = refl
values_again (n ∷ ns) h = ap (λ (m : ℕ). m ∷ map number_else_zero (map decimal ns)) (value_again n h.0) ∙ ap (λ (ms : List ℕ). n ∷ ms) (values_again ns h.1)

-- ---- pairs
equals_after : (w rest : List ℕ) → all_ascii_digits w ≡ true → position_or_len is_equals (w ++ 61 ∷ rest) ≡ length w
equals_after [] rest h = refl
equals_after (b ∷ bs) rest h =
    let both = and_parts _ (all_ascii_digits bs) h in
    let range = and_parts (leb 48 b) (leb b 57) both.0 in
    let other : eqb b 61 ≡ false = ne_eqb b 61 (λ e. absurd (omega (arith, leb-true b 57 range.1))) in
    let next = equals_after bs rest both.1 in
    rw other (omega (arith, next))

pair_again : (p : ℕ × ℕ) → is_small p.0 × is_small p.1 → pair_of (pair_word p) ≡ p
pair_again p h =
    let key = decimal p.0 in
    let value = decimal p.1 in
    let place : position_or_len is_equals (pair_word p) ≡ length key = equals_after key value (digits_decimal own p.0 h.0) in
    let front : take (position_or_len is_equals (pair_word p)) (pair_word p) ≡ key = ap (λ (n : ℕ). take n (pair_word p)) place ∙ take_front key (61 ∷ value) in
    let back : drop (position_or_len is_equals (pair_word p)) (pair_word p) ≡ 61 ∷ value = ap (λ (n : ℕ). drop n (pair_word p)) place ∙ drop-append_seam key (61 ∷ value) in
    let first : number_else_zero (take (position_or_len is_equals (pair_word p)) (pair_word p)) ≡ p.0 = ap number_else_zero front ∙ value_again p.0 h.0 in
    let second : number_else_zero (drop 1 (drop (position_or_len is_equals (pair_word p)) (pair_word p))) ≡ p.1 = ap (λ (w : List ℕ). number_else_zero (drop 1 w)) back ∙ value_again p.1 h.1 in
    ap (λ (n : ℕ). (n, number_else_zero (drop 1 (drop (position_or_len is_equals (pair_word p)) (pair_word p))))) first ∙ ap (λ (n : ℕ). (p.0, n)) second

pairs_again : (ps : List (ℕ × ℕ)) → AreSmall ps → map pair_of (map pair_word ps) ≡ ps
pairs_again [] h = refl
pairs_again (p ∷ ps) h = ap (λ (q : ℕ × ℕ). q ∷ map pair_of (map pair_word ps)) (pair_again p h.0) ∙ ap (λ (qs : List (ℕ × ℕ)). p ∷ qs) (pairs_again ps h.1)

-- ---- causes and refusals
cause_again : (c : Cause) → cause_at (cause_word c ∷ []) ≡ c
cause_again cause.Cascade = refl
cause_again other = refl

refusal_again : (r : Refusal) → refusal_at (refusal_words r) ≡ r
refusal_again refusal.UnknownTxn = refl
refusal_again other = refl

-- a number is not the word `commits`
no_commits : (n : ℕ) → is_small n → bytes_eq (decimal n) (codes "commits") ≡ false
no_commits n h = by (bytes_eq (decimal n) (codes "commits")) refl
  where
    by : (b : Bool) → bytes_eq (decimal n) (codes "commits") ≡ b → bytes_eq (decimal n) (codes "commits") ≡ false
    by false e = e
    by true e =
        let same : decimal n ≡ codes "commits" = (bytes_eq-Decides (decimal n) (codes "commits")).0 e in
        let digits : all_ascii_digits (codes "commits") ≡ true = subst (λ (w : List ℕ). all_ascii_digits w ≡ true) same (digits_decimal own n h) in
        absurd cc

pub reply_again : (r : Reply) → IsSmallReply r → likely_reply (reply_words r) ≡ r
unfolding likely_reply
reply_again (reply.Began time) h = ap (λ (n : ℕ). reply.Began n) (value_again time h)
reply_again (reply.Found value) h = ap (λ (n : ℕ). reply.Found n) (value_again value h)
reply_again (reply.Rows pairs) h = ap (λ (ps : List (ℕ × ℕ)). reply.Rows ps) (pairs_again pairs h)
reply_again (reply.Waiting count) h = rw (no_commits count h) (ap (λ (n : ℕ). reply.Waiting n) (value_again count h))
reply_again (reply.WaitingCommits count) h = ap (λ (n : ℕ). reply.WaitingCommits n) (value_again count h)
reply_again (reply.Precommitted time) h = ap (λ (n : ℕ). reply.Precommitted n) (value_again time h)
reply_again (reply.ReleasedRead v None) h = ap (λ (n : ℕ). reply.ReleasedRead n None) (value_again v h.0)
reply_again (reply.ReleasedRead v (Some u)) h = ap (λ (n : ℕ). reply.ReleasedRead n (Some (number_else_zero (decimal u)))) (value_again v h.0) ∙ ap (λ (n : ℕ). reply.ReleasedRead v (Some n)) (value_again u h.1)
reply_again (reply.ReleasedBucket b) h = ap (λ (n : ℕ). reply.ReleasedBucket n) (value_again b h)
reply_again (reply.ReleasedWaiter u) h = ap (λ (n : ℕ). reply.ReleasedWaiter n) (value_again u h)
reply_again (reply.StampedBegin v) h = ap (λ (n : ℕ). reply.StampedBegin n) (value_again v h)
reply_again (reply.StampedEnd v) h = ap (λ (n : ℕ). reply.StampedEnd n) (value_again v h)
reply_again (reply.Left v) h = ap (λ (n : ℕ). reply.Left n) (value_again v h)
reply_again (reply.Victim t cycle) h = ap (λ (n : ℕ). reply.Victim n (map number_else_zero (map decimal cycle))) (value_again t h.0) ∙ ap (λ (ns : List ℕ). reply.Victim t ns) (values_again cycle h.1)
reply_again (reply.Aborted c) h = ap (λ (d : Cause). reply.Aborted d) (cause_again c)
reply_again (reply.Refused r) h = ap (λ (q : Refusal). reply.Refused q) (refusal_again r)
reply_again other h = refl

-- ---- a reply is written in words
abbrev is_plain : ℕ → Bool
is_plain b = (nat_le 33 b && nat_lt b 128) && not (b == 35)

other_byte : (b : ℕ) → (b == 35) ≡ false → b ≡ 35 → ⊥
other_byte b g e = let same : (35 == 35) ≡ false = subst (λ (n : ℕ). (n == 35) ≡ false) e g in absurd cc

pub plain_word : (w : List ℕ) → (nat_lt 0 (length w) && list_all is_plain w) ≡ true → IsWord w
plain_word w h =
    let both = and_parts (nat_lt 0 (length w)) (list_all is_plain w) h in
    record { some = ltb-true 0 (length w) both.0; plain = bytes w both.1 }
  where
    bytes : (bs : List ℕ) → list_all is_plain bs ≡ true → AllByRecursion IsPlain bs
    bytes [] g = tt
    bytes (b ∷ bs) g =
        let k = and_parts (is_plain b) (list_all is_plain bs) g in
        let r = and_parts (nat_le 33 b && nat_lt b 128) (not (b == 35)) k.0 in
        let s = and_parts (nat_le 33 b) (nat_lt b 128) r.0 in
        ((leb-true 33 b s.0, ltb-true b 128 s.1, λ e. other_byte b (not-true (b == 35) r.1) e), bytes bs k.1)

pair_is_word : (p : ℕ × ℕ) → is_small p.0 × is_small p.1 → IsWord (pair_word p)
pair_is_word p h =
    let equals : IsPlain 61 = (omega arith, omega arith, λ e. absurd (omega arith)) in
    record {
      some = omega (arith, length-append (decimal p.0) (61 ∷ decimal p.1));
      plain = all_append IsPlain (decimal p.0) (61 ∷ decimal p.1) (decimal_word p.0 h.0).plain (equals, (decimal_word p.1 h.1).plain);
    }

pairs_are_words : (ps : List (ℕ × ℕ)) → AreSmall ps → AllByRecursion IsWord (map pair_word ps)
pairs_are_words [] h = tt
pairs_are_words (p ∷ ps) h = (pair_is_word p h.0, pairs_are_words ps h.1)

numbers_are_words : (ns : List ℕ) → AllByRecursion is_small ns → AllByRecursion IsWord (map decimal ns)
numbers_are_words [] h = tt
numbers_are_words (n ∷ ns) h = (decimal_word n h.0, numbers_are_words ns h.1)

-- the words of forms, causes and refusals
abbrev is_plain_word : List ℕ → Bool
is_plain_word w = nat_lt 0 (length w) && list_all is_plain w

plain_words : (ws : List (List ℕ)) → list_all is_plain_word ws ≡ true → AllByRecursion IsWord ws
plain_words [] h = tt
plain_words (w ∷ ws) h = let both = and_parts (is_plain_word w) (list_all is_plain_word ws) h in (plain_word w both.0, plain_words ws both.1)

form_is_words : (f : ReplyForm) → AllByRecursion IsWord (form_words f)
form_is_words f = plain_words (form_words f) (plain f)
  where
    plain : (g : ReplyForm) → list_all is_plain_word (form_words g) ≡ true
    plain form.Began = refl
    plain other = refl

cause_is_word : (c : Cause) → IsWord (cause_word c)
cause_is_word c = plain_word (cause_word c) (plain c)
  where
    plain : (d : Cause) → is_plain_word (cause_word d) ≡ true
    plain cause.Cascade = refl
    plain other = refl

refusal_is_words : (r : Refusal) → AllByRecursion IsWord (refusal_words r)
refusal_is_words r = (decimal_word (refusal_number r) (small r), (plain_word (refusal_name r) (plain r), tt))
  where
    small : (q : Refusal) → is_small (refusal_number q)
    small refusal.UnknownTxn = omega arith
    small other = omega arith

    plain : (q : Refusal) → is_plain_word (refusal_name q) ≡ true
    plain refusal.UnknownTxn = refl
    plain other = refl

operands_are_words : (r : Reply) → IsSmallReply r → AllByRecursion IsWord (reply_operands r)
operands_are_words (reply.Began time) h = (decimal_word time h, tt)
operands_are_words (reply.Found value) h = (decimal_word value h, tt)
operands_are_words (reply.Rows pairs) h = pairs_are_words pairs h
operands_are_words (reply.Waiting count) h = (decimal_word count h, tt)
operands_are_words (reply.WaitingCommits count) h = (decimal_word count h, tt)
operands_are_words (reply.Precommitted time) h = (decimal_word time h, tt)
operands_are_words (reply.ReleasedRead v None) h = (decimal_word v h.0, tt)
operands_are_words (reply.ReleasedRead v (Some u)) h = (decimal_word v h.0, (plain_word (codes "writer") refl, (decimal_word u h.1, tt)))
operands_are_words (reply.ReleasedBucket b) h = (decimal_word b h, tt)
operands_are_words (reply.ReleasedWaiter u) h = (decimal_word u h, tt)
operands_are_words (reply.StampedBegin v) h = (decimal_word v h, tt)
operands_are_words (reply.StampedEnd v) h = (decimal_word v h, tt)
operands_are_words (reply.Left v) h = (decimal_word v h, tt)
operands_are_words (reply.Victim t cycle) h = (decimal_word t h.0, (plain_word (codes "cycle") refl, numbers_are_words cycle h.1))
operands_are_words (reply.Aborted c) h = (cause_is_word c, tt)
operands_are_words (reply.Refused r) h = refusal_is_words r
operands_are_words other h = tt

pub all_words : (vs ws : List (List ℕ)) → AllByRecursion IsWord vs → AllByRecursion IsWord ws → AllByRecursion IsWord (vs ++ ws)
all_words [] ws h k = k
all_words (v ∷ vs) ws h k = (h.0, all_words vs ws h.1 k)

pub reply_is_words : (r : Reply) → IsSmallReply r → AllByRecursion IsWord (reply_words r)
reply_is_words r h = all_words (form_words (form_of r)) (reply_operands r) (form_is_words (form_of r)) (operands_are_words r h)
