-- The starts of a store's slots, after one of them has changed.
use Rattle.std.proofs.Common.{◌≡◌, ℕ, zero, suc, ◌+◌, ◌%◌, ◌<◌, ◌≤◌, ◌≢◌, true, false, ◌==◌, List, [], ◌∷◌, ◌++◌, length, slice_index_or, slice_set, refl, sym, ap, subst, ◌∙◌, ⊎_elim, arith, eqb-true, get_or-set_same, get_or-set_other, mod-lt}
use Rattle.std.specs.Prelude.{map, Option, Some, None, is_some, not, Bool}
use Rattle.std.proofs.lemmas.List.{get_or-map}
use Rattle.std.proofs.lemmas.Bool.{and_from, and_parts, false≢true, cases_eq, cond_both, or_cases, or_left, or_right, both_ways}
use Rattle.hek_rules.specs.Words.{infinity, begin_time, end_time, writer_of}
use Rattle.hek_store.specs.declared.version.Version.{Version}
use Rattle.hek_store.specs.declared.chains.Ends.{Ends}
use Rattle.hek_store.specs.Stored.{no_version}
use Rattle.hek_store.specs.Chained.{keys_of, no_ends, link_or, first_link, AreLinks}
use Rattle.hek_store.specs.Indexed.{AreBuckets}
use Rattle.hek_store.specs.Living.{is_past, is_over_by, is_over, is_at_or_by, is_writer, is_replaced, loses_writer, is_gone, start_for, IsStart, IsLiving}
use Rattle.hek_store.specs.Places.{left}
use Rattle.hek_store.proofs.Linked.{length_next, next_are_links}
use Rattle.hek_store.proofs.Added.{same_item}
use Rattle.hek_store.proofs.Found.{length_keys}
use Rattle.hek_store.proofs.Started.{gone_later, over_gone, start_first, start_later, start_more, start_new, start_set, living_from}

-- ---- the links of a store, as slices show them

pub shown_links : (slots : ℕ) (vs : List Version) (links out : List ℕ) (ends : List Ends) → AreBuckets slots (keys_of vs) links ends → out ≡ links → AreLinks out
shown_links slots vs links out ends h same = subst AreLinks (sym (same ∙ h.linked)) (next_are_links (λ k. k % slots) (keys_of vs))

pub shown_count : (slots : ℕ) (vs shown : List Version) (links out : List ℕ) (ends : List Ends) → AreBuckets slots (keys_of vs) links ends → out ≡ links → shown ≡ vs → length shown ≡ length out
shown_count slots vs shown links out ends h same all = ap length all ∙ sym (ap length (same ∙ h.linked) ∙ length_next (λ k. k % slots) 0 (keys_of vs) ∙ length_keys vs)

pub shown_within : (slots slot : ℕ) (gone : Version → Bool) (link : ℕ) (vs : List Version) (links out : List ℕ) (ends : List Ends) → AreBuckets slots (keys_of vs) links ends → out ≡ links → IsStart slots slot gone vs link → link ≤ length out
shown_within slots slot gone link vs links out ends h same s =
    let count = shown_count slots vs vs links out ends h same refl in
    let within = s.within in
    omega (arith, count, within)

-- the versions along the links from a start on are living ones
pub shown_living : (slots key : ℕ) (gone : Version → Bool) (link : ℕ) (vs shown : List Version) (links out : List ℕ) (ends : List Ends) (listed : List ℕ) → AreBuckets slots (keys_of vs) links ends → out ≡ links → shown ≡ vs →
    IsStart slots (key % slots) gone vs link → listed ≡ left shown key out link → IsLiving vs key gone listed
shown_living slots key gone link vs shown links out ends listed h same all s is =
    living_from slots key gone vs links link listed h.linked s (is ∙ ap (λ xs. left xs key out link) all ∙ ap (λ ns. left vs key ns link) same)

-- ---- the start of a slot

-- the first link of a slot's chain is a start
pub start_of_ends : (slots slot : ℕ) (gone : Version → Bool) (vs : List Version) (links : List ℕ) (ends : List Ends) → AreBuckets slots (keys_of vs) links ends → slot < slots →
    IsStart slots slot gone vs (slice_index_or ends slot no_ends).first
start_of_ends slots slot gone vs links ends h below = start_first slots slot gone vs (slice_index_or ends slot no_ends).first (ap (λ e. e.first) (h.ended slot below))

-- the start that the store has is one for what is gone by another test too, if that follows
pub start_of : (slots slot : ℕ) (gone : ℕ → Version → Bool) (now : Version → Bool) (vs : List Version) (starts : List ℕ) (link : ℕ) → length starts ≡ slots →
    ((b : ℕ) → b < slots → IsStart slots b (gone b) vs (slice_index_or starts b 0)) → slot < slots → ((x : Version) → gone slot x ≡ true → now x ≡ true) → link ≡ slice_index_or starts slot link →
    IsStart slots slot now vs link
start_of slots slot gone now vs starts link begun are below later at =
    subst (λ l. IsStart slots slot now vs l) (sym (at ∙ same_item starts slot link 0 (omega (arith, begun, below)))) (start_later slots slot (gone slot) now vs (slice_index_or starts slot 0) later (are slot below))

-- ---- all starts, after that of one slot has changed

pub restarted : (slots slot : ℕ) (gone : ℕ → Version → Bool) (vs : List Version) (starts : List ℕ) (link : ℕ) → length starts ≡ slots → slot < slots →
    ((b : ℕ) → b < slots → b ≢ slot → IsStart slots b (gone b) vs (slice_index_or starts b 0)) → IsStart slots slot (gone slot) vs link →
    (b : ℕ) → b < slots → IsStart slots b (gone b) vs (slice_index_or (slice_set starts slot link) b 0)
restarted slots slot gone vs starts link begun below others new = λ b l.
    ⊎_elim
    (λ e. subst (λ c. IsStart slots c (gone c) vs (slice_index_or (slice_set starts slot link) c 0)) (sym e)
    (subst (λ n. IsStart slots slot (gone slot) vs n) (sym (get_or-set_same starts slot link 0 (omega (arith, begun, below)))) new))
    (λ other. subst (λ n. IsStart slots b (gone b) vs n) (sym (get_or-set_other starts slot b link 0 other)) (others b l other))
    (cases_eq b slot)

-- the starts after one slot has passed over versions by a later time
pub starts_passed : (slots slot passed time : ℕ) (vs : List Version) (starts : List ℕ) (link : ℕ) → length starts ≡ slots → slot < slots → passed ≤ time →
    ((b : ℕ) → b < slots → IsStart slots b (is_gone None passed) vs (slice_index_or starts b 0)) → IsStart slots slot (is_gone None time) vs link →
    (b : ℕ) → b < slots → IsStart slots b (is_gone None time) vs (slice_index_or (slice_set starts slot link) b 0)
starts_passed slots slot passed time vs starts link begun below later are new =
    restarted slots slot (λ b. is_gone None time) vs starts link begun below
    (λ b l other. start_later slots b (is_gone None passed) (is_gone None time) vs (slice_index_or starts b 0) (λ x o. gone_later None passed time x later o) (are b l)) new

-- the own starts after one slot has passed over versions for the reader, by a later time
pub owns_passed : (slots slot passed time reader : ℕ) (vs : List Version) (starts owners : List ℕ) (link : ℕ) → length starts ≡ slots → length owners ≡ slots → slot < slots → passed ≤ time →
    ((b : ℕ) → b < slots → IsStart slots b (is_gone (Some (slice_index_or owners b 0)) passed) vs (slice_index_or starts b 0)) → IsStart slots slot (is_gone (Some reader) time) vs link →
    (b : ℕ) → b < slots → IsStart slots b (is_gone (Some (slice_index_or (slice_set owners slot reader) b 0)) time) vs (slice_index_or (slice_set starts slot link) b 0)
owns_passed slots slot passed time reader vs starts owners link begun owned below later are new =
    restarted slots slot (λ b. is_gone (Some (slice_index_or (slice_set owners slot reader) b 0)) time) vs starts link begun below
    (λ b l other. subst (λ o. IsStart slots b (is_gone (Some o) time) vs (slice_index_or starts b 0)) (sym (get_or-set_other owners slot b reader 0 other))
    (start_later slots b (is_gone (Some (slice_index_or owners b 0)) passed) (is_gone (Some (slice_index_or owners b 0)) time) vs (slice_index_or starts b 0)
    (λ x o. gone_later (Some (slice_index_or owners b 0)) passed time x later o) (are b l)))
    (subst (λ o. IsStart slots slot (is_gone (Some o) time) vs link) (sym (get_or-set_same owners slot reader 0 (omega (arith, owned, below)))) new)

-- the starts after another version, in its slot or not
pub starts_more : (slots slot : ℕ) (gone : ℕ → Version → Bool) (vs : List Version) (x : Version) (starts : List ℕ) (link last : ℕ) → 0 < slots → slot ≡ x.key % slots → length starts ≡ slots →
    ((b : ℕ) → b < slots → IsStart slots b (gone b) vs (slice_index_or starts b 0)) → link ≡ slice_index_or starts slot link → last ≡ length vs + 1 →
    (b : ℕ) → b < slots → IsStart slots b (gone b) (vs ++ x ∷ []) (slice_index_or (slice_set starts slot (link_or link last)) b 0)
starts_more slots slot gone vs x starts link last any hit begun are at is =
    let below : slot < slots = subst (λ n. n < slots) (sym hit) (mod-lt x.key any) in
    let now : IsStart slots slot (gone slot) vs link = start_of slots slot gone (gone slot) vs starts link begun are below (λ y o. o) at in
    restarted slots slot gone (vs ++ x ∷ []) starts (link_or link last) begun below
    (λ b l other. start_more slots b (gone b) vs x (slice_index_or starts b 0) (λ _ e. other (sym (hit ∙ e))) (are b l))
    (by link now)
  where
    by : (n : ℕ) → IsStart slots slot (gone slot) vs n → IsStart slots slot (gone slot) (vs ++ x ∷ []) (link_or n last)
    by zero s = subst (λ n. IsStart slots slot (gone slot) (vs ++ x ∷ []) n) (sym is) (start_new slots slot (gone slot) vs x (sym hit) s)
    by (suc n) s = start_more slots slot (gone slot) vs x (suc n) (λ e. absurd (omega (arith, e))) s

-- the starts after a version changes its words and its slot starts at its first version again
pub starts_again : (slots u : ℕ) (gone : ℕ → Version → Bool) (vs : List Version) (was x : Version) (links starts new : List ℕ) (ends : List Ends) → 0 < slots → u < length vs → was ≡ slice_index_or vs u was → x.key ≡ was.key →
    keys_of (slice_set vs u x) ≡ keys_of vs → AreBuckets slots (keys_of vs) links ends → length starts ≡ slots → ((b : ℕ) → b < slots → IsStart slots b (gone b) vs (slice_index_or starts b 0)) →
    new ≡ slice_set starts (was.key % slots) (slice_index_or ends (was.key % slots) no_ends).first →
    (b : ℕ) → b < slots → IsStart slots b (gone b) (slice_set vs u x) (slice_index_or new b 0)
starts_again slots u gone vs was x links starts new ends any there at same keys h begun are is =
    let slot = was.key % slots in
    let below : slot < slots = mod-lt was.key any in
    let old : was.key ≡ (slice_index_or vs u no_version).key = ap (λ y. y.key) (at ∙ same_item vs u was no_version there) in
    let first = (slice_index_or ends slot no_ends).first in
    let all = restarted slots slot gone (slice_set vs u x) starts first begun below
    (λ b l other. start_set slots b (gone b) vs (slice_index_or starts b 0) u x there (same ∙ old) (λ e o. absurd (other (sym (ap (λ k. k % slots) (sym same) ∙ e)))) (are b l))
    (start_first slots slot (gone slot) (slice_set vs u x) first (ap (λ e. e.first) (h.ended slot below) ∙ ap (λ ks. first_link (λ k. k % slots == slot) 0 ks) (sym keys))) in
    λ b l. subst (λ ns. IsStart slots b (gone b) (slice_set vs u x) (slice_index_or ns b 0)) (sym is) (all b l)

-- the starts after a version changes its words, if it is gone wherever it was before
pub starts_stay : (slots u : ℕ) (gone : ℕ → Version → Bool) (vs : List Version) (was x : Version) (starts : List ℕ) → u < length vs → was ≡ slice_index_or vs u was → x.key ≡ was.key →
    ((b : ℕ) → gone b was ≡ true → gone b x ≡ true) → ((b : ℕ) → b < slots → IsStart slots b (gone b) vs (slice_index_or starts b 0)) →
    (b : ℕ) → b < slots → IsStart slots b (gone b) (slice_set vs u x) (slice_index_or starts b 0)
starts_stay slots u gone vs was x starts there at same over are = λ b l.
    let old : was ≡ slice_index_or vs u no_version = at ∙ same_item vs u was no_version there in
    start_set slots b (gone b) vs (slice_index_or starts b 0) u x there (same ∙ ap (λ y. y.key) old) (λ _ o. over b (ap (gone b) old ∙ o)) (are b l)

-- a version whose Begin is a transaction is not over
begin-none : (time : ℕ) (from until : Option ℕ) → is_some from ≡ false → is_over_by time from until ≡ true → false ≡ true
begin-none time None until e o = o
begin-none time (Some from) until e o = sym e

pub not_over : (time : ℕ) (x y : Version) → is_some (begin_time x.begin) ≡ false → is_gone None time x ≡ true → is_gone None time y ≡ true
not_over time x y e o = let no = begin-none time (begin_time x.begin) (end_time x.end) e o in cc

end-none : (time : ℕ) (from until other : Option ℕ) → is_past time until ≡ false → is_over_by time from until ≡ true → is_over_by time from other ≡ true
end-none time None until other e o = o
end-none time (Some from) until other e o =
    ⊎_elim
    (λ past. absurd (both_ways (is_past time until) e past))
    (λ never. or_right (is_past time other) (from == infinity) never)
    (or_cases (is_past time until) (from == infinity) o)

pub still_over : (time : ℕ) (x y : Version) → y.begin ≡ x.begin → is_past time (end_time x.end) ≡ false → is_over time x ≡ true → is_over time y ≡ true
still_over time x y same e o = ap (λ w. is_over_by time (begin_time w) (end_time y.end)) same ∙ end-none time (begin_time x.begin) (end_time x.end) (end_time y.end) e o

-- a writer that is not lost is still the writer
still-writer : (t : ℕ) (was now : Option ℕ) → loses_writer was now ≡ false → is_writer t was ≡ true → is_writer t now ≡ true
still-writer t None now kept is = absurd (false≢true is)
still-writer t (Some u) None kept is = absurd (false≢true (sym kept))
still-writer t (Some u) (Some w) kept is = subst (λ n. (n == t) ≡ true) (sym (eqb-true w u (from_not (w == u) kept))) is
  where
    from_not : (b : Bool) → not b ≡ false → b ≡ true
    from_not true e = refl
    from_not false e = absurd (false≢true (sym e))

-- what was gone stays so for each reader, where its End had not come and no writer was lost
pub still_gone : (t time : ℕ) (x y : Version) → y.begin ≡ x.begin → is_past time (end_time x.end) ≡ false → loses_writer (writer_of x.end) (writer_of y.end) ≡ false → is_gone (Some t) time x ≡ true → is_gone (Some t) time y ≡ true
still_gone t time x y same past kept o =
    ⊎_elim
    (λ over. or_left (is_over time y) (is_replaced t y) (still_over time x y same past over))
    (λ mine. let parts = and_parts (is_at_or_by t x.begin) (is_writer t (writer_of x.end)) mine in
    or_right (is_over time y) (is_replaced t y)
    (and_from (is_at_or_by t y.begin) (is_writer t (writer_of y.end)) (ap (is_at_or_by t) same ∙ parts.0) (still-writer t (writer_of x.end) (writer_of y.end) kept parts.1)))
    (or_cases (is_over time x) (is_replaced t x) o)

-- the start for a reader is one
pub start_for_reader : (slots slot passed time reader : ℕ) (vs : List Version) (starts own_starts owners : List ℕ) → slot < slots → passed ≤ time →
    ((b : ℕ) → b < slots → IsStart slots b (is_gone None passed) vs (slice_index_or starts b 0)) →
    ((b : ℕ) → b < slots → IsStart slots b (is_gone (Some (slice_index_or owners b 0)) passed) vs (slice_index_or own_starts b 0)) →
    IsStart slots slot (is_gone (Some reader) time) vs (start_for starts own_starts owners slot reader)
start_for_reader slots slot passed time reader vs starts own_starts owners below later are own =
    cond_both (slice_index_or owners slot 0 == reader) (slice_index_or own_starts slot 0) (slice_index_or starts slot 0) (λ link. IsStart slots slot (is_gone (Some reader) time) vs link)
    (λ y. start_later slots slot (is_gone (Some (slice_index_or owners slot 0)) passed) (is_gone (Some reader) time) vs (slice_index_or own_starts slot 0)
    (λ x o. gone_later (Some reader) passed time x later (subst (λ t. is_gone (Some t) passed x ≡ true) (eqb-true (slice_index_or owners slot 0) reader y) o)) (own slot below))
    (λ n. start_later slots slot (is_gone None passed) (is_gone (Some reader) time) vs (slice_index_or starts slot 0)
    (λ x o. over_gone reader time x (gone_later None passed time x later o)) (are slot below))

-- the first links of all chains are starts
pub starts_fresh : (slots : ℕ) (gone : ℕ → Version → Bool) (vs : List Version) (links starts : List ℕ) (ends : List Ends) → AreBuckets slots (keys_of vs) links ends → starts ≡ map (λ e. e.first) ends →
    (b : ℕ) → b < slots → IsStart slots b (gone b) vs (slice_index_or starts b 0)
starts_fresh slots gone vs links starts ends h is = λ b l.
    let count = h.count in
    let at : slice_index_or starts b 0 ≡ (slice_index_or ends b no_ends).first = ap (λ ns. slice_index_or ns b 0) is ∙ get_or-map (λ e. e.first) ends b no_ends 0 (omega (arith, count, l)) in
    subst (λ n. IsStart slots b (gone b) vs n) (sym at) (start_of_ends slots b (gone b) vs links ends h l)
