-- What `word --changes` reads and answers, line by line.
use Rattle.std.proofs.Common.{◌≡◌, refl, sym, ap, subst, ◌∙◌, ℕ, ◌+◌, ◌<◌, ◌≤◌, ◌↔◌, Bool, true, false, cond, max, List, [], ◌∷◌, ◌++◌, length, take, get_or, append_assoc, arith, below_more, inl, inr, Option, Some, None}
use Rattle.std.proofs.lemmas.List.{append-nil}
use Rattle.std.specs.Prelude.{◌==◌, IfSome, IsTrue, if◌then◌else◌, reverse}
use Rattle.std.specs.List.{list_any}
use Rattle.std.specs.Io.BufRead.{DropsThrough, drop_through, first_line}
use Rattle.std.specs.Io.KnownBytes.{Appends, IsAtEnd}
use Rattle.std.specs.Str.{trim}
use Rattle.std.proofs.lemmas.Bool.Decides.{nat_tests}
use Rattle.std.proofs.lemmas.Grind.{common_steps}
use Rattle.std.proofs.lemmas.Map.Entries.{place_from_lookup}
use Rattle.std.proofs.lemmas.Option.{slice_get_within}
use Rattle.std.specs.Prelude.{nat_eq, slice_get, Any, IsSome, is_some}
use Rattle.indexmap.specs.IndexMap.{get}
use Rattle.hek_report.specs.declared.printing.Printing.{Printing}
use Rattle.hek_convert_command.specs.declared.book.Book.{Book}
use Rattle.hek_convert_command.specs.declared.entries.Listed.{Listed}
use Rattle.hek_convert_command.specs.declared.entry.Entry.{Entry}
use Rattle.hek_convert_command.specs.Answering.{Answering, IsAnswered}
use Rattle.hek_convert_command.specs.Book.{knowledge_of}
use Rattle.hek_convert_command.specs.Changed.{Answered, AnswersAll, AreAnswers, HasLeak, IsAnswerTo, IsLeaked, IsWriterIn, IsTold, Knowledge, answers_text, greatest, known_by, known_then, lines_of, nothing_known, status_of_answer}
use Rattle.hek_convert_command.specs.Lines.{AreFullLines, AreLinesBefore, Full, full_lines, line_number, with_line}
use Rattle.hek_convert_command.specs.Logged.{AddsLine, AreEntriesOf, AreListed, HasRead, says_over}

-- ---- what a writer holds

appended : (before now last : Option (List ℕ)) (xs ys : List ℕ) → Appends before now xs → Appends now last ys → Appends before last (xs ++ ys)
appended None now last xs ys p q = tt
appended (Some held) None last xs ys p q = absurd p
appended (Some held) (Some more) None xs ys p q = absurd q
appended (Some held) (Some more) (Some most) xs ys p q = q ∙ ap (λ (zs : List ℕ). zs ++ ys) p ∙ append_assoc held xs ys

nothing : (held : Option (List ℕ)) → Appends held held []
nothing None = tt
nothing (Some xs) = sym (append-nil xs)

-- ---- the answers

-- no line yet
pub none_answered : (printing : Printing) (followed : Bool) (book : Book) (held : Option (List ℕ)) → knowledge_of book ≡ nothing_known → Answering printing followed [] book held held 0
none_answered printing followed book held fresh = record { answered = []; lines = refl; right = tt; written = nothing held; is_greatest = refl; kept = fresh }

-- one more line
pub one_answered : (printing : Printing) (followed : Bool) (listed more : List Listed) (line : Listed) (book noted : Book) (before now last : Option (List ℕ)) (status asked next : ℕ)
    → reverse more ≡ line ∷ reverse listed → next ≡ max asked status → IsAnswered printing followed line book noted now last asked → Answering printing followed listed book before now status
    → Answering printing followed more noted before last next
one_answered printing followed listed more line book noted before now last status asked next is_more is m p =
    let answered : Answered = record { listed = line; change = m.is_reply.change; reply = m.reply; text = m.text } in
    record {
      answered = answered ∷ p.answered;
      lines = ap (λ (lines : List Listed). line ∷ lines) p.lines ∙ sym is_more;
      right = (subst (λ (known : Knowledge). IsAnswerTo known followed line.entry m.is_reply.change m.reply) p.kept m.is_reply.right, m.told, p.right);
      written = appended before now last (answers_text p.answered) m.text p.written m.written;
      is_greatest = is ∙ ap (λ (n : ℕ). max n status) m.asks ∙ ap (λ (n : ℕ). max (status_of_answer m.reply) n) p.is_greatest;
      kept = m.is_reply.kept ∙ ap (λ (known : Knowledge). known_then line.number line.entry m.is_reply.change known) p.kept;
    }

-- the first lines of a log, with one more
pub one_more_line : (listed : List Listed) (line : Listed) (i : ℕ) → i < length listed → line ≡ get_or listed i line → reverse (take (i + 1) listed) ≡ line ∷ reverse (take i listed)
one_more_line listed line i within is = grind (arith, common_steps, is)

-- all lines
pub all_lines : (printing : Printing) (followed : Bool) (listed : List Listed) (book : Book) (before after : Option (List ℕ)) (status i : ℕ) → length listed ≤ i
    → Answering printing followed (take i listed) book before after status → Answering printing followed listed book before after status
all_lines printing followed listed book before after status i all p =
    let whole : take i listed ≡ listed = grind (arith, common_steps, all) in
    subst (λ (lines : List Listed). Answering printing followed lines book before after status) whole p

-- the answers, and what was written behind them
pub with_ending : (printing : Printing) (listed : List Listed) (followed : Bool) (book : Book) (before now after : Option (List ℕ)) (status next : ℕ) (leaks : Bool) (ending : List ℕ)
    → followed ≡ list_any (λ (line : Listed). says_over line.entry) listed → Answering printing followed listed book before now status → Appends now after ending
    → IsTrue leaks ↔ HasLeak (knowledge_of book) → next ≡ max (if leaks then 1 else 0) status → AnswersAll printing listed before after next
with_ending printing listed followed book before now after status next leaks ending is_followed p written are is = record {
  answered = p.answered;
  lines = p.lines;
  right = subst (λ (b : Bool). AreAnswers printing b p.answered) is_followed p.right;
  ending = ending;
  written = appended before now after (answers_text p.answered) ending p.written written;
  leaks = leaks;
  are_leaks = subst (λ (known : Knowledge). IsTrue leaks ↔ HasLeak known) p.kept are;
  is_status = is ∙ ap (λ (n : ℕ). max (if leaks then 1 else 0) n) p.is_greatest;
}

-- ---- leaks

-- the entry at k has no leak
abbrev pub LacksLeak : Book → ℕ → Type 0
LacksLeak book k = (p : ℕ × ℕ) → slice_get book.ends.entries k ≡ Some p → IsLeaked (knowledge_of book) p.0 p.1 → ⊥

-- no reader is over, and this writer is named, or none
pub writer_leaks : (known : Knowledge) (version last writer : ℕ) (b r : Bool) → IsTrue r ↔ Any (λ t. IsSome (known.over t)) (known.readers version) → r ≡ false
    → ((u : ℕ) → (Some writer ≡ Some u) ↔ IsWriterIn last u) → b ≡ is_some (known.over writer) → IsTrue b ↔ IsLeaked known version last
writer_leaks known version last writer b r readers none names is = (
  λ (leaks : IsTrue b). inr (writer, (names writer).0 refl, sym is ∙ leaks),
  λ leaked. elim leaked [
    | inl any ↦ (let found : r ≡ true = readers.1 any in cc)
    | inr named ↦ (let same : Some writer ≡ Some named.0 = (names named.0).1 named.1 in let one : writer ≡ named.0 = cc in is ∙ ap (λ (u : ℕ). is_some (known.over u)) one ∙ named.2)
  ],
)

pub none_leaks : (known : Knowledge) (version last : ℕ) (r : Bool) → IsTrue r ↔ Any (λ t. IsSome (known.over t)) (known.readers version) → r ≡ false → ((u : ℕ) → (None ≡ Some u) ↔ IsWriterIn last u)
    → IsTrue false ↔ IsLeaked known version last
none_leaks known version last r readers none names = (
  λ (leaks : IsTrue false). cc,
  λ leaked. elim leaked [
    | inl any ↦ (let found : r ≡ true = readers.1 any in cc)
    | inr named ↦ (let same : None ≡ Some named.0 = (names named.0).1 named.1 in cc)
  ],
)

-- the word of an entry
pub leak_at : (book : Book) (version last : ℕ) → get nat_eq book.ends version ≡ Some last → IsLeaked (knowledge_of book) version last → HasLeak (knowledge_of book)
leak_at book version last left leaked = record { version = version; last = last; left = left; leaked = leaked }

-- no entry has a leak
pub no_leak : (book : Book) (i : ℕ) → length book.ends.entries ≤ i → ((k : ℕ) → k < i → LacksLeak book k) → HasLeak (knowledge_of book) → ⊥
no_leak book i all none leak =
    let place = place_from_lookup (nat_eq leak.version) book.ends.entries leak.last leak.left in
    let same : leak.version ≡ place.1 = grind (arith, nat_tests, place.3) in
    let within : place.0 < i = omega (arith, slice_get_within book.ends.entries place.0 (place.1, leak.last) place.2) in
    none place.0 within (place.1, leak.last) place.2 (subst (λ (version : ℕ). IsLeaked (knowledge_of book) version leak.last) same leak.leaked)

-- nor has the next one
pub no_more_leaks : (book : Book) (i version last : ℕ) → Some (version, last) ≡ slice_get book.ends.entries i → (IsLeaked (knowledge_of book) version last → ⊥)
    → ((k : ℕ) → k < i → LacksLeak book k) → (k : ℕ) → k < i + 1 → LacksLeak book k
no_more_leaks book i version last here none before = below_more (LacksLeak book) i before (λ p at leaked.
    let is : Some p ≡ Some (version, last) = sym at ∙ sym here in
    let is_p : p ≡ (version, last) = cc in
    none (subst (λ (q : ℕ × ℕ). IsLeaked (knowledge_of book) q.0 q.1) is_p leaked))

-- ---- the lines of an input

listed_with : (blank : Bool) (number : ℕ) (line : List ℕ) (full : List Full) (listed more : List Listed) → (length line == 0) ≡ blank → AddsLine number line listed more → AreListed full (reverse listed)
    → AreListed (with_line number line full) (reverse more)
listed_with true number line full listed more is h p =
    let same : with_line number line full ≡ full = ap (λ (b : Bool). cond b full (record { number = number; line = line } ∷ full)) is in
    subst (λ (lines : List Full). AreListed lines (reverse more)) (sym same) (subst (λ (items : List Listed). AreListed full (reverse items)) (sym (h.blank is)) p)
listed_with false number line full listed more is h p =
    let added = h.full is in
    let here : Full = record { number = number; line = line } in
    let entry : Listed = record { number = number; entry = added.0 } in
    let with_full : with_line number line full ≡ here ∷ full = ap (λ (b : Bool). cond b full (here ∷ full)) is in
    let with_entry : reverse more ≡ entry ∷ reverse listed = rw added.2 (grind (arith, common_steps)) in
    let both : AreListed (here ∷ full) (entry ∷ reverse listed) = (refl, added.1, p) in
    subst (λ (lines : List Full). AreListed lines (reverse more)) (sym with_full) (subst (λ (items : List Listed). AreListed (here ∷ full) items) (sym with_entry) both)

-- one more line of a text was read
pub read_more : (text line word : List ℕ) (left last : Option (List ℕ)) (number next : ℕ) (listed more : List Listed) → word ≡ trim line → IfSome left (λ known. (0 < length known) × (line ≡ first_line known))
    → DropsThrough left last 10 → next ≡ line_number (number + 1) → AddsLine next word listed more → HasRead text left number listed → HasRead text last next more
read_more text line word left last number next listed more is_word first drops is_next adds p =
    let known = p.rest in
    let here : (0 < length known) × (line ≡ first_line known) = subst (λ (o : Option (List ℕ)). IfSome o (λ known. (0 < length known) × (line ≡ first_line known))) p.left_is first in
    let less : last ≡ Some (drop_through 10 known) = subst (λ (o : Option (List ℕ)). DropsThrough o last 10) p.left_is drops in
    let counted : next ≡ line_number (length p.lines + 1) = omega (arith, is_next, p.counted) in
    record {
      lines = line ∷ p.lines;
      rest = drop_through 10 known;
      left_is = less;
      before = (known, p.before, here.0, here.1, refl);
      counted = omega (arith, counted);
      entries =
          subst (λ (n : ℕ). AreListed (with_line n (trim line) (full_lines p.lines)) (reverse more)) counted
          (subst (λ (w : List ℕ). AreListed (with_line next w (full_lines p.lines)) (reverse more)) is_word
          (listed_with (length word == 0) next word (full_lines p.lines) listed more refl adds p.entries));
    }

-- all lines of a text were read
pub all_read : (text : List ℕ) (left : Option (List ℕ)) (number : ℕ) (listed : List Listed) → IsAtEnd left → HasRead text left number listed → AreEntriesOf text listed
all_read text left number listed end p =
    let nothing_left : p.rest ≡ [] = subst (λ (o : Option (List ℕ)). IsAtEnd o) p.left_is end in
    let lines : AreFullLines text (full_lines p.lines) = record { lines = p.lines; all = subst (λ (rest : List ℕ). AreLinesBefore text p.lines rest) nothing_left p.before; is = refl } in
    record { full = full_lines p.lines; lines = lines; entries = p.entries }
