-- What `word --changes` answers.
use Rattle.std.specs.Prelude.{◌≡◌, ◌≢◌, ◌⊎◌, ◌↔◌, ◌==◌, ◌&&◌, ◌^◌, ◌-◌, ℕ, nat_eq, max, not, Bool, true, false, if◌then◌else◌, List, [], ◌∷◌, ◌++◌, map, reverse, codes, Option, Some, None, is_some, IsTrue, IsSome, Any}
use Rattle.std.specs.List.{list_any}
use Rattle.std.specs.Fmt.{decimal, digits, padded_integral, format_spec}
use Rattle.std.specs.Io.KnownBytes.{Appends}
use Rattle.hek_rules.specs.declared.word.EndRecord.{EndRecord}
use Rattle.hek_rules.specs.Words.{readers_of, writer_of}
use Rattle.hek_changes.specs.declared.change.BeginChange.{BeginChange}
use Rattle.hek_changes.specs.declared.change.EndChange.{EndChange}
use Rattle.hek_changes.specs.declared.holders.HolderFault.{HolderFault}
use Rattle.hek_changes.specs.declared.holders.HolderFault.TheVariants.{WriterLives, NeverCame, CameTwice, IsOver}
use Rattle.hek_changes.specs.declared.holders.Standing.{Standing}
use Rattle.hek_changes.specs.Changes.{IsBeginChange, IsEndChange, IsEndOf}
use Rattle.hek_changes.specs.Holders.{fault_of, readers_then}
use Rattle.hek_report.specs.declared.printing.Printing.{Printing}
use Rattle.hek_report.specs.declared.printing.Printing.TheVariants.{Text, Json}
use Rattle.hek_convert_command.specs.declared.answer.Answer.{Answer}
use Rattle.hek_convert_command.specs.declared.answer.Answer.TheVariants as answer
use Rattle.hek_convert_command.specs.declared.entries.Listed.{Listed}
use Rattle.hek_convert_command.specs.declared.entry.Entry.{Entry}
use Rattle.hek_convert_command.specs.declared.entry.Entry.TheVariants.{Exchange as ExchangeOf, Over}
use Rattle.hek_convert_command.specs.declared.entry.Exchange.{Exchange}
use Rattle.hek_convert_command.specs.declared.entry.Side.{Side}
use Rattle.hek_convert_command.specs.declared.entry.Side.TheVariants.{Begin, End}
use Rattle.hek_convert_command.specs.declared.entry.WordName.{WordName}
use Rattle.hek_convert_command.specs.Logged.{IsRead, says_over}

-- ---- what lines leave

-- what is known after some lines: the number that each word was left with, who read-locks each End word, and on which line it was said
-- of a transaction that it is over
pub record Knowledge : Type 0 where
  pub left : Side → ℕ → Option ℕ
  pub readers : ℕ → List ℕ
  pub over : ℕ → Option ℕ

abbrev pub nothing_known : Knowledge
nothing_known = record { left = λ side version. None; readers = λ version. []; over = λ t. None }

-- what a word's side and version are left with by an exchange of a word that left this number
abbrev pub left_at : Side → Side → Bool → ℕ → Option ℕ → Option ℕ
left_at Begin Begin same new was = if same then Some new else was
left_at Begin End same new was = was
left_at End Begin same new was = was
left_at End End same new was = if same then Some new else was

abbrev pub left_named : Option WordName → ℕ → Side → ℕ → Option ℕ → Option ℕ
left_named None new side version was = was
left_named (Some word) new side version was = left_at word.side side (nat_eq word.version version) new was

-- who read-locks a version after an exchange of a word by the transaction t, which is this change of an End word, or none
abbrev pub readers_at : Side → Bool → ℕ → Option EndChange → List ℕ → List ℕ
readers_at Begin same t change readers = readers
readers_at End same t change readers = if same then readers_then t change readers else readers

abbrev pub readers_named : Option WordName → ℕ → Option EndChange → ℕ → List ℕ → List ℕ
readers_named None t change version readers = readers
readers_named (Some word) t change version readers = readers_at word.side (nat_eq word.version version) t change readers

-- what is known after one more line, whose exchange, if it has one, is this change of an End word, or none
abbrev pub known_then : ℕ → Option Entry → Option EndChange → Knowledge → Knowledge
known_then number None change known = known
known_then number (Some (Over u)) change known = record known { over = λ t. if nat_eq u t then Some number else known.over t }
known_then number (Some (ExchangeOf e)) change known = record {
  left = λ side version. left_named e.word e.new side version (known.left side version);
  readers = λ version. readers_named e.word e.txn change version (known.readers version);
  over = known.over;
}

-- ---- the answer to an exchange

-- how the transaction t stands to a word that it exchanges. Only where lines say who is over, a writer is said to live
abbrev pub lives : Knowledge → ℕ → Option ℕ → Bool
lives known t None = false
lives known t (Some u) = not (u == t) && not (is_some (known.over u))

abbrev pub standing_in : Knowledge → Bool → ℕ → EndRecord → Standing
standing_in known followed t e = record { writer_lives = followed && lives known t (writer_of e); is_over = is_some (known.over t) }

abbrev pub judged : EndChange → Option HolderFault → Answer
judged change None = answer.Changes None (Some change)
judged change (Some fault) = answer.Held fault

-- the answer to a change of an End word, in the light of who holds it
pub record IsJudged (known : Knowledge) (followed : Bool) (e : Exchange) (version : ℕ) (change : EndChange) (reply : Answer) : Type 0 where
  pub before : EndRecord
  pub is_old : IsEndOf before e.old
  pub is : reply ≡ judged change (fault_of e.txn change (readers_of before) (known.readers version) (standing_in known followed e.txn before))

abbrev pub IsOfEnd : Knowledge → Bool → Exchange → ℕ → Option EndChange → Answer → Type 0
IsOfEnd known followed e version None reply = reply ≡ answer.Changes None None
IsOfEnd known followed e version (Some change) reply = IsJudged known followed e version change reply

-- the answer to an exchange as one of a Begin word, and of an End word that is this change, or none
pub record IsOfBegin (e : Exchange) (change : Option EndChange) (reply : Answer) : Type 0 where
  pub begin : Option BeginChange
  pub begin_is : IsBeginChange e.txn e.old e.new begin
  pub is : reply ≡ answer.Changes begin change

-- the answer to an exchange of a word of this side and version
abbrev pub IsOfSide : Knowledge → Bool → Exchange → Side → ℕ → Option EndChange → Answer → Type 0
IsOfSide known followed e Begin version change reply = IsOfBegin e None reply
IsOfSide known followed e End version change reply = IsOfEnd known followed e version change reply

-- the chain is broken where the exchange before it left another number than the old one
abbrev pub in_chain : Option ℕ → ℕ → Answer → Answer
in_chain None old reply = reply
in_chain (Some last) old reply = if last == old then reply else answer.Broken last

pub record IsOfWord (known : Knowledge) (followed : Bool) (e : Exchange) (word : WordName) (change : Option EndChange) (reply : Answer) : Type 0 where
  pub own : Answer
  pub of_side : IsOfSide known followed e word.side word.version change own
  pub is : reply ≡ in_chain (known.left word.side word.version) e.old own

-- an exchange that doesn't name its word is answered as one of each of the two words
abbrev pub IsOfNamed : Knowledge → Bool → Exchange → Option WordName → Option EndChange → Answer → Type 0
IsOfNamed known followed e None change reply = IsOfBegin e change reply
IsOfNamed known followed e (Some word) change reply = IsOfWord known followed e word change reply

-- the answer to a line with this entry, if it has one, after lines of which this is known
abbrev pub IsAnswerTo : Knowledge → Bool → Option Entry → Option EndChange → Answer → Type 0
IsAnswerTo known followed None change reply = reply ≡ answer.NotAChange
IsAnswerTo known followed (Some (Over t)) change reply = reply ≡ answer.Over
IsAnswerTo known followed (Some (ExchangeOf e)) change reply = IsEndChange e.txn e.old e.new change × IsOfNamed known followed e e.word change reply

-- ---- what an answer asks for and says

-- 0 for a change and for a transaction that is over, 1 for a fault, 4 for a line of another form
abbrev pub status_of_answer : Answer → ℕ
status_of_answer answer.NotAChange = 4
status_of_answer answer.Over = 0
status_of_answer (answer.Broken last) = 1
status_of_answer (answer.Held fault) = 1
status_of_answer (answer.Changes None None) = 1
status_of_answer (answer.Changes begin end) = 0

-- a word as 16 upper-case hexadecimal digits
abbrev pub bits_text : ℕ → List ℕ
bits_text number = padded_integral (format_spec 32 0 4 16 (2 ^ 64 - 1)) false [] (digits 16 true number)

abbrev pub side_front : Side → List ℕ
side_front Begin = codes "begin-"
side_front End = codes "end-"

abbrev pub name_text : Option WordName → List ℕ
name_text None = []
name_text (Some word) = side_front word.side ++ (decimal word.version ++ 32 ∷ [])

-- which line is at fault, and its exchange
abbrev pub place_text : ℕ → Exchange → List ℕ
place_text number e =
    codes " (line " ++ (decimal number ++ (codes ": " ++ (name_text e.word ++ (bits_text e.old ++ (codes " -> " ++ (bits_text e.new ++ (codes " by " ++ decimal e.txn)))))))

-- a text begins with this front
abbrev pub HasFront : List ℕ → List ℕ → Type 0
HasFront front text = (rest : List ℕ) × (text ≡ front ++ rest)

-- a fault's text: what it is, the reason, and its place; then who holds the word
pub record IsFaultText (front : List ℕ) (number : ℕ) (e : Exchange) (text : List ℕ) : Type 0 where
  pub reason : List ℕ
  pub rest : List ℕ
  pub is : text ≡ front ++ (reason ++ (place_text number e ++ rest))

abbrev pub holder_front : HolderFault → List ℕ
holder_front WriterLives = codes "writer lives: "
holder_front NeverCame = codes "never came: "
holder_front CameTwice = codes "came twice: "
holder_front IsOver = codes "is over: "

-- the line of an answer to an exchange
abbrev pub IsExchangeLine : ℕ → Exchange → Answer → List ℕ → Type 0
IsExchangeLine number e answer.NotAChange text = Unit {0}
IsExchangeLine number e answer.Over text = Unit {0}
IsExchangeLine number e (answer.Broken last) text = HasFront (codes "broken: the word was " ++ (bits_text last ++ place_text number e)) text
IsExchangeLine number e (answer.Held fault) text = IsFaultText (holder_front fault) number e text
IsExchangeLine number e (answer.Changes None None) text = IsFaultText (codes "none: ") number e text
IsExchangeLine number e (answer.Changes None (Some end)) text = HasFront (codes "end ") text
IsExchangeLine number e (answer.Changes (Some begin) end) text = HasFront (codes "begin ") text

-- the line of an answer to a line
abbrev pub IsLine : ℕ → Option Entry → Answer → List ℕ → Type 0
IsLine number None reply text = text ≡ codes "not a change" ++ 10 ∷ []
IsLine number (Some (Over t)) reply text = text ≡ codes "over" ++ 10 ∷ []
IsLine number (Some (ExchangeOf e)) reply text = IsExchangeLine number e reply text

-- of objects of JSON nothing is said
abbrev pub IsTold : Printing → ℕ → Option Entry → Answer → List ℕ → Type 0
IsTold Text number entry reply text = IsLine number entry reply text
IsTold Json number entry reply text = Unit {0}

-- ---- all lines

-- what was answered to a line: the line, the change of an End word that its exchange is, if it is one, the answer, and its text
pub record Answered : Type 0 where
  pub listed : Listed
  pub change : Option EndChange
  pub reply : Answer
  pub text : List ℕ

-- what is known after these lines, the latest first
abbrev pub known_by : List Answered → Knowledge
known_by [] = nothing_known
known_by (latest ∷ earlier) = known_then latest.listed.number latest.listed.entry latest.change (known_by earlier)

-- each of these lines, the latest first, has the answer to it after those before it, and the text of this answer
abbrev pub AreAnswers : Printing → Bool → List Answered → Type 0
AreAnswers printing followed [] = Unit {0}
AreAnswers printing followed (latest ∷ earlier) =
    IsAnswerTo (known_by earlier) followed latest.listed.entry latest.change latest.reply
    × IsTold printing latest.listed.number latest.listed.entry latest.reply latest.text × AreAnswers printing followed earlier

abbrev pub lines_of : List Answered → List Listed
lines_of answered = map (λ (a : Answered). a.listed) answered

-- the texts of these lines, the latest first
abbrev pub answers_text : List Answered → List ℕ
answers_text [] = []
answers_text (latest ∷ earlier) = answers_text earlier ++ latest.text

-- the greatest status that one of these lines asks for
abbrev pub greatest : List Answered → ℕ
greatest [] = 0
greatest (latest ∷ earlier) = max (status_of_answer latest.reply) (greatest earlier)

-- ---- the end

-- a number is an End word that names the writer u
abbrev pub IsWriterIn : ℕ → ℕ → Type 0
IsWriterIn number u = (e : EndRecord) × IsEndOf e number × (writer_of e ≡ Some u)

-- a transaction that is over is among the readers of a word that was left with this number, or is the writer that it names
abbrev pub IsLeaked : Knowledge → ℕ → ℕ → Type 0
IsLeaked known version last = Any (λ t. IsSome (known.over t)) (known.readers version) ⊎ ((u : ℕ) × IsWriterIn last u × IsSome (known.over u))

-- a transaction that is over holds a word
pub record HasLeak (known : Knowledge) : Type 0 where
  pub version : ℕ
  pub last : ℕ
  pub left : known.left End version ≡ Some last
  pub leaked : IsLeaked known version last

-- right answers to these lines were written after the bytes that a writer held, and behind them who still holds a word; the status is the
-- greatest that one of them asks for, and at least 1 where a transaction that is over holds a word
pub record AnswersAll (printing : Printing) (listed : List Listed) (before after : Option (List ℕ)) (status : ℕ) : Type 0 where
  pub answered : List Answered
  pub lines : lines_of answered ≡ reverse listed
  pub right : AreAnswers printing (list_any (λ (line : Listed). says_over line.entry) listed) answered
  pub ending : List ℕ
  pub written : Appends before after (answers_text answered ++ ending)
  pub leaks : Bool
  pub are_leaks : IsTrue leaks ↔ HasLeak (known_by answered)
  pub is_status : status ≡ max (if leaks then 1 else 0) (greatest answered)

-- these are the lines of an input that aren't blank
pub record HasAnswers (printing : Printing) (input before after : Option (List ℕ)) (status : ℕ) : Type 0 where
  pub listed : List Listed
  pub read : IsRead input listed
  pub all : AnswersAll printing listed before after status
