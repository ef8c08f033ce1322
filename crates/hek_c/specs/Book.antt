-- Who holds the End words of an engine, as notes of their exchanges say.
use Rattle.std.specs.Prelude.{◌≡◌, ◌⊎◌, ◌≤◌, ◌==◌, ◌&&◌, ℕ, nat_lt, nat_le, not, if◌then◌else◌, Bool, false, List, length, take, slice_index, find, Option, Some, None}
use Rattle.std.specs.Option.{option_map_or}
use Rattle.hek_rules.specs.declared.word.EndRecord.{EndRecord}
use Rattle.hek_rules.specs.Words.{end_number, readers_of, writer_of}
use Rattle.hek_changes.specs.declared.change.EndChange.{EndChange}
use Rattle.hek_changes.specs.declared.holders.HolderFault.{HolderFault}
use Rattle.hek_changes.specs.declared.holders.HolderFault.TheVariants.{WriterLives, NeverCame, CameTwice, IsOver}
use Rattle.hek_changes.specs.declared.holders.Standing.{Standing}
use Rattle.hek_changes.specs.Changes.{EndLeads, IsEndChange, IsEndOf}
use Rattle.hek_changes.specs.Holders.{fault_of, readers_then}
use Rattle.hek_c.specs.declared.book.HekNoted.{HekNoted}
use Rattle.hek_c.specs.declared.book.HekWord.{HekWord}
use Rattle.hek_c.specs.Changes.{end_change_number}

-- the read locks of a word that are known, each by its holder
abbrev pub readers_in : HekWord → List ℕ
readers_in word = take word.reads word.readers

-- what the last exchange of a word left, if one is known
abbrev pub last_in : HekWord → Option ℕ
last_in word = if word.noted == 0 then None else Some word.last

-- whether a transaction is over, of which `over` has a byte for each
abbrev pub is_over_in : List ℕ → ℕ → Bool
is_over_in over t = nat_lt 0 (slice_index over t)

-- the first known reader of a word that is over
abbrev pub reader_over : List ℕ → HekWord → Option ℕ
reader_over over word = find (λ reader. is_over_in over reader) (readers_in word)

-- a word was left as this record
abbrev pub IsLastOf : EndRecord → HekWord → Type 0
IsLastOf e word = (last : ℕ) × (last_in word ≡ Some last) × IsEndOf e last

-- whether a word's writer is another transaction than t and lives; where of no transaction is known whether it is over, none is said to live
abbrev pub lives : List ℕ → ℕ → Option ℕ → Bool
lives over t None = false
lives over t (Some u) = nat_lt 0 (length over) && (not (u == t) && not (is_over_in over u))

abbrev pub standing_of : List ℕ → ℕ → EndRecord → Standing
standing_of over t e = record { writer_lives = lives over t (writer_of e); is_over = is_over_in over t }

-- ---- what a note answers

abbrev pub holder_fault_number : HolderFault → ℕ
holder_fault_number WriterLives = 3
holder_fault_number NeverCame = 4
holder_fault_number CameTwice = 5
holder_fault_number IsOver = 6

-- whether a word has slots for so many read locks
abbrev pub has_room : List ℕ → Bool
has_room readers = nat_le (length readers) 126

-- the number of what a change does wrong; without a fault 7 where there is no slot for a reader, otherwise 0
abbrev pub fault_number : Option HolderFault → Bool → ℕ
fault_number found room = option_map_or holder_fault_number found (if room then 0 else 7)

-- the answer to an exchange that is a change: where it is at fault, the word would have stayed
abbrev pub change_answer : ℕ → ℕ → EndChange → ℕ → HekNoted
change_answer old new c fault = record { wanted = if fault == 0 then new else old; fault = fault; change = end_change_number c }

-- the answer to an exchange from a word, in the light of who holds it
abbrev pub IsChangeAnswer : ℕ → ℕ → ℕ → List ℕ → List ℕ → EndChange → HekNoted → Type 0
IsChangeAnswer t old new over readers c answer =
    (e : EndRecord) → IsEndOf e old
    → answer ≡ change_answer old new c (fault_number (fault_of t c (readers_of e) readers (standing_of over t e)) (has_room (readers_then t (Some c) readers)))

-- the word that the change with this number leaves
pub record IsLeft (t old : ℕ) (answer : HekNoted) : Type 0 where
  pub change : EndChange
  pub before : EndRecord
  pub left : EndRecord
  pub is_old : IsEndOf before old
  pub leads : EndLeads t change before left
  pub wanted : answer.wanted ≡ end_number left
  pub number : answer.change ≡ end_change_number change

-- the answer to an exchange that is no change: the change that comes nearest, and the word that it leaves, or that the word would have
-- stayed
pub record IsNoneAnswer (t old : ℕ) (answer : HekNoted) : Type 0 where
  pub fault : answer.fault ≡ 2
  pub wanted : (answer.wanted ≡ old) ⊎ IsLeft t old answer

abbrev pub IsAnswer : ℕ → ℕ → ℕ → List ℕ → List ℕ → Option EndChange → HekNoted → Type 0
IsAnswer t old new over readers None answer = IsNoneAnswer t old answer
IsAnswer t old new over readers (Some c) answer = IsChangeAnswer t old new over readers c answer

-- the answer where the exchange before it left another number
abbrev pub chained : Option ℕ → ℕ → HekNoted → HekNoted
chained None old answer = answer
chained (Some last) old answer = if last == old then answer else record { wanted = last; fault = 1; change = answer.change }

-- these read locks, or those before where there is no slot for one
abbrev pub kept : List ℕ → List ℕ → List ℕ
kept readers before = if has_room readers then readers else before

-- an exchange by the transaction t is noted: who read-locks the word then, what it left, and the answer
pub record Notes (t old new : ℕ) (over : List ℕ) (was now : HekWord) (answer : HekNoted) : Type 0 where
  pub found : Option EndChange
  pub is_change : IsEndChange t old new found
  pub readers : readers_in now ≡ kept (readers_then t found (readers_in was)) (readers_in was)
  pub within : now.reads ≤ 126
  pub last : last_in now ≡ Some new
  pub own : HekNoted
  pub is_answer : IsAnswer t old new over (readers_in was) found own
  pub is : answer ≡ chained (last_in was) old own
