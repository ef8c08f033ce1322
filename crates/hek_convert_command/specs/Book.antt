-- What a book of a log keeps.
use Rattle.std.specs.Prelude.{◌≡◌, ℕ, List, [], Option, Some, None, nat_eq, if◌then◌else◌}
use Rattle.std.specs.Option.{option_map_or}
use Rattle.indexmap.specs.IndexMap.{get, Updates}
use Rattle.hek_changes.specs.declared.change.EndChange.{EndChange}
use Rattle.hek_convert_command.specs.declared.book.Book.{Book}
use Rattle.hek_convert_command.specs.declared.entry.Side.{Side}
use Rattle.hek_convert_command.specs.declared.entry.Side.TheVariants.{Begin, End}
use Rattle.hek_convert_command.specs.declared.entry.WordName.{WordName}
use Rattle.hek_convert_command.specs.Changed.{Knowledge, left_at, readers_at}

abbrev pub last_of : Book → Side → ℕ → Option ℕ
last_of book Begin version = get nat_eq book.begins version
last_of book End version = get nat_eq book.ends version

abbrev pub readers_in : Book → ℕ → List ℕ
readers_in book version = option_map_or (λ readers. readers.items) (get nat_eq book.reads version) []

abbrev pub over_in : Book → ℕ → Option ℕ
over_in book t = get nat_eq book.over t

abbrev pub knowledge_of : Book → Knowledge
knowledge_of book = record { left = last_of book; readers = readers_in book; over = over_in book }

-- ---- what a call changes

pub record IsUnread (book : Book) : Type 0 where
  pub left : (side : Side) (version : ℕ) → last_of book side version ≡ None
  pub readers : (version : ℕ) → readers_in book version ≡ []
  pub over : (t : ℕ) → over_in book t ≡ None

-- an exchange left the word this number
pub record NotesLeft (before after : Book) (word : WordName) (new : ℕ) : Type 0 where
  pub left : (side : Side) (version : ℕ) → last_of after side version ≡ left_at word.side side (nat_eq word.version version) new (last_of before side version)
  pub readers : (version : ℕ) → readers_in after version ≡ readers_in before version
  pub over : (t : ℕ) → over_in after t ≡ over_in before t

-- an exchange of a word by the transaction t was this change of an End word, or none
pub record NotesReader (before after : Book) (word : WordName) (t : ℕ) (change : Option EndChange) : Type 0 where
  pub left : (side : Side) (version : ℕ) → last_of after side version ≡ last_of before side version
  pub readers : (version : ℕ) → readers_in after version ≡ readers_at word.side (nat_eq word.version version) t change (readers_in before version)
  pub over : (t : ℕ) → over_in after t ≡ over_in before t

-- a line with this number says that the transaction u is over
pub record NotesOver (before after : Book) (u number : ℕ) : Type 0 where
  pub left : (side : Side) (version : ℕ) → last_of after side version ≡ last_of before side version
  pub readers : (version : ℕ) → readers_in after version ≡ readers_in before version
  pub over : (t : ℕ) → over_in after t ≡ (if nat_eq u t then Some number else over_in before t)
