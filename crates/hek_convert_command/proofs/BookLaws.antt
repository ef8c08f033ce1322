-- What a book keeps of a line is what is known after it.
use Rattle.std.proofs.Common.{◌≡◌, refl, sym, ap, ◌∙◌, subst, ℕ, List, Option, Some, None}
use Rattle.hek_changes.specs.declared.change.EndChange.{EndChange}
use Rattle.hek_convert_command.specs.declared.book.Book.{Book}
use Rattle.hek_convert_command.specs.declared.entry.Entry.{Entry}
use Rattle.hek_convert_command.specs.declared.entry.Entry.TheVariants.{Exchange as ExchangeOf, Over}
use Rattle.hek_convert_command.specs.declared.entry.Exchange.{Exchange}
use Rattle.hek_convert_command.specs.declared.entry.Side.{Side}
use Rattle.hek_convert_command.specs.declared.entry.WordName.{WordName}
use Rattle.hek_convert_command.specs.Book.{IsUnread, NotesLeft, NotesOver, NotesReader, knowledge_of}
use Rattle.hek_convert_command.specs.Changed.{Knowledge, known_then, left_named, nothing_known, readers_named}

same_known : (a b : Knowledge) → ((side : Side) (version : ℕ) → a.left side version ≡ b.left side version) → ((version : ℕ) → a.readers version ≡ b.readers version) → ((t : ℕ) → a.over t ≡ b.over t) → a ≡ b
same_known a b left readers over = λ i. record { left = λ side version. left side version i; readers = λ version. readers version i; over = λ t. over t i }

pub unread : (book : Book) → IsUnread book → knowledge_of book ≡ nothing_known
unread book h = same_known (knowledge_of book) nothing_known h.left h.readers h.over

pub noted_over : (before after : Book) (u number : ℕ) (change : Option EndChange) → NotesOver before after u number → knowledge_of after ≡ known_then number (Some (Over u)) change (knowledge_of before)
noted_over before after u number change h = same_known (knowledge_of after) (known_then number (Some (Over u)) change (knowledge_of before)) h.left h.readers h.over

pub noted_named : (before between after : Book) (number : ℕ) (e : Exchange) (word : WordName) (change : Option EndChange) → e.word ≡ Some word → NotesLeft before between word e.new → NotesReader between after word e.txn change
    → knowledge_of after ≡ known_then number (Some (ExchangeOf e)) change (knowledge_of before)
noted_named before between after number e word change is left reader =
    same_known (knowledge_of after) (known_then number (Some (ExchangeOf e)) change (knowledge_of before))
    (λ side version. reader.left side version ∙ left.left side version ∙ ap (λ (w : Option WordName). left_named w e.new side version ((knowledge_of before).left side version)) (sym is))
    (λ version. reader.readers version ∙ ap (λ (readers : List ℕ). readers_named (Some word) e.txn change version readers) (left.readers version)
    ∙ ap (λ (w : Option WordName). readers_named w e.txn change version ((knowledge_of before).readers version)) (sym is))
    (λ t. reader.over t ∙ left.over t)

pub noted_unnamed : (book : Book) (number : ℕ) (e : Exchange) (change : Option EndChange) → e.word ≡ None → knowledge_of book ≡ known_then number (Some (ExchangeOf e)) change (knowledge_of book)
noted_unnamed book number e change is =
    same_known (knowledge_of book) (known_then number (Some (ExchangeOf e)) change (knowledge_of book))
    (λ side version. ap (λ (w : Option WordName). left_named w e.new side version ((knowledge_of book).left side version)) (sym is))
    (λ version. ap (λ (w : Option WordName). readers_named w e.txn change version ((knowledge_of book).readers version)) (sym is))
    (λ t. refl)
