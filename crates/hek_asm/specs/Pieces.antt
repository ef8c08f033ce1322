-- The parts of a line, and the bytes that each stands for.
use Rattle.std.specs.Prelude.{ℕ, List, [], ◌∷◌, ◌++◌, codes, map, Some}
use Rattle.std.specs.Fmt.{decimal}
use Rattle.std.specs.List.{flat_map}
use Rattle.hek_rules.specs.Lines.{spaced}
use Rattle.hek_asm.specs.declared.piece.Piece.{Piece}
use Rattle.hek_asm.specs.declared.piece.Piece.TheVariants as piece
use Rattle.hek_rules.specs.declared.reply.Reply.{Reply}
use Rattle.hek_rules.specs.declared.reply.Reply.TheVariants as reply
use Rattle.hek_rules.specs.Names.{cause_word, refusal_number, refusal_name}
use Rattle.hek_asm.specs.Trace.{pair_word, writer_words, reply_operands}

abbrev pub piece_bytes : Piece → List ℕ
piece_bytes piece.Nothing = []
piece_bytes (piece.Text text) = text.now
piece_bytes (piece.Word word) = spaced (word.now ∷ [])
piece_bytes (piece.Name name) = name.now ++ 32 ∷ []
piece_bytes (piece.Number number) = decimal number
piece_bytes (piece.Item number) = spaced (decimal number ∷ [])
piece_bytes (piece.Pairs pairs) = spaced (map pair_word pairs.now)
piece_bytes (piece.Writer txn) = spaced (writer_words (Some txn))
piece_bytes (piece.Cycle members) = spaced (codes "cycle" ∷ map decimal members.now)

abbrev pub pieces_bytes : List Piece → List ℕ
pieces_bytes pieces = flat_map piece_bytes pieces

-- the operands of a reply in two parts: the number that stands first, or the pairs, and what is behind them
abbrev pub first_operands : Reply → List (List ℕ)
first_operands (reply.ReleasedRead v writer) = decimal v ∷ []
first_operands (reply.Victim t cycle) = decimal t ∷ []
first_operands (reply.Refused why) = decimal (refusal_number why) ∷ []
first_operands (reply.Aborted cause) = []
first_operands r = reply_operands r

abbrev pub later_operands : Reply → List (List ℕ)
later_operands (reply.ReleasedRead v writer) = writer_words writer
later_operands (reply.Victim t cycle) = codes "cycle" ∷ map decimal cycle
later_operands (reply.Refused why) = refusal_name why ∷ []
later_operands (reply.Aborted cause) = cause_word cause ∷ []
later_operands r = []
