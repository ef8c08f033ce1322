-- What `hek drive` writes.
use Rattle.std.specs.Prelude.{ℕ, List, [], ◌∷◌, ◌++◌, Bool, true, false, Option}
use Rattle.std.specs.Io.KnownBytes.{Appends}

-- what ends the answer to a line of the input: an empty line, if it is asked for
abbrev pub ending : Bool → List ℕ
ending false = []
ending true = 10 ∷ []

-- what is written for a line of the input: what it is told, then the state of the machine, then the ending
abbrev pub answer_text : Bool → List ℕ → List ℕ → List ℕ
answer_text ends told state = told ++ (state ++ ending ends)

-- what is told for a line of the input, and the state of the machine then
pub record Told : Type 0 where
  pub told : List ℕ
  pub state : List ℕ

-- the answer to a line was written after the bytes that a writer held
pub record IsAnswered (ends : Bool) (before after : Option (List ℕ)) : Type 0 where
  pub answer : Told
  pub written : Appends before after (answer_text ends answer.told answer.state)

-- what is written for all lines of the input
abbrev pub answers_text : Bool → List Told → List ℕ
answers_text ends [] = []
answers_text ends (a ∷ rest) = answer_text ends a.told a.state ++ answers_text ends rest

-- answers to some lines were written after the bytes that a writer held, and nothing else
pub record HasAnswers (ends : Bool) (before after : Option (List ℕ)) : Type 0 where
  pub answers : List Told
  pub written : Appends before after (answers_text ends answers)
