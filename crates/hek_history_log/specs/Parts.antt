-- What a step of reading a line takes from an input.
use Rattle.std.specs.Prelude.{◌≡◌, ◌≢◌, ℕ, List, ◌++◌, length, Bool, true, false, Option, OnSome, All}
use Rattle.std.specs.Io.{StopsAt, IsEmptyOrEndsWith}
use Rattle.std.specs.Io.KnownBytes.{Consumes, IsAtEnd}

-- bytes were taken from what the input had before and appended: all of a line, where it is whole
pub record TakesPart (before after : Option (List ℕ)) (old new : List ℕ) (is_whole : Bool) : Type 0 where
  pub part : List ℕ
  pub appended : new ≡ old ++ part
  pub taken : Consumes before after part
  pub stops : StopsAt part 10
  pub goes_on : is_whole ≡ false → All (λ x. x ≢ 10) part
  pub ends : is_whole ≡ true → IsEmptyOrEndsWith part 10
  pub nothing_left : is_whole ≡ true → length part ≡ 0 → OnSome before (IsAtEnd after)
