-- What devices give and take: bytes of a buffer, and a state that can fail.
use Rattle.std.specs.Prelude.{ℕ, Bool, List, [], take, Option, Some, None}

-- the bytes of a buffer that a take gave or a put took; None is a device error
abbrev pub bytes_given : Option ℕ → List ℕ → List ℕ
bytes_given None buffer = []
bytes_given (Some n) buffer = take n buffer

-- a reader or a writer as a device; `failed` says that it has answered an error
pub record Device (D : Type 0) : Type 0 where
  pub inner : D
  pub failed : Bool
