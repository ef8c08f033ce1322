-- What an operation is by its first word, and that it was added.
use Rattle.std.specs.Prelude.{◌≡◌, Bool, true, false, List, [], ◌∷◌, ◌++◌, map}
use Rattle.hek_history.specs.declared.history.Operation.{Operation}
use Rattle.hek_history.specs.declared.history.Operation.TheVariants.{Read, Put, Insert, Update, Delete, Scan}
use Rattle.hek_history.specs.declared.history.Scope.TheVariants.{Range, Bucket}
use Rattle.hek_history_log.specs.Contents.{content}
use Rattle.hek_history_log.specs.declared.operations.Kind.{Kind}
use Rattle.hek_history_log.specs.declared.operations.Kind.TheVariants as kinds

abbrev pub kind_of : Operation → Kind
kind_of (Read key found) = kinds.Read
kind_of (Put key value) = kinds.Write
kind_of (Insert key value done) = kinds.Insert
kind_of (Update key value done) = kinds.Update
kind_of (Delete key done) = kinds.Delete
kind_of (Scan (Range low high) pairs) = kinds.Range
kind_of (Scan (Bucket buckets bucket) pairs) = kinds.Scan

-- whether it says if it was done
abbrev pub answers : Operation → Bool
answers (Read key found) = false
answers (Put key value) = false
answers (Insert key value done) = true
answers (Update key value done) = true
answers (Delete key done) = true
answers (Scan scope pairs) = false

-- it is no scan
abbrev pub IsPlain : Operation → Type 0
IsPlain (Read key found) = Unit {0}
IsPlain (Put key value) = Unit {0}
IsPlain (Insert key value done) = Unit {0}
IsPlain (Update key value done) = Unit {0}
IsPlain (Delete key done) = Unit {0}
IsPlain (Scan scope pairs) = ⊥

-- an operation that says the same was added
abbrev pub Adds : List Operation → List Operation → Operation → Type 0
Adds old new op = map content new ≡ map content old ++ content op ∷ []
