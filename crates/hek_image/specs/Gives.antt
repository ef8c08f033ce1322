-- What a function answered is what the definition gives, unless memory ran out or the source failed.
use Rattle.std.specs.Prelude.{◌≡◌, ℕ, ◌-◌, Bool, true, false, List, length, take, Result, Ok, Err}
use Rattle.hek_image.specs.declared.fault.LoadFault.{LoadFault}
use Rattle.hek_image.specs.declared.fault.LoadFault.TheVariants as load

-- a fault of bytes at hand, which is never Read
abbrev pub FieldFails : {Y : Type 0} → LoadFault → Result Y LoadFault → Type 0
FieldFails load.NoMemory given = Unit {0}
FieldFails load.Read given = ⊥
FieldFails load.BadMagic given = given ≡ Err load.BadMagic
FieldFails load.BadVersion given = given ≡ Err load.BadVersion
FieldFails load.Short given = given ≡ Err load.Short
FieldFails (load.BadField n) given = given ≡ Err (load.BadField n)
FieldFails load.Trailing given = given ≡ Err load.Trailing

-- an answer about bytes at hand; x is what the function made
abbrev pub FieldGives : {X Y : Type 0} → (X → Y) → Result X LoadFault → Result Y LoadFault → Type 0
FieldGives view (Ok x) given = given ≡ Ok (view x)
FieldGives view (Err e) given = FieldFails e given

-- a fault of all bytes of a source; Read says nothing about them, since it is unknown what would have followed
abbrev pub LoadFails : {Y : Type 0} → LoadFault → Result Y LoadFault → Type 0
LoadFails load.NoMemory given = Unit {0}
LoadFails load.Read given = Unit {0}
LoadFails load.BadMagic given = given ≡ Err load.BadMagic
LoadFails load.BadVersion given = given ≡ Err load.BadVersion
LoadFails load.Short given = given ≡ Err load.Short
LoadFails (load.BadField n) given = given ≡ Err (load.BadField n)
LoadFails load.Trailing given = given ≡ Err load.Trailing

-- an answer about the bytes of a source
abbrev pub LoadGives : {X Y : Type 0} → (X → Y) → Result X LoadFault → Result Y LoadFault → Type 0
LoadGives view (Ok x) given = given ≡ Ok (view x)
LoadGives view (Err e) given = LoadFails e given

-- Read only if the source has failed, Short only if it has not
abbrev pub FaultFits : LoadFault → Bool → Type 0
FaultFits load.Read failed = failed ≡ true
FaultFits load.Short failed = failed ≡ false
FaultFits other failed = Unit {0}

-- a schedule only if the source has not failed
abbrev pub AnswerFits : {X : Type 0} → Result X LoadFault → Bool → Type 0
AnswerFits (Ok x) failed = failed ≡ false
AnswerFits (Err e) failed = FaultFits e failed

-- the bytes that a source gave, by those left before and those left after
abbrev pub given_between : List ℕ → List ℕ → List ℕ
given_between before after = take (length before - length after) before

-- bytes without a fault, except that they may end too early
abbrev pub IsOpen : {Y : Type 0} → Result Y LoadFault → Type 0
IsOpen (Ok y) = Unit {0}
IsOpen (Err load.Short) = Unit {0}
IsOpen (Err other) = ⊥
