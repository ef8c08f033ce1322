-- What a function answered is what the definition gives, unless memory ran out.
use Rattle.std.specs.Prelude.{◌≡◌, ℕ, Result, Ok, Err}
use Rattle.hek_asm.specs.declared.fault.AsmKind.{AsmKind}
use Rattle.hek_asm.specs.declared.fault.LineFault.{LineFault}
use Rattle.hek_asm.specs.declared.fault.LineFault.TheVariants as line
use Rattle.hek_asm.specs.declared.fault.AsmFault.{AsmFault}
use Rattle.hek_asm.specs.declared.fault.AsmFault.TheVariants as asm

abbrev pub LineFails : {Y : Type 0} → LineFault → Result Y AsmKind → Type 0
LineFails line.NoMemory given = Unit {0}
LineFails (line.Fault k) given = given ≡ Err k

-- a line's answer, where x is what it made
abbrev pub LineGives : {X Y : Type 0} → (X → Y) → Result X LineFault → Result Y AsmKind → Type 0
LineGives view (Ok x) given = given ≡ Ok (view x)
LineGives view (Err e) given = LineFails e given

abbrev pub TextFails : {Y : Type 0} → AsmFault → Result Y (ℕ × AsmKind) → Type 0
TextFails asm.NoMemory given = Unit {0}
TextFails (asm.At n k) given = given ≡ Err (n, k)

abbrev pub TextGives : {X Y : Type 0} → (X → Y) → Result X AsmFault → Result Y (ℕ × AsmKind) → Type 0
TextGives view (Ok x) given = given ≡ Ok (view x)
TextGives view (Err e) given = TextFails e given

-- the fault of a line, at its number
abbrev pub at_line : ℕ → LineFault → AsmFault
at_line n line.NoMemory = asm.NoMemory
at_line n (line.Fault k) = asm.At n k
