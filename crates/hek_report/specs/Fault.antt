use Rattle.std.specs.Prelude.{ℕ}
use Rattle.hek_asm.specs.declared.fault.AsmFault.{AsmFault}
use Rattle.hek_asm.specs.declared.fault.AsmFault.TheVariants as asm
use Rattle.hek_asm.specs.declared.fault.TraceFault.{TraceFault}
use Rattle.hek_asm.specs.declared.fault.TraceFault.TheVariants as trace
use Rattle.hek_image.specs.declared.fault.LoadFault.{LoadFault}
use Rattle.hek_image.specs.declared.fault.LoadFault.TheVariants as load
use Rattle.hek_report.specs.declared.fault.HekFault.{HekFault}
use Rattle.hek_report.specs.declared.fault.HekFault.TheVariants.{BadArgument, NotAWord, NoReader, BadWaits, Line, Image, TraceLine, CommandLine, Wanted, NoWorker, Mismatch, NotText, CannotRead, CannotWrite, NoMemory}

-- the exit status of a command with this fault
abbrev pub status_of : HekFault → ℕ
status_of BadArgument = 2
status_of NotAWord = 1
status_of NoReader = 1
status_of BadWaits = 1
status_of (Line number kind) = 1
status_of (Image fault) = 1
status_of (TraceLine number) = 1
status_of (CommandLine number) = 1
status_of (Wanted line column wanted) = 1
status_of NoWorker = 1
status_of (Mismatch worker) = 1
status_of NotText = 1
status_of (CannotRead file) = 1
status_of CannotWrite = 1
status_of NoMemory = 1

-- the fault of a text as that of a command
abbrev pub text_fault : AsmFault → HekFault
text_fault (asm.At number kind) = Line number kind
text_fault asm.NoMemory = NoMemory

-- the fault of an image as that of a command
abbrev pub image_fault : LoadFault → HekFault
image_fault load.BadMagic = Image load.BadMagic
image_fault load.BadVersion = Image load.BadVersion
image_fault load.Short = Image load.Short
image_fault (load.BadField offset) = Image (load.BadField offset)
image_fault load.Trailing = Image load.Trailing
image_fault load.Read = Image load.Read
image_fault load.NoMemory = NoMemory

-- the fault of a trace as that of a command
abbrev pub trace_fault : TraceFault → HekFault
trace_fault (trace.Line number) = TraceLine number
trace_fault trace.NoMemory = NoMemory
