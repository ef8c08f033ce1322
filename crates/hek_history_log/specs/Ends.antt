-- After which faults reading ends, whatever the log says.
use Rattle.std.specs.Prelude.{⊤}
use Rattle.hek_history_log.specs.declared.fault.LogFault.{LogFault}
use Rattle.hek_history_log.specs.declared.fault.LogFault.TheVariants.{CannotRead, NoMemory}

-- the input or the memory failed
abbrev pub IsEnd : LogFault → Type 0
IsEnd CannotRead = ⊤
IsEnd NoMemory = ⊤
IsEnd _ = ⊥
