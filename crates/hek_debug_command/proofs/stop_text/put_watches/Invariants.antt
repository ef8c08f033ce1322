use Rattle.std.proofs.Common.{◌≡◌, ◌+◌, ◌++◌, drop}
use Rattle.hek_debug.specs.Sessions.{world_at}
use Rattle.hek_debug_command.specs.Debugged.{watch_lines}
use Rattle.hek_debug_command.proofs.stop_text.put_watches.Given as goal

-- the lines so far, with those of the marks left, are all lines
abbrev pub invariant-loop-place : goal.invariant-loop-place
invariant-loop-place l =
    l.lines.items ++ watch_lines l.debugger.plan (world_at l.debugger.plan l.debugger.at) (l.place + 1) (drop l.place l.marks)
    ≡ l.fn.lines.items ++ watch_lines l.debugger.plan (world_at l.debugger.plan l.debugger.at) 1 l.marks
