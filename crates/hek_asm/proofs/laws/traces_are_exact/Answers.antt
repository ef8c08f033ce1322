use Rattle.hek_asm.proofs.TraceLaws.{one_transcript, no_fault, one_fault}
use Rattle.hek_asm.proofs.laws.traces_are_exact.Goals as goal

pub returns : goal.returns
returns c = record { one = one_transcript; no_fault = no_fault; one_fault = one_fault }
