-- One more line of a text.
use Rattle.std.proofs.Common.{◌≡◌, ℕ, ◌+◌, List, [], ◌∷◌, Option, Ok, Err, refl}
use Rattle.hek_rules.specs.Plan.{Plan}
use Rattle.hek_asm.specs.declared.fault.AsmKind.{AsmKind}
use Rattle.hek_asm.specs.declared.fault.LineFault.{LineFault}
use Rattle.hek_asm.specs.declared.fault.LineFault.TheVariants as line
use Rattle.hek_asm.specs.Text.{line_after, lines_after, finished_plan}
use Rattle.hek_asm.specs.Gives.{LineFails, TextFails, at_line}

pub goes_on : (n : ℕ) (s t : Option Plan) (bytes : List ℕ) (lines : List (List ℕ)) → line_after s bytes ≡ Ok t → lines_after n s (bytes ∷ lines) ≡ lines_after (n + 1) t lines
unfolding lines_after
goes_on n s t bytes lines e = rw e refl

pub stops : (n : ℕ) (s : Option Plan) (bytes : List ℕ) (lines : List (List ℕ)) (k : AsmKind) → line_after s bytes ≡ Err k → lines_after n s (bytes ∷ lines) ≡ Err (n, k)
unfolding lines_after
stops n s bytes lines k e = rw e refl

pub ends : (n : ℕ) (s : Option Plan) → lines_after n s [] ≡ finished_plan s
unfolding lines_after
ends n s = refl

pub fails : (n : ℕ) (s : Option Plan) (bytes : List ℕ) (lines : List (List ℕ)) (e : LineFault) → LineFails e (line_after s bytes) → TextFails (at_line n e) (lines_after n s (bytes ∷ lines))
fails n s bytes lines line.NoMemory h = tt
fails n s bytes lines (line.Fault k) h = stops n s bytes lines k h
