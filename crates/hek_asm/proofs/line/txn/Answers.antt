use Rattle.std.proofs.Common.{◌≡◌, ℕ, ◌<◌, List, [], ◌∷◌, length, map, Err, refl, arith, Bor}
use Rattle.hek_rules.specs.Plan.{Plan}
use Rattle.hek_asm.specs.declared.fault.AsmKind.TheVariants.{BadWord}
use Rattle.hek_asm.specs.Text.{txn_line}
use Rattle.hek_asm.proofs.line.txn.Goals as goal

few : (p : Plan) (words : List (Bor (List ℕ))) → length words < 2 → txn_line p (map (λ w. w.now) words) ≡ Err BadWord
unfolding txn_line
few p [] h = refl
few p (a ∷ []) h = refl
few p (a ∷ b ∷ words) h = absurd (omega arith)

pub returns-in_default : goal.returns-in_default
returns-in_default c = few c.args.schedule.now c.args.words.now c.in_default.len_below
