-- Histories as transcripts.
use Rattle.std.proofs.Common.{◌≡◌, List, [], ◌∷◌, ◌++◌, refl, ap, sym, ◌∙◌, length, arith}
use Rattle.std.specs.Prelude.{map}
use Rattle.std.proofs.lemmas.List.{append-nil}
use Rattle.hek_rules.specs.declared.event.Event.{Event}
use Rattle.hek_rules.specs.declared.reply.Reply.{Reply}
use Rattle.hek_rules.specs.Plan.{Plan, levels_of}
use Rattle.hek_rules.specs.Recorded.{Recorded}
use Rattle.hek_worker.specs.declared.entry.Entry.{Entry}
use Rattle.hek_worker.specs.History.{recorded_by}

abbrev pub pairs_of : List Entry → List (Event × Reply)
pairs_of xs = map (λ x. (x.event, x.reply)) xs

abbrev pub over : Plan → List (Event × Reply) → Recorded
over p ps = record { buckets = p.buckets; rows = p.rows; levels = levels_of p; history = ps }

-- the transcript so far is over plan p, and with the entries left it is that of the whole history
pub record IsFront (p : Plan) (xs rest : List Entry) (told : Recorded) : Type 0 where
  pub plan : told ≡ over p told.history
  pub all : told.history ++ pairs_of rest ≡ pairs_of xs

empty : (xs : List Entry) → length xs ≡ 0 → xs ≡ []
empty [] h = refl
empty (x ∷ xs) h = absurd (omega arith)

pub whole : (p : Plan) (xs rest : List Entry) (told : Recorded) → IsFront p xs rest told → length rest ≡ 0 → told ≡ recorded_by p xs
whole p xs rest told h none =
    h.plan ∙ ap (over p) (sym (append-nil told.history) ∙ ap (λ (ys : List Entry). told.history ++ pairs_of ys) (sym (empty rest none)) ∙ h.all)
