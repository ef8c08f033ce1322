use Rattle.std.proofs.Common.{◌≡◌, ◌∷◌, [], length, arith}
use Rattle.hek_history_log.specs.LogText.{number_or_null}
use Rattle.hek_history_log.proofs.JsonLemmas.{length_of}
use Rattle.hek_history_log.proofs.fields.interval_in.Goals as goal

pub returns-in_default : goal.returns-in_default
returns-in_default c invoked answered first second is =
    let two : length c.in_ok-items.items.now ≡ 2 = length_of c.in_ok-items.items.now (number_or_null invoked ∷ number_or_null answered ∷ []) (c.in_ok-items.ensures.items (number_or_null invoked ∷ number_or_null answered ∷ []) is) in
    absurd (omega arith)

pub returns-in_default-2 : goal.returns-in_default-2
returns-in_default-2 c invoked answered first second is =
    let two : length c.in_ok-items.items.now ≡ 2 = length_of c.in_ok-items.items.now (number_or_null invoked ∷ number_or_null answered ∷ []) (c.in_ok-items.ensures.items (number_or_null invoked ∷ number_or_null answered ∷ []) is) in
    absurd (omega arith)
