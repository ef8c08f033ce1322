use Rattle.hek_similar.proofs.Places.Canonical.{canonical-forms-decide}
use Rattle.hek_similar.proofs.canonical_forms_decide.Goals as goal

pub returns : goal.returns
returns c = canonical-forms-decide
