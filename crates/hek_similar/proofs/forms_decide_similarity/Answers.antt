use Rattle.hek_similar.proofs.Forms.{forms-decide}
use Rattle.hek_similar.proofs.forms_decide_similarity.Goals as goal

pub returns : goal.returns
returns c = forms-decide
