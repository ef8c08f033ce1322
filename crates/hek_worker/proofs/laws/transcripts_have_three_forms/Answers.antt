use Rattle.hek_worker.proofs.Lawful.{forms_are_exact}
use Rattle.hek_worker.proofs.laws.transcripts_have_three_forms.Goals as goal

pub returns : goal.returns
returns c = forms_are_exact
