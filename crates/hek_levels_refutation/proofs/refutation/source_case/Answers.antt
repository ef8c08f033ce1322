use Rattle.hek_levels_refutation.proofs.refutation.source_case.Goals as goal

pub returns : goal.returns
returns c e x not_so takes is = not_so (takes, is)
