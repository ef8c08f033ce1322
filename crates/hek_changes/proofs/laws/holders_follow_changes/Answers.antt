use Rattle.hek_changes.proofs.HolderLaws.{own_read, others_read, counted, named}
use Rattle.hek_changes.proofs.laws.holders_follow_changes.Goals as goal

pub returns : goal.returns
returns c = record { own = own_read; others = others_read; count = counted; writer = named }
