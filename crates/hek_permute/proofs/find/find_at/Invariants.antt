use Rattle.std.specs.Prelude.{IfSome}
use Rattle.hek_permute.specs.Searches.{Misses}
use Rattle.hek_permute.proofs.Searches.{IsSoFar}
use Rattle.hek_permute.proofs.find.find_at.Given as goal

abbrev pub invariant-loop : goal.invariant-loop
invariant-loop g l = record {
  so_far : IsSoFar l.schedule l.form l.moves l.sought l.count l.order.items;
  tried : IfSome l.tried (λ v. Misses l.schedule l.form l.moves l.sought v.items);
}
