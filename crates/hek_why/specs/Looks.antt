-- What a transaction sees of each version that its walk comes to.
use Rattle.std.specs.Prelude.{ℕ, List, map}
use Rattle.hek_rules.specs.World.{World}
use Rattle.hek_rules.specs.Visibility.{sight}
use Rattle.hek_rules.specs.Walk.{read_time}
use Rattle.hek_why.specs.declared.reason.Reason.{Reason}
use Rattle.hek_why.specs.declared.reason.Reason.TheVariants.{Looked}

abbrev pub looked_reasons : World → ℕ → List ℕ → List Reason
looked_reasons w t vs = map (λ v. Looked v (sight w t (read_time w t) v)) vs
