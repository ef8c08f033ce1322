use Rattle.std.proofs.Common.{rules, refl}
use Rattle.hek_explore.proofs.walk.start.Goals as goal

pub returns : goal.returns
returns c = record {
  key = c.in_ok-key.ensures c.args.form;
  orders = refl;
  first = search rules;
  left_is = refl;
}
