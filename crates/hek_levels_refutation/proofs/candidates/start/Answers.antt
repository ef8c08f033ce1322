use Rattle.std.proofs.Common.{◌+◌, ◌<◌, ℕ, refl, sym, ap, length, subst, arith}
use Rattle.hek_levels_refutation.specs.Claims.{number_of}
use Rattle.hek_levels_refutation.proofs.Refuting.{started}
use Rattle.hek_levels_refutation.proofs.candidates.start.Goals as goal

pub returns : goal.returns
returns c e x hold =
    let o = c.if-not-takes_place.ensures refl c.args.context.now.asked.now e x hold in (
      o,
      omega arith,
      λ read there.
          subst (λ (n : ℕ). number_of (e.source c.args.t c.args.r) < n + 1) (sym (ap length c.as_slice.ensures.value))
          (started c.args.context.now.asked.now c.args.context.now.log.now e x c.args.t c.args.r read o there),
    )
