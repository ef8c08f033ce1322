use Rattle.std.proofs.Common.{◌≡◌, arith, subst, sym}
use Rattle.std.specs.Str.{IsUtf8}
use Rattle.std.proofs.lemmas.Grind.{common_steps}
use Rattle.hek_asm.specs.Canonical.{canonical_text}
use Rattle.hek_asm.proofs.CanonicalTidy.{canonical_utf8}
use Rattle.hek_asm.proofs.schedule_text.canonical.Goals as goal

pub unwrap-requires : goal.unwrap-requires
unwrap-requires c =
    let text : c.put_steps.new.out.items ≡ canonical_text c.args.schedule.now = grind (arith, common_steps) in
    c.from_utf8.ensures.succeeds (subst IsUtf8 (sym text) (canonical_utf8 c.args.schedule.now c.buckets.ensures.plan))
