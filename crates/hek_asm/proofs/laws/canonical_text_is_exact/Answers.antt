use Rattle.hek_asm.proofs.RoundTrip.{text_again}
use Rattle.hek_asm.proofs.CanonicalTidy.{canonical_tidy}
use Rattle.hek_asm.proofs.TextOnly.{text_only}
use Rattle.hek_asm.proofs.laws.canonical_text_is_exact.Goals as goal

pub returns : goal.returns
returns c = record { again = text_again; tidy = canonical_tidy; only = text_only }
