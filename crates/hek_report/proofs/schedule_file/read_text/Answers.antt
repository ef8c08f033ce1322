use Rattle.std.proofs.Common.{◌+◌, ◌^◌, arith}
use Rattle.hek_report.proofs.WholeText.{whole}
use Rattle.hek_report.proofs.schedule_file.read_text.Goals as goal

pub returns : goal.returns
returns g c =
    whole g.R.Read.remaining c.args.reader c.take-reader.result c.new-text.result.items c.read_to_end.new.buf.items (2 ^ 28 + 1) c.take-reader.ensures.limit c.take-reader.ensures.inner c.new-text.ensures.items c.in_default.ensures.bytes (omega (arith, c.len.ensures))
