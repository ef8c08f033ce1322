use Rattle.std.proofs.Common.{◌∙◌, sym}
use Rattle.std.proofs.lemmas.Str.{IsUtf8-from_ascii}
use Rattle.hek_rules.proofs.NameLemmas.{name_ascii}
use Rattle.hek_rules.proofs.name.name_text.Goals as goal

pub returns-in-Err : goal.returns-in-Err
returns-in-Err c = absurd (c.in-Err.ensures.cases.0 (IsUtf8-from_ascii c.args.word.now (name_ascii c.args.word.now (sym c.name_ok.ensures ∙ c.if-not-name_ok.false))))
