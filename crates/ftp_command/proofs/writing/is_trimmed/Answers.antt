use Rattle.std.proofs.Common.{◌∙◌, length, ap, sym, eq-eqb}
use Rattle.std.proofs.lemmas.Bool.{eqb-true}
use Rattle.ftp_command.proofs.ArgumentLemmas.{trimmed-keeps}
use Rattle.ftp_command.proofs.writing.is_trimmed.Goals as goal

pub returns : goal.returns
returns c = (
  λ h. trimmed-keeps c.args.words.now (sym (ap length c.trim-front.ensures) ∙ eqb-true _ _ h),
  λ e. eq-eqb _ _ (ap length (c.trim-front.ensures ∙ e)),
)
