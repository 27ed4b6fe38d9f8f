use Rattle.std.proofs.Common.{◌≡◌, ℕ, List, [], Option, subst, ◌∙◌}
use Rattle.ftp_command.specs.Argument.{SaysLongest, SaysSizes}
use Rattle.ftp_endpoint.specs.Number.{behind_digits}
use Rattle.ftp_command.proofs.SettingLemmas.{no_sizes}
use Rattle.ftp_endpoint.proofs.OutcomeLemmas.{if_none, not_empty}
use Rattle.ftp_command.proofs.setting.sizes.Goals as goal

pub returns-in_err-longest-clause-none : goal.returns-in_err-longest-clause-none
returns-in_err-longest-clause-none c =
    let text = c.args.text.now in
    let behind : c.split_digits.result.1.now ≡ behind_digits c.args.text.now = c.split_digits.ensures.behind in
    let P : List ℕ → Type 0 = λ x. (n : ℕ) → SaysLongest x n → ⊥ in
    let some : behind_digits c.args.text.now ≡ [] → ⊥ = λ e. not_empty _ _ c.is_empty.ensures c.if-is_empty.false (behind ∙ e) in
    let none : (octets : ℕ) (longest : Option ℕ) → SaysSizes c.args.text.now octets longest → ⊥ =
    no_sizes text some (subst P behind c.in_err-longest.ensures.none) in
    if_none _ _ none
