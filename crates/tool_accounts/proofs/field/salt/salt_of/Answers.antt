use Rattle.std.proofs.Common.{◌≡◌, take, true, subst, sym}
use Rattle.std.specs.List.{list_all}
use Rattle.ftp_secret.specs.Secret.{is_letter}
use Rattle.tool_accounts.proofs.field.Salting.{salt_letters}
use Rattle.tool_accounts.proofs.field.salt.salt_of.Goals as goal

pub returns-clause-salt : goal.returns-clause-salt
returns-clause-salt c =
    subst (λ letters. list_all is_letter letters ≡ true) (sym c.loop-octet.invariant.1)
    (salt_letters (take c.loop-octet.octet-index c.args.octets.now))
