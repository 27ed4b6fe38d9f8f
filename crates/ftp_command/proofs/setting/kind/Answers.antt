use Rattle.ftp_command.proofs.SettingLemmas.{no_kind, no_other}
use Rattle.ftp_endpoint.proofs.OutcomeLemmas.{not_from}
use Rattle.ftp_command.proofs.setting.kind.Goals as goal

pub returns-in-None-2-clause-err : goal.returns-in-None-2-clause-err
returns-in-None-2-clause-err c =
    let ascii = not_from _ _ c.is_ascii_name.ensures c.if-is_ascii_name.false in
    let image = not_from _ _ c.eq_ignore_ascii_case.ensures.test c.if-eq_ignore_ascii_case.false in
    let other = not_from _ _ c.is_other_name.ensures c.if-is_other_name.false in
    let local = c.in-None.ensures.none in
    (no_other c.args.text.now other local, no_kind c.args.text.now ascii image local)
