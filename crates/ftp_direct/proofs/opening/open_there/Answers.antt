use Rattle.ftp_direct.proofs.OpenLemmas.{none_there}
use Rattle.ftp_direct.proofs.opening.open_there.Goals as goal

pub returns-in-Err-Absent-clause-octets : goal.returns-in-Err-Absent-clause-octets
returns-in-Err-Absent-clause-octets g c =
    none_there _ _ _ _ _ _ _ c.in-Err-Absent.ensures.refused (λ e. cc (e, c.in-Err-Absent.field-0-is)) (λ e. cc (e, c.in-Err-Absent.field-0-is))

pub returns-in-Err-WrongKind-clause-octets : goal.returns-in-Err-WrongKind-clause-octets
returns-in-Err-WrongKind-clause-octets g c =
    none_there _ _ _ _ _ _ _ c.in-Err-WrongKind.ensures.refused (λ e. cc (e, c.in-Err-WrongKind.field-0-is)) (λ e. cc (e, c.in-Err-WrongKind.field-0-is))
