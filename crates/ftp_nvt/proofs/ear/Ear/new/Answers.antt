use Rattle.std.proofs.Common.{sym, subst, rules}
use Rattle.ftp_nvt.specs.LineBuffer.{CanHaveRead}
use Rattle.ftp_nvt.proofs.TelnetLemmas.{place-nil, bare-nil}
use Rattle.ftp_nvt.proofs.ear.Ear.new.Goals as goal

pub returns-clause-heard : goal.returns-clause-heard
returns-clause-heard g c = record { place = sym place-nil; line = subst (λ l. CanHaveRead c.in_ok-line.line l) (sym bare-nil) (search rules) }
