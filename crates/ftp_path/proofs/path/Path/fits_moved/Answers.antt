use Rattle.std.proofs.Common.{sym}
use Rattle.ftp_path.proofs.KeyLemmas.{moved-shorter, moved-fits}
use Rattle.ftp_path.proofs.path.Path.fits_moved.Goals as goal

pub overflow_sub-result : goal.overflow_sub-result
overflow_sub-result g c =
    moved-shorter _ _ _ c.key-from.ensures.kept c.key-to.ensures.kept c.key-path.ensures.kept _ _ _ c.key-from.ensures.names c.key-to.ensures.names c.key-path.ensures.names c.requires

pub returns : goal.returns
returns g c =
    sym (moved-fits _ _ _ c.key-from.ensures.kept c.key-to.ensures.kept c.key-path.ensures.kept _ _ _ c.key-from.ensures.names c.key-to.ensures.names c.key-path.ensures.names c.requires)
