use Rattle.std.proofs.Common.{arith}
use Rattle.ftp_command.proofs.PathLemmas.{path_short}
use Rattle.ftp_command.proofs.line.put_path.Goals as goal

pub put_spaced-requires : goal.put_spaced-requires
put_spaced-requires c = omega (arith, path_short c.args.path.now c.requires.path, c.requires.room)
