use Rattle.std.proofs.Common.{[], ◌++◌, codes, decimal, refl, append-nil}
use Rattle.ftp_server_replies.proofs.ReplyLemmas.{in_parts}
use Rattle.ftp_server_replies.proofs.output.Output.put_restarting.Goals as goal

pub returns : goal.returns
returns g c = in_parts 350 (codes "Restarting at ") (decimal c.args.place) [] (codes "Restarting at " ++ decimal c.args.place) _ _ _ _ _ _ (simp append-nil) refl refl c.put.ensures c.put_number.ensures.octets c.put-2.ensures
