use Rattle.std.proofs.Common.{[], decimal, refl, append-nil}
use Rattle.ftp_server_replies.proofs.ReplyLemmas.{in_parts}
use Rattle.ftp_server_replies.proofs.output.Output.put_size.Goals as goal

pub returns : goal.returns
returns g c = in_parts 213 [] (decimal c.args.size) [] (decimal c.args.size) _ _ _ _ _ _ (simp append-nil) refl refl c.put.ensures c.put_number.ensures.octets c.put-2.ensures
