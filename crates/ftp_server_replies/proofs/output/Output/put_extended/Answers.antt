use Rattle.std.proofs.Common.{codes, decimal, refl}
use Rattle.ftp_server_model.specs.Replies.{extended_reply_text}
use Rattle.ftp_server_replies.proofs.ReplyLemmas.{in_parts}
use Rattle.ftp_server_replies.proofs.output.Output.put_extended.Goals as goal

pub returns : goal.returns
returns g c = in_parts 229 (codes "Entering Extended Passive Mode (|||") (decimal c.args.port) (codes "|)") (extended_reply_text c.args.port) _ _ _ _ _ _ refl refl refl c.put.ensures (rw (← c.from.ensures) c.put_number.ensures.octets) c.put-2.ensures
