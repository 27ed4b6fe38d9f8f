use Rattle.std.proofs.Common.{codes, refl}
use Rattle.ftp_endpoint.specs.Written.{six_text}
use Rattle.ftp_server_model.specs.Replies.{passive_reply_text}
use Rattle.ftp_server_replies.proofs.ReplyLemmas.{in_parts}
use Rattle.ftp_server_replies.proofs.output.Output.put_passive.Goals as goal

pub returns : goal.returns
returns g c =
    in_parts 227 (codes "Entering Passive Mode (") (six_text c.args.endpoint) (codes ")") (passive_reply_text c.args.endpoint) _ _ _ _ _ _
    refl refl refl c.put.ensures c.put_six.ensures.octets c.put-2.ensures
