use Rattle.std.proofs.Common.{[], refl, append-nil}
use Rattle.ftp_server_replies.proofs.ReplyLemmas.{in_parts}
use Rattle.ftp_server_replies.proofs.output.Output.put_stamp.Goals as goal

pub returns : goal.returns
returns g c = in_parts 213 [] c.args.digits.now [] c.args.digits.now _ _ _ _ _ _ (simp append-nil) refl refl c.put.ensures c.put_text.ensures.octets c.put-2.ensures
