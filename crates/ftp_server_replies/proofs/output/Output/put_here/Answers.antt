use Rattle.std.proofs.Common.{[], ◌∷◌, codes, refl, append_assoc}
use Rattle.ftp_path.specs.Path.{text_of}
use Rattle.ftp_reply.specs.Values.{doubled}
use Rattle.ftp_server_model.specs.Replies.{here_text}
use Rattle.ftp_server_replies.proofs.ReplyLemmas.{in_parts}
use Rattle.ftp_server_replies.proofs.output.Output.put_here.Goals as goal

pub returns : goal.returns
returns g c = in_parts 257 (34 ∷ []) (doubled (text_of c.args.path.now)) (34 ∷ codes " is the current directory") (here_text c.args.path.now) _ _ _ _ _ _ (simp append_assoc) refl refl c.put.ensures (rw (← c.text.ensures.text) c.put_doubled.ensures.octets) c.put-2.ensures
