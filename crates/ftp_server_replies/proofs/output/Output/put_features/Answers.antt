use Rattle.ftp_ends.specs.Reply.{reply_octets}
use Rattle.ftp_server_model.specs.Entries.{features_text}
use Rattle.ftp_server_model.specs.Replies.{features_reply}
use Rattle.ftp_server_replies.proofs.ReplyLemmas.{around, features_octets}
use Rattle.ftp_server_replies.proofs.output.Output.put_features.Goals as goal

pub returns : goal.returns
returns g c =
    around (features_text c.args.facts) (reply_octets (features_reply c.args.facts)) _ _ _ _ _ _ (features_octets c.args.facts) c.put.ensures c.put_feature_facts.ensures.octets c.put-2.ensures
