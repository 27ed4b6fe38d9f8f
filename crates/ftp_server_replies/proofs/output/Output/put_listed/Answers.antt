use Rattle.ftp_facts.specs.Entry.{listed_lent}
use Rattle.ftp_server_model.specs.Entries.{listed_line}
use Rattle.ftp_server_replies.proofs.ReplyLemmas.{around, entry_octets}
use Rattle.ftp_server_replies.proofs.output.Output.put_listed.Goals as goal

pub returns : goal.returns
returns g c =
    let line = listed_line c.args.facts (listed_lent c.args.entry) in
    around line _ _ _ _ _ _ _ (entry_octets line) c.put.ensures c.put_entry.ensures.octets c.put-2.ensures
