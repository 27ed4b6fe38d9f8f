use Rattle.std.proofs.Common.{[], ◌∷◌, codes, refl, append-nil}
use Rattle.std.specs.Prelude.{if◌then◌else◌}
use Rattle.ftp_server_model.specs.Entries.{chosen_text, is_any_chosen}
use Rattle.ftp_server_model.specs.Replies.{chosen_reply}
use Rattle.ftp_server_replies.proofs.ReplyLemmas.{in_parts}
use Rattle.ftp_server_replies.proofs.output.Output.put_chosen.Goals as goal

pub returns : goal.returns
returns g c =
    let chosen = if is_any_chosen c.args.facts then 32 ∷ chosen_text c.args.facts else [] in
    in_parts 200 (codes "MLST OPTS") chosen [] (chosen_reply c.args.facts) _ _ _ _ _ _ (simp append-nil) refl refl c.put.ensures c.put_chosen_facts.ensures.octets c.put-2.ensures
