use Rattle.std.proofs.Common.{◌≡◌, ◌+◌, ◌*◌, ◌≤◌, ◌++◌, length, take, flat_map}
use Rattle.ftp_facts.specs.Name.{fact_names, fact_word, is_in_force}
use Rattle.ftp_nvt.specs.Lines.{written_octet}
use Rattle.ftp_server_model.specs.Entries.{feature_text}
use Rattle.ftp_server_replies.proofs.output.Output.put_feature_facts.Given as goal

abbrev pub invariant-loop-name : goal.invariant-loop-name
invariant-loop-name g l = record {
  names : l.name-items ≡ fact_names;
  octets : l.self ≡ l.fn.self ++ flat_map written_octet (flat_map (λ name. feature_text (fact_word name) (is_in_force l.facts name)) (take l.name-index fact_names));
  room : length l.self ≤ length l.fn.self + 32 * l.name-index;
}
