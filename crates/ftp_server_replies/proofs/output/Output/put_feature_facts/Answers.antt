use Rattle.std.proofs.Common.{arith, refl}
use Rattle.ftp_facts.specs.Name.{fact_names, fact_word, is_in_force}
use Rattle.ftp_server_model.specs.Entries.{feature_text}
use Rattle.ftp_server_replies.proofs.ReplyLemmas.{with_name}
use Rattle.ftp_server_replies.proofs.output.Output.put_feature_facts.Goals as goal

pub loop-name-preserved : goal.loop-name-preserved
loop-name-preserved g c =
    record {
      names = refl;
      octets = with_name (λ name. feature_text (fact_word name)) (is_in_force c.args.facts) fact_names c.loop-name.name-index _ _ _ _ c.has.result c.loop-name-test.true
          c.has.ensures c.loop-name.invariant.octets c.put_feature.ensures.octets;
      room = omega (arith, c.loop-name.invariant.room, c.put_feature.ensures.room);
    }
