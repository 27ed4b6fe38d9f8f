use Rattle.std.proofs.Common.{arith, refl}
use Rattle.ftp_facts.specs.Name.{fact_names, fact_word, is_in_force}
use Rattle.ftp_server_model.specs.Entries.{fact_text}
use Rattle.ftp_server_replies.proofs.ReplyLemmas.{with_name}
use Rattle.ftp_server_replies.proofs.output.Output.put_facts.Goals as goal

pub loop-name-preserved : goal.loop-name-preserved
loop-name-preserved g c =
    record {
      names = refl;
      octets = with_name (λ name. fact_text (fact_word name)) (is_in_force c.args.facts) fact_names c.loop-name.name-index _ _ _ _ c.has.result c.loop-name-test.true
          c.has.ensures c.loop-name.invariant.octets c.put_fact.ensures.octets;
      room = omega (arith, c.loop-name.invariant.room, c.put_fact.ensures.room);
    }
