use Rattle.std.specs.Prelude.{option_map}
use Rattle.std.proofs.Common.{refl}
use Rattle.ftp_facts.specs.Entry.{listed_lent, value_text}
use Rattle.ftp_facts.proofs.WritingLemmas.{chosen_more, chosen_passed}
use Rattle.ftp_facts.proofs.writing.write_facts.Goals.{then-has+in_ok-write_given, else-has}
use Rattle.ftp_facts.proofs.writing.write_facts.Goals as goal

pub loop-name-preserved : goal.loop-name-preserved
loop-name-preserved g c =
    record {
      names = refl;
      so_far = elim c.if-has.branch [
        | then-has+in_ok-write_given w ↦
            chosen_more _ _ _ c.args.facts (listed_lent c.args.lent) c.loop-name.name-index _ c.loop-name-test.true g.met.S.LineSink.joins (option_map value_text w.value.result) _ _ _ _
            w.if-has.ensures w.value.ensures c.loop-name.invariant.so_far w.in_ok-write_given.ensures.ok w.out-is
        | else-has w ↦
            chosen_passed _ _ _ c.args.facts (listed_lent c.args.lent) c.loop-name.name-index _ c.loop-name-test.true _ _ _ w.if-has.ensures c.loop-name.invariant.so_far w.out-is
      ];
    }
