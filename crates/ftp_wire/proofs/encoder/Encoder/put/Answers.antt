use Rattle.std.proofs.Common.{◌≡◌, ◌++◌, [], drop, true, ap, sym, ◌∙◌, rules, append-nil, refl}
use Rattle.ftp_wire.specs.Encoding.{is_done, still_to_give}
use Rattle.ftp_wire.proofs.EncodingLemmas.{steps_on, some_made}
use Rattle.ftp_wire.proofs.encoder.Encoder.put.Goals as goal

pub loop-made-preserved : goal.loop-made-preserved
loop-made-preserved c = record {
  taken = search rules;
  made = search rules;
  room = search rules;
  text = λ more last.
      steps_on (still_to_give c.args.self.now (c.args.piece.now ++ more)) c.loop-made.self c.step-step.new.self c.args.piece.now c.split_at.result.1.now more c.loop-made.room c.split_at_mut-free.result.0.now c.step-step.new.room c.loop-made.taken c.loop-made.made c.step-step.result.taken c.step-step.result.made
      c.loop-made.invariant.made c.split_at_mut-free.ensures.front c.split_at.ensures.back
      (c.loop-made.invariant.text more last) (c.step-step.ensures.text more last);
}

pub returns-else-has_more-clause-some : goal.returns-else-has_more-clause-some
returns-else-has_more-clause-some c = λ last room some.
    let done : is_done c.loop-made.self ≡ true = search rules in
    some_made (still_to_give c.args.self.now c.args.piece.now) c.loop-made.room c.loop-made.self (drop c.loop-made.taken c.args.piece.now ++ []) c.loop-made.made
    (ap (still_to_give c.args.self.now) (sym (append-nil c.args.piece.now)) ∙ c.loop-made.invariant.text [] (λ last. refl)) done some
