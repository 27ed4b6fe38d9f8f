use Rattle.std.proofs.Common.{◌∙◌, ◌++◌, false, ap, sym, subst, take, append_assoc, append-nil, arith, refl}
use Rattle.std.proofs.Math.Seq.{take-add}
use Rattle.std.proofs.lemmas.List.{take-append-drop}
use Rattle.ftp_mode.specs.Deframing.{last_marker, taken_with_fault}
use Rattle.tool_codec.proofs.Hearing.{Hearing, hearing_of, hear_step, hear_all, hear_fault}
use Rattle.tool_codec.specs.Receiving.{StandsAfter, FaultyAfter}
use Rattle.tool_codec.proofs.receiving.Receiving.hear.Goals as goal

pub loop-step-init : goal.loop-step-init
loop-step-init g c = record {
  within = omega arith;
  hears = λ r wire written stands. subst (λ w. Hearing r w written c.args.self.now) (sym (append-nil wire)) (hearing_of r wire written c.args.self.now stands);
}

pub returns-in-Err : goal.returns-in-Err
returns-in-Err g c = record {
  ok = λ r wire written stands.
      let piece = c.args.piece.now in
      let front = take c.loop-step.at piece in
      let rest = c.split_at.result.1.now in
      let old = c.loop-step.self in
      let new = record old { deframer = c.feed.new.self } in
      let fails = c.in-Err.ensures.err in
      let whole = append_assoc wire front rest ∙ ap (λ l. wire ++ (front ++ l)) c.split_at.ensures.back ∙ ap (λ l. wire ++ l) (take-append-drop c.loop-step.at piece) in
      subst (λ w. FaultyAfter r w written false c.in-Err.fault new) whole
      (hear_fault r (wire ++ front) written rest false old new (taken_with_fault c.feed.new.self) c.in-Err.fault (c.loop-step.invariant.hears r wire written stands) fails refl);
}

pub returns-in-Need : goal.returns-in-Need
returns-in-Need g c = record {
  ok = λ r wire written stands.
      let piece = c.args.piece.now in
      let front = take c.loop-step.at piece in
      let rest = c.split_at.result.1.now in
      let whole = append_assoc wire front rest ∙ ap (λ l. wire ++ (front ++ l)) c.split_at.ensures.back ∙ ap (λ l. wire ++ l) (take-append-drop c.loop-step.at piece) in
      subst (λ w. StandsAfter r w written c.receive.new.self) whole
      (hear_all r (wire ++ front) written rest c.loop-step.self c.receive.new.self c.feed.new.self c.in-Ok.step (c.loop-step.invariant.hears r wire written stands)
      c.in-Ok.ensures.ok c.in_ok-receive.ensures.deframer (c.in_ok-receive.ensures.ok (last_marker c.feed.new.self)) c.in-Need.is);
}

pub loop-step-preserved : goal.loop-step-preserved
loop-step-preserved g c = record {
  within = let taken = c.in-Ok.ensures.ok.within in let size = c.split_at.ensures.back_len in let within = c.loop-step.invariant.within in omega (arith, taken, size, within);
  hears = λ r wire written stands.
      let piece = c.args.piece.now in
      let at = c.loop-step.at in
      let front = take at piece in
      let rest = c.split_at.result.1.now in
      let taken = c.in-Ok.step.taken in
      let same = append_assoc wire front (take taken rest) ∙ ap (λ l. wire ++ (front ++ take taken l)) c.split_at.ensures.back ∙ ap (λ l. wire ++ l) (sym (take-add at taken piece)) in
      subst (λ w. Hearing r w written c.receive.new.self) same
      (hear_step r (wire ++ front) written rest c.loop-step.self c.receive.new.self c.feed.new.self c.in-Ok.step (c.loop-step.invariant.hears r wire written stands)
      c.in-Ok.ensures.ok c.in_ok-receive.ensures.deframer (c.in_ok-receive.ensures.ok (last_marker c.feed.new.self)));
}
