use Rattle.std.proofs.Common.{refl}
use Rattle.ftp_pair_memory.proofs.streams.Lifting.{meets}
use Rattle.ftp_pair_memory.proofs.streams.Straying.{astray_before}
use Rattle.ftp_pair_memory.proofs.streams.memory_end.meet.Goals as goal

pub returns-clause-meets : goal.returns-clause-meets
returns-clause-meets c so = meets _ _ _ _ _ _ _ _ (c.if-not-answers.ensures.answers refl) (c.if-not-answers-2.ensures.answers refl) (c.carry.ensures.prepares so)

pub returns-clause-not : goal.returns-clause-not
returns-clause-not c so =
    let first = c.if-not-answers.ensures in
    let second = c.if-not-answers-2.ensures in
    astray_before c.args.own.now c.args.peer.now c.answers-2.new.other c.answers-2.new.dialler (λ k. second.other refl (first.dialler refl k)) (λ k. second.dialler refl (first.other refl k)) (c.carry.ensures.not so)
