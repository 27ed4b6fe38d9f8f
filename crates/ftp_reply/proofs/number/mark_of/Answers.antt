use Rattle.std.proofs.Common.{ℕ, List, subst, sym}
use Rattle.ftp_reply.specs.Lines.{joined}
use Rattle.ftp_reply.specs.Values.{SaysMark}
use Rattle.ftp_reply.proofs.MarkValueLemmas.{no_mark, says_mark}
use Rattle.ftp_reply.proofs.number.mark_of.Goals as goal

pub returns-in-Some-clause-value : goal.returns-in-Some-clause-value
returns-in-Some-clause-value g c =
    let mark = c.in-Some.mark in
    sym (says_mark (joined c.args.reply.now.lines) mark (subst (λ (t : List ℕ). SaysMark t mark) c.text.ensures c.in-Some.ensures.some))

pub returns-in-None-clause-value : goal.returns-in-None-clause-value
returns-in-None-clause-value g c =
    sym (no_mark (joined c.args.reply.now.lines) (subst (λ (t : List ℕ). (mark : ℕ) → ¬ SaysMark t mark) c.text.ensures c.in-None.ensures.none))
