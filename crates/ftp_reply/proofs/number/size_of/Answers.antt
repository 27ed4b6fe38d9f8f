use Rattle.std.proofs.Common.{ℕ, List, subst, sym}
use Rattle.ftp_endpoint.specs.Number.{IsNumber, SaysNumber}
use Rattle.ftp_facts.proofs.NumberLemmas.{no_number, says_number}
use Rattle.ftp_reply.specs.Lines.{joined}
use Rattle.ftp_reply.proofs.number.size_of.Goals as goal

pub returns-in-Some-clause-value : goal.returns-in-Some-clause-value
returns-in-Some-clause-value g c =
    let size = c.in-Some.size in
    sym (says_number (joined c.args.reply.now.lines) size (subst (λ (t : List ℕ). SaysNumber t size) c.text.ensures c.in-Some.ensures.says))

pub returns-in-None-clause-value : goal.returns-in-None-clause-value
returns-in-None-clause-value g c =
    sym (no_number (joined c.args.reply.now.lines) (subst (λ (t : List ℕ). ¬ IsNumber t) c.text.ensures c.in-None.ensures.says))
