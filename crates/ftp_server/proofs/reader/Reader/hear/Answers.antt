use Rattle.std.proofs.Common.{subst, arith, ◌∙◌}
use Rattle.ftp_command.specs.Line.{line_limit}
use Rattle.ftp_nvt.specs.Ear.{Hears, event_list, lent_line}
use Rattle.ftp_server.proofs.ReaderLemmas.{one_taken, steps, says, heard_on}
use Rattle.ftp_server.proofs.ShortLemmas.{ended_short}
use Rattle.ftp_server.proofs.reader.Reader.hear.Goals as goal

pub invariant_of-self : goal.invariant_of-self
invariant_of-self g c =
    let f = c.feed in let old = c.args.self.now.ear in
    let added = event_list f.result.event (lent_line f.new.self) in
    let one = one_taken f.result.taken c.args.octet (f.ensures.some (omega arith)) f.ensures.within in
    let h = subst (λ t. Hears old t added f.new.self) one f.ensures.hears in
    record { limit = h.limit ∙ c.args.self.now.limit; heard = heard_on old f.new.self c.args.octet added h c.args.self.now.heard }

pub returns-clause-step : goal.returns-clause-step
returns-clause-step g c =
    let f = c.feed in let old = c.args.self.now.ear in
    let added = event_list f.result.event (lent_line f.new.self) in
    let one = one_taken f.result.taken c.args.octet (f.ensures.some (omega arith)) f.ensures.within in
    let h = subst (λ t. Hears old t added f.new.self) one f.ensures.hears in
    steps line_limit old f.new.self c.args.octet added c.args.self.now.limit h c.args.self.now.heard

pub returns-clause-out : goal.returns-clause-out
returns-clause-out g c =
    let f = c.feed in let old = c.args.self.now.ear in
    let added = event_list f.result.event (lent_line f.new.self) in
    let one = one_taken f.result.taken c.args.octet (f.ensures.some (omega arith)) f.ensures.within in
    let h = subst (λ t. Hears old t added f.new.self) one f.ensures.hears in
    says line_limit old f.new.self c.args.octet added c.args.self.now.limit h c.args.self.now.heard

pub returns-clause-short : goal.returns-clause-short
returns-clause-short g c =
    let f = c.feed in let old = c.args.self.now.ear in
    let added = event_list f.result.event (lent_line f.new.self) in
    let one = one_taken f.result.taken c.args.octet (f.ensures.some (omega arith)) f.ensures.within in
    let h = subst (λ t. Hears old t added f.new.self) one f.ensures.hears in
    ended_short old c.args.octet f.result.event (lent_line f.new.self) c.args.self.now.limit c.args.self.now.heard
    (says line_limit old f.new.self c.args.octet added c.args.self.now.limit h c.args.self.now.heard)
