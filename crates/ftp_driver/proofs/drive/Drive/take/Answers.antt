use Rattle.std.proofs.Common.{[], ◌∙◌, Ok, ap, subst, sym}
use Rattle.ftp_ports.specs.Halting.{fate_by}
use Rattle.ftp_ports.specs.Channel.{IsRead, with_fate}
use Rattle.ftp_ports.specs.declared.whole.Fate.TheVariants as Fates
use Rattle.ftp_driver.proofs.Words.{came, came_nothing, gets_goes, goes_then, in_hand, channel_at, sent_fate}
use Rattle.ftp_driver.proofs.drive.Drive.take.Goals as goal

pub returns-in-Ok-eq0-clause-goes : goal.returns-in-Ok-eq0-clause-goes
returns-in-Ok-eq0-clause-goes g c =
    let channel = channel_at g.S.Read.remaining g.S.Write.contents (g.P.Ports.history c.args.self.now.ports.now) c.come.new.self [] in
    goes_then _ _ _ c.ended.result (came g.K.EndCalls.machine _ channel (in_hand c.come.result c.come.new.self.room) [] c.requires.wants (c.come.ensures.moved _)
    (c.come.ensures.fate ∙ ap (λ r. fate_by r Fates.Sound) c.in-Ok-eq0.is)
    (ap (λ r. in_hand r c.come.new.self.room) c.in-Ok-eq0.is ∙ ap (λ n. in_hand (Ok n) c.come.new.self.room) c.in-Ok-eq0.field-0-test)) c.ended.ensures.goes

pub returns-in-Ok-clause-goes : goal.returns-in-Ok-clause-goes
returns-in-Ok-clause-goes g c =
    let asked = g.P.Ports.history c.args.self.now.ports.now in
    let channel = channel_at g.S.Read.remaining g.S.Write.contents asked c.come.new.self [] in
    let moved = c.come.ensures.moved asked in
    let sound = c.come.ensures.fate ∙ ap (λ r. fate_by r Fates.Sound) c.in-Ok.is in
    goes_then _ _ _ c.hand.result (came g.K.EndCalls.machine _ channel (in_hand c.come.result c.come.new.self.room) c.front.result.now c.requires.wants moved
    sound (ap (λ r. in_hand r c.come.new.self.room) c.in-Ok.is ∙ sym c.front.ensures)) (c.hand.ensures.goes channel (moved.stands ∙ c.requires.ready.0, sound))

pub returns-in-Err-Broken-clause-goes : goal.returns-in-Err-Broken-clause-goes
returns-in-Err-Broken-clause-goes g c =
    let asked = g.P.Ports.history c.args.self.now.ports.now in
    let channel = channel_at g.S.Read.remaining g.S.Write.contents asked c.come.new.self in
    goes_then _ _ _ c.broke.result (came_nothing g.K.EndCalls.machine _ (channel []) c.requires.wants
    (subst (λ r. IsRead (in_hand r c.come.new.self.room) (channel_at g.S.Read.remaining g.S.Write.contents asked c.args.self.now.data.now []) (with_fate Fates.Sound (channel (in_hand r c.come.new.self.room))))
    c.in-Err-Broken.is (c.come.ensures.moved asked)) (sent_fate c.come.result _ c.come.ensures.fate)) (gets_goes _ _ c.broke.result c.broke.ensures.gets)

pub returns-in-Err-clause-goes : goal.returns-in-Err-clause-goes
returns-in-Err-clause-goes g c =
    let asked = g.P.Ports.history c.args.self.now.ports.now in
    let channel = channel_at g.S.Read.remaining g.S.Write.contents asked c.come.new.self in
    goes_then _ _ _ c.halted.result (came_nothing g.K.EndCalls.machine _ (channel []) c.requires.wants
    (subst (λ r. IsRead (in_hand r c.come.new.self.room) (channel_at g.S.Read.remaining g.S.Write.contents asked c.args.self.now.data.now []) (with_fate Fates.Sound (channel (in_hand r c.come.new.self.room))))
    c.in-Err.is (c.come.ensures.moved asked)) (sent_fate c.come.result _ c.come.ensures.fate)) c.halted.ensures.goes
