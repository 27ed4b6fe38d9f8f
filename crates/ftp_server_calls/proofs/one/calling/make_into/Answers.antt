use Rattle.std.proofs.Common.{◌∙◌, ap, refl, sym, vec_len}
use Rattle.ftp_server_model.specs.Play.{ControlOut, DataHear, DataOut, Hear, Nothing, Took, Wanted}
use Rattle.ftp_server_calls.proofs.one.CallLemmas.{by_cue}
use Rattle.ftp_server_calls.specs.one.Cues.{cue_of, gift_of}
use Rattle.ftp_server_calls.specs.one.Making.{room_of}
use Rattle.ftp_server_calls.proofs.one.calling.make_into.Goals as goal

pub returns-in-Clock : goal.returns-in-Clock
returns-in-Clock g c =
    let server = g.S.Far.server in let old = server c.args.server.now in let new = server c.clock.new.self in
    λ course. by_cue (cue_of c.args.cue.now) _ Nothing old new (ap cue_of c.in-Clock.is) (refl, c.clock.ensures.acts)

pub returns-in-ControlEnd : goal.returns-in-ControlEnd
returns-in-ControlEnd g c =
    let server = g.S.Far.server in let old = server c.args.server.now in let new = server c.control_end.new.self in
    λ course. by_cue (cue_of c.args.cue.now) _ Nothing old new (ap cue_of c.in-ControlEnd.is) (refl, c.control_end.ensures.acts)

pub returns-in-Listening : goal.returns-in-Listening
returns-in-Listening g c =
    let server = g.S.Far.server in let old = server c.args.server.now in let new = server c.listening.new.self in
    λ course. by_cue (cue_of c.args.cue.now) _ Nothing old new (ap cue_of c.in-Listening.is) (refl, c.listening.ensures.acts)

pub returns-in-ListenRefused : goal.returns-in-ListenRefused
returns-in-ListenRefused g c =
    let server = g.S.Far.server in let old = server c.args.server.now in let new = server c.listen_refused.new.self in
    λ course. by_cue (cue_of c.args.cue.now) _ Nothing old new (ap cue_of c.in-ListenRefused.is) (refl, c.listen_refused.ensures.acts)

pub returns-in-DataOpened : goal.returns-in-DataOpened
returns-in-DataOpened g c =
    let server = g.S.Far.server in let old = server c.args.server.now in let new = server c.data_opened.new.self in
    λ course. by_cue (cue_of c.args.cue.now) _ Nothing old new (ap cue_of c.in-DataOpened.is) (refl, c.data_opened.ensures.acts)

pub returns-in-DataRefused : goal.returns-in-DataRefused
returns-in-DataRefused g c =
    let server = g.S.Far.server in let old = server c.args.server.now in let new = server c.data_refused.new.self in
    λ course. by_cue (cue_of c.args.cue.now) _ Nothing old new (ap cue_of c.in-DataRefused.is) (refl, c.data_refused.ensures.acts)

pub returns-in-DataEnd : goal.returns-in-DataEnd
returns-in-DataEnd g c =
    let server = g.S.Far.server in let old = server c.args.server.now in let new = server c.data_end.new.self in
    λ course. by_cue (cue_of c.args.cue.now) _ Nothing old new (ap cue_of c.in-DataEnd.is) (refl, c.data_end.ensures.acts)

pub returns-in-DataFault : goal.returns-in-DataFault
returns-in-DataFault g c =
    let server = g.S.Far.server in let old = server c.args.server.now in let new = server c.data_fault.new.self in
    λ course. by_cue (cue_of c.args.cue.now) _ Nothing old new (ap cue_of c.in-DataFault.is) (refl, c.data_fault.ensures.acts)

pub returns-in-DataClosed : goal.returns-in-DataClosed
returns-in-DataClosed g c =
    let server = g.S.Far.server in let old = server c.args.server.now in let new = server c.data_closed.new.self in
    λ course. by_cue (cue_of c.args.cue.now) _ Nothing old new (ap cue_of c.in-DataClosed.is) (refl, c.data_closed.ensures.acts)

pub returns-in-Hear : goal.returns-in-Hear
returns-in-Hear g c =
    let server = g.S.Far.server in let old = server c.args.server.now in let new = server c.hear.new.self in
    λ course. by_cue (cue_of c.args.cue.now) _ (Took c.hear.result) old new (ap cue_of c.in-Hear.is ∙ ap Hear (sym c.as_slice.ensures.value))
    (c.hear.result, refl, record { within = c.hear.ensures.within; took = c.hear.ensures.took; some = c.hear.ensures.some; most = c.hear.ensures.most })

pub returns-in-DataHear : goal.returns-in-DataHear
returns-in-DataHear g c =
    let server = g.S.Far.server in let old = server c.args.server.now in let new = server c.data_hear.new.self in
    λ course. by_cue (cue_of c.args.cue.now) _ (Took c.data_hear.result) old new (ap cue_of c.in-DataHear.is ∙ ap DataHear (sym c.as_slice-in-DataHear.ensures.value))
    (c.data_hear.result, refl, record { within = c.data_hear.ensures.within; took = c.data_hear.ensures.took; some = c.data_hear.ensures.some; most = c.data_hear.ensures.most })

pub returns-in-ControlOut : goal.returns-in-ControlOut
returns-in-ControlOut g c =
    let server = g.S.Far.server in let old = server c.args.server.now in let new = server c.control_out.new.server in
    λ course. by_cue (cue_of c.args.cue.now) (ControlOut (vec_len c.args.room)) (gift_of c.control_out.result) old new
    (ap cue_of c.in-ControlOut.is ∙ ap ControlOut (sym (c.requires ∙ ap (λ held. room_of (cue_of held)) c.in-ControlOut.is))) c.control_out.ensures

pub returns-in-DataOut : goal.returns-in-DataOut
returns-in-DataOut g c =
    let server = g.S.Far.server in let old = server c.args.server.now in let new = server c.data_out.new.server in
    λ course. by_cue (cue_of c.args.cue.now) (DataOut (vec_len c.args.room)) (gift_of c.data_out.result) old new
    (ap cue_of c.in-DataOut.is ∙ ap DataOut (sym (c.requires ∙ ap (λ held. room_of (cue_of held)) c.in-DataOut.is))) (c.data_out.ensures course)

pub returns-in-AsksWants : goal.returns-in-AsksWants
returns-in-AsksWants g c =
    let server = g.S.Far.server in let old = server c.args.server.now in
    λ course. by_cue (cue_of c.args.cue.now) _ (Wanted c.wants.result) old old (ap cue_of c.in-AsksWants.is) (ap Wanted c.wants.ensures, refl)
