use Rattle.std.proofs.Common.{◌++◌, ◌∙◌, ap, sym}
use Rattle.ftp_direct.proofs.PutLemmas.{put_by, put_refused_by}
use Rattle.ftp_direct.proofs.files.put_behind.Goals as goal

pub returns-in-Ok-put-clause-answer : goal.returns-in-Ok-put-clause-answer
returns-in-Ok-put-clause-answer g c = λ cwd.
    let came = c.in_ok-push.ensures.ok ∙ ap (λ octets. octets ++ c.as_slice.result.now) c.in-Ok-begin.ensures.none ∙ c.as_slice.ensures in
    let begun = c.in-Ok-begin.ensures.done in
    put_by _ _ _ c.args.root.now c.args.path.now cwd c.args.kept _ c.args.octets.now c.args.moment.seconds _ _ _ c.requires.fit c.requires.within came begun.0 begun.1 c.in-Ok-put.ensures.done c.in-Ok-put.ensures.told

pub returns-in-Err-put-clause-answer : goal.returns-in-Err-put-clause-answer
returns-in-Err-put-clause-answer g c = λ cwd.
    let came = c.in_ok-push.ensures.ok ∙ ap (λ octets. octets ++ c.as_slice.result.now) c.in-Ok-begin.ensures.none ∙ c.as_slice.ensures in
    let begun = c.in-Ok-begin.ensures.done in
    let room = c.in-Ok.ensures.room in
    put_refused_by c.refused-in-Err-put.result _ _ _ _ c.args.root.now c.args.path.now cwd c.args.kept c.in-Ok.room _ c.args.octets.now _ _ _ c.requires.within came begun.0 begun.1 room.0 room.1
    (sym c.has_room.ensures ∙ c.if-not-has_room.false) c.refused-in-Err-put.ensures.said c.refused-in-Err-put.ensures.other c.in-Err-put.ensures.refused c.in-Err-put.ensures.told _
