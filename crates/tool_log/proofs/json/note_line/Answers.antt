use Rattle.std.proofs.Common.{◌≡◌, ◌∙◌, IfOk, ap, length, subst}
use Rattle.tool_log.specs.Json.{note_json, told_front}
use Rattle.tool_log.proofs.json.note_line.Goals as goal

pub returns : goal.returns
returns c =
    subst (λ front. IfOk c.whole_note-2.result (λ line. line.items ≡ note_json c.args.head front))
    (c.told_front.ensures ∙ ap (λ line. told_front c.args.text.now (length line) c.args.most) (c.as_slice.ensures.value ∙ c.in_ok-line.ensures))
    c.whole_note-2.ensures
