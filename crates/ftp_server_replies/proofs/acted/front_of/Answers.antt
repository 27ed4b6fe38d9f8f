use Rattle.std.proofs.Common.{ap, take, ◌∙◌}
use Rattle.std.proofs.lemmas.List.{take_min}
use Rattle.ftp_server_replies.proofs.acted.front_of.Goals as goal

pub returns : goal.returns
returns c =
    c.copied.ensures ∙ c.split_at.ensures.front ∙ ap (λ n. take n c.args.text.now) c.min.ensures ∙ take_min 512 c.args.text.now
