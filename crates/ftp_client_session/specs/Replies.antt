-- What is left to do behind an octet of the control connection.
use Rattle.std.specs.Prelude.{Option, None, Some}
use Rattle.ftp_client_model.specs.Dialogue.{answered}
use Rattle.ftp_client_model.specs.View.{View}
use Rattle.ftp_reply.specs.declared.reply.Reply.{Reply}

-- the reply that ends with it is answered, where there is one
abbrev pub reply_answered : {A : Type 0} → Option (Reply A) → View → View
reply_answered None v = v
reply_answered (Some reply) v = answered reply.code reply.lines v
