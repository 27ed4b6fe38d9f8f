use Rattle.std.proofs.Common.{◌≡◌, ◌++◌, ℕ, List, take, true}
use Rattle.ftp_server.specs.Server.{view_of}
use Rattle.ftp_server_model.specs.Machine.{IsReading, Reading}
use Rattle.tool_dialogue.specs.Dialogue.{talk_of, talks}
use Rattle.tool_dialogue.specs.Free.{IsReadyForLine}
use Rattle.tool_dialogue.specs.Short.{Talks}
use Rattle.tool_dialogue.proofs.answers.Answers.hear.Given as goal

abbrev pub invariant-loop-octet : goal.invariant-loop-octet
invariant-loop-octet g l =
    let view = view_of g.T.Tree.table g.J.ServerTransfer.view in
    record {
      free : IsReadyForLine (view l.server);
      calm : l.self.calm ≡ true → l.fn.self.calm ≡ true;
      short : (read : Reading) → IsReading read → (before : List ℕ)
          → Talks read (talk_of (view l.fn.server) (before ++ l.fn.self.text.items) l.fn.self.refused) (take l.octet-index l.piece)
          (talk_of (view l.server) (before ++ l.self.text.items) l.self.refused);
      talks : l.self.calm ≡ true → (read : Reading) → IsReading read → (before : List ℕ)
          → talk_of (view l.server) (before ++ l.self.text.items) l.self.refused
          ≡ talks read (talk_of (view l.fn.server) (before ++ l.fn.self.text.items) l.fn.self.refused) (take l.octet-index l.piece);
    }
