-- How a server that is held is seen by its definitions.
use Rattle.ftp_nvt.specs.Fold.{ear_of}
use Rattle.ftp_tree.specs.Change.{Failures, NoStray}
use Rattle.ftp_tree.specs.Tree.{Table}
use Rattle.ftp_server_session.specs.Session.{context_of, session_of}
use Rattle.ftp_server_model.specs.Failing.{Counts}
use Rattle.ftp_server_model.specs.Far.{Server}
use Rattle.ftp_server_model.specs.View.{Transfer, View}
use Rattle.ftp_server.specs.declared.server.Server.{Server as Held}

-- what it holds, by how its tree and its transfer are seen
abbrev pub view_of : {A T J : Type 0} → (T → Table) → (J → Transfer) → Held A T J → View
view_of table view server = record {
  context = context_of server.context;
  session = session_of table view server.session;
  ear = ear_of server.reader.ear;
  waiting = server.waiting;
  owed = server.output;
}

-- the two counts
abbrev pub counts_of : {A T J : Type 0} → (T → Failures) → Held A T J → Counts
counts_of failures server = record { refusals = server.refusals; failures = failures server.session.tree }

-- the same, and the two counts beside it
abbrev pub server_of : {A T J : Type 0} → (T → Table) → (T → Failures) → (J → Transfer) → Held A T J → Server
server_of table failures view server = record {
  view = view_of table view server;
  counts = counts_of failures server;
}

-- in a call the device of its tree did not stray
abbrev pub OnCourse : {A T J : Type 0} → (T → Failures) → (old new : Held A T J) → Type 0
OnCourse failures old new = NoStray (failures old.session.tree) (failures new.session.tree)
