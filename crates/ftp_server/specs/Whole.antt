-- What a server is made of. Each record is its fields that are named here, and nothing else: so what it stores is what is counted of these, and numbers.
use Rattle.std.specs.Prelude.{◌≡◌}
use Rattle.ftp_server.specs.declared.server.Server.{Server}
use Rattle.ftp_server_session.specs.declared.session.Session.{Session}

-- a session: the tree and who uses it, what is pending, the settings, and its data connection with a transfer
abbrev pub IsWholeSession : {A T J : Type 0} → Session A T J → Type 0
IsWholeSession s = s ≡ record {
  alloc = s.alloc;
  tree = s.tree;
  access = s.access;
  root = s.root;
  rights = s.rights;
  cwd = s.cwd;
  pending = s.pending;
  settings = s.settings;
  facts = s.facts;
  only_extended = s.only_extended;
  connection = s.connection;
  closing = s.closing;
  life = s.life;
}

-- a server: its context, that session, the lines that are read, that wait and that were acted on, what is owed, and a count
abbrev pub IsWholeServer : {A T J : Type 0} → Server A T J → Type 0
IsWholeServer s = (s ≡ record {
  context = s.context;
  session = s.session;
  reader = s.reader;
  waiting = s.waiting;
  output = s.output;
  heard = s.heard;
  refusals = s.refusals;
  room = s.room;
  paths = s.paths;
  named = s.named;
}) × IsWholeSession s.session
