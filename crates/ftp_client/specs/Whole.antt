-- What a client is made of. Each record is its fields that are named here, and nothing else: so what it stores is what is counted of these, and numbers.
use Rattle.std.specs.Prelude.{◌≡◌}
use Rattle.ftp_client.specs.declared.client.Client.{Client}
use Rattle.ftp_client.specs.declared.counted.Counted.{Counted}
use Rattle.ftp_client_session.specs.declared.dialogue.Dialogue.{Dialogue}

-- a dialogue: the login, the hosts, the operation and how far it is, the settings, the data connection, the lines that are heard, and what is owed
abbrev pub IsWholeDialogue : {A F : Type 0} → Dialogue A F → Type 0
IsWholeDialogue d = d ≡ record {
  alloc = d.alloc;
  login = d.login;
  here = d.here;
  peer = d.peer;
  standing = d.standing;
  op = d.op;
  place = d.place;
  run = d.run;
  settings = d.settings;
  connection = d.connection;
  closing = d.closing;
  hearing = d.hearing;
  output = d.output;
  calm = d.calm;
}

-- with a count
abbrev pub IsWholeCounted : {A F : Type 0} → Counted A F → Type 0
IsWholeCounted c = (c ≡ record { dialogue = c.dialogue; refusals = c.refusals }) × IsWholeDialogue c.dialogue

-- a client: these, the line that the server said last, and what came of a transfer that was lost
abbrev pub IsWholeClient : {A F : Type 0} → Client A F → Type 0
IsWholeClient c = (c ≡ record { counted = c.counted; line = c.line; came = c.came; fit = c.fit }) × IsWholeCounted c.counted
