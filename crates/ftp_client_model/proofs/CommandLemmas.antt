-- Each command that a client sends is short, and one at most follows before another reply is heard.
use Rattle.std.proofs.Common.{◌≡◌, ℕ, ◌+◌, ◌*◌, ◌≤◌, ◌<◌, List, [], ◌∷◌, ◌++◌, true, Option, Some, None, refl, ap, arith, length, length-append}
use Rattle.std.specs.Prelude.{codes, decimal, flat_map, if◌then◌else◌, ◌==◌}
use Rattle.std.proofs.lemmas.Bool.{cond_both}
use Rattle.ftp_command.proofs.CarriedLemmas.{carried, decimal_fits, six_fits}
use Rattle.ftp_command.specs.Line.{line_of}
use Rattle.ftp_command.specs.declared.command.Command.{Command}
use Rattle.ftp_command.specs.declared.command.Command.TheVariants as Commands
use Rattle.ftp_endpoint.specs.Written.{IsTypedHost, address_text, six_of}
use Rattle.ftp_endpoint.specs.declared.host.Host.{Host}
use Rattle.ftp_endpoint.specs.declared.host.Host.TheVariants.{V4, V6}
use Rattle.ftp_nvt.specs.Lines.{written_line, written_octet}
use Rattle.ftp_operation.specs.Operation.{can_be_sent}
use Rattle.ftp_operation.specs.declared.op.Op.{Op}
use Rattle.ftp_operation.specs.declared.op.Op.TheVariants as Ops
use Rattle.ftp_client_model.proofs.SentLemmas.{steps_have_lines}
use Rattle.ftp_client_model.specs.Dialogue.{awaits_reply, begins, goes_on, last_job, placed, sends, sends_if}
use Rattle.ftp_client_model.specs.Octets.{flow_of}
use Rattle.ftp_client_model.specs.Plan.{command_of, first_step, is_extended, next_step, own_endpoint, port_of}
use Rattle.ftp_client_model.specs.Sent.{CanSend, HasLine}
use Rattle.ftp_client_model.specs.View.{Flow, Job, Doing, View}
use Rattle.ftp_client_model.specs.declared.client.ClientLink.{ClientLink}
use Rattle.ftp_client_model.specs.declared.client.ClientLink.TheVariants as Data
use Rattle.ftp_client_model.specs.declared.client.Standing.{Standing}
use Rattle.ftp_client_model.specs.declared.client.Standing.TheVariants as Stands
use Rattle.ftp_client_model.specs.declared.client.Step.{Step}
use Rattle.ftp_client_model.specs.declared.client.Step.TheVariants as Steps
use Rattle.ftp_client_model.specs.Fit.{IsCalmAt, IsDialling, IsFit, IsListening, IsSendable, IsSoundView, IsTied, IsTypedPort, commands_next}

-- ---- how long a command is

octet_short : (octet : ℕ) → length (written_octet octet) ≤ 2
octet_short octet =
    let P : List ℕ → Type 0 = λ t. length t ≤ 2 in
    cond_both (octet == 255) (255 ∷ 255 ∷ []) (if octet == 13 then 13 ∷ 0 ∷ [] else octet ∷ []) P (λ is. omega arith)
    (λ is. cond_both (octet == 13) (13 ∷ 0 ∷ []) (octet ∷ []) P (λ is. omega arith) (λ is. omega arith))

written_twice : (text : List ℕ) → length (flat_map written_octet text) ≤ 2 * length text
written_twice [] = omega arith
written_twice (c ∷ text) = omega (arith, length-append (written_octet c) (flat_map written_octet text), octet_short c, written_twice text)

line_short : (text : List ℕ) → length (written_line text) ≤ 2 * length text + 2
line_short text = omega (arith, length-append (flat_map written_octet text) (13 ∷ 10 ∷ []), written_twice text)

abbrev pub IsShortCommand : Command (List ℕ) → Type 0
IsShortCommand c = length (written_line (line_of c)) ≤ 2200

abbrev IsShortIf : Option (Command (List ℕ)) → Type 0
IsShortIf None = Unit {0}
IsShortIf (Some c) = IsShortCommand c

pub has_line : (c : Command (List ℕ)) → HasLine c → IsShortCommand c
has_line c has = omega (arith, line_short (line_of c), (carried c has.1 has.0).1)

-- EPRT of any port
extended_short : (host : Host) (port : ℕ) → IsTypedHost host → port < 65536 → IsShortCommand (Commands.Eprt (record { host = host; port = port }))
extended_short host port typed small =
    let one : List ℕ = codes "|" ++ (decimal 1 ++ codes "|") in
    let its : List ℕ = codes "|" ++ (decimal port ++ codes "|") in
    let line = (carried (Commands.Eprt (record { host = host; port = 1 })) (typed, omega arith) (omega arith)).1 in
    omega (
      arith,
      line_short (line_of (Commands.Eprt (record { host = host; port = port }))),
      line,
      length-append (codes "EPRT") (codes " " ++ (address_text host ++ one)),
      length-append (codes " ") (address_text host ++ one),
      length-append (address_text host) one,
      length-append (codes "EPRT") (codes " " ++ (address_text host ++ its)),
      length-append (codes " ") (address_text host ++ its),
      length-append (address_text host) its,
      length-append (codes "|") (decimal port ++ codes "|"),
      length-append (decimal port) (codes "|"),
      (decimal_fits port (omega (arith, small))).short,
    )

-- PORT of any port
port_short : (host : Host) (port : ℕ) → IsTypedHost host → port < 65536 → IsShortCommand (Commands.Port (record { host = host; port = port }))
port_short (V4 octets) port typed small =
    omega (
      arith,
      line_short (line_of (Commands.Port (record { host = V4 octets; port = port }))),
      length-append (codes "PORT") (codes " " ++ six_of (V4 octets) port),
      length-append (codes " ") (six_of (V4 octets) port),
      (six_fits (V4 octets) port tt typed small).short,
    )
port_short (V6 octets) port typed small = omega (arith, line_short (line_of (Commands.Port (record { host = V6 octets; port = port }))))

port_within : (connection : ClientLink) → IsTypedPort connection → port_of connection < 65536
port_within (Data.Listening port) typed = typed
port_within Data.Free typed = omega arith
port_within Data.ListenWanted typed = omega arith
port_within (Data.Connecting endpoint) typed = omega arith
port_within (Data.Accepting port) typed = omega arith
port_within Data.Open typed = omega arith
port_within (Data.Over ending) typed = omega arith

by_line : (o : Option (Command (List ℕ))) → ((c : Command (List ℕ)) → o ≡ Some c → HasLine c) → IsShortIf o
by_line None has = tt
by_line (Some c) has = has_line c (has c refl)

step_by : (v : View) (op : Op (List ℕ)) (step : Step) → can_be_sent op ≡ true → CanSend v step → IsShortIf (command_of v op step)
step_by v op step can may = by_line (command_of v op step) (λ c is. steps_have_lines v op step c can may is)

step_short : (v : View) (op : Op (List ℕ)) (step : Step) → can_be_sent op ≡ true → IsSoundView v → IsShortIf (command_of v op step)
step_short v op Steps.Kind can k = step_by v op Steps.Kind can tt
step_short v op Steps.Structure can k = step_by v op Steps.Structure can tt
step_short v op Steps.Mode can k = step_by v op Steps.Mode can tt
step_short v op Steps.Listen can k = tt
step_short v op Steps.Port can k =
    cond_both (is_extended v op) (Commands.Eprt (own_endpoint v)) (Commands.Port (own_endpoint v)) IsShortCommand
    (λ is. extended_short v.here (port_of v.connection) k.host (port_within v.connection k.port)) (λ is. port_short v.here (port_of v.connection) k.host (port_within v.connection k.port))
step_short v op Steps.Passive can k = step_by v op Steps.Passive can tt
step_short v op Steps.Connect can k = tt
step_short v op Steps.Restart can k = step_by v op Steps.Restart can tt
step_short v op Steps.Source can k = step_by v op Steps.Source can tt
step_short v op Steps.Last can k = step_by v op Steps.Last can tt

-- ---- an operation at a step

-- the login is over, or has failed
abbrev pub IsPast : Standing → Type 0
IsPast Stands.Greeting = ⊥
IsPast Stands.User = ⊥
IsPast Stands.Pass = ⊥
IsPast Stands.Entered = Unit {0}
IsPast (Stands.Failed failure) = Unit {0}

pub calm_past : (standing : Standing) (job : Job) → IsPast standing → IsCalmAt standing job
calm_past Stands.Greeting job past = absurd past
calm_past Stands.User job past = absurd past
calm_past Stands.Pass job past = absurd past
calm_past Stands.Entered job past = tt
calm_past (Stands.Failed failure) job past = tt

-- no port and no link is wanted
abbrev pub IsLoose : ClientLink → Type 0
IsLoose Data.ListenWanted = ⊥
IsLoose (Data.Connecting endpoint) = ⊥
IsLoose connection = Unit {0}

-- so that an operation may be at a step
abbrev pub IsLooseFor : Step → ClientLink → Type 0
IsLooseFor Steps.Listen connection = Unit {0}
IsLooseFor Steps.Connect connection = IsTied connection (Doing Ops.Up Steps.Connect)
IsLooseFor step connection = IsLoose connection

pub tied_by : (connection : ClientLink) (job : Job) → IsLoose connection → IsTied connection job
tied_by Data.ListenWanted job loose = absurd loose
tied_by (Data.Connecting endpoint) job loose = absurd loose
tied_by Data.Free job loose = tt
tied_by (Data.Listening port) job loose = tt
tied_by (Data.Accepting port) job loose = tt
tied_by Data.Open job loose = tt
tied_by (Data.Over ending) job loose = tt

pub loose_by : (connection : ClientLink) (job : Job) → IsTied connection job → (IsListening job → ⊥) → (IsDialling job → ⊥) → IsLoose connection
loose_by Data.ListenWanted job tied first second = first tied
loose_by (Data.Connecting endpoint) job tied first second = second tied
loose_by Data.Free job tied first second = tt
loose_by (Data.Listening port) job tied first second = tt
loose_by (Data.Accepting port) job tied first second = tt
loose_by Data.Open job tied first second = tt
loose_by (Data.Over ending) job tied first second = tt

pub loose_for : (step : Step) (connection : ClientLink) → IsLoose connection → IsLooseFor step connection
loose_for Steps.Listen connection loose = tt
loose_for Steps.Connect connection loose = tied_by connection (Doing Ops.Up Steps.Connect) loose
loose_for Steps.Kind connection loose = loose
loose_for Steps.Structure connection loose = loose
loose_for Steps.Mode connection loose = loose
loose_for Steps.Port connection loose = loose
loose_for Steps.Passive connection loose = loose
loose_for Steps.Restart connection loose = loose
loose_for Steps.Source connection loose = loose
loose_for Steps.Last connection loose = loose

dialling : (connection : ClientLink) (op : Op (List ℕ)) → IsTied connection (Doing Ops.Up Steps.Connect) → IsTied connection (Doing op Steps.Connect)
dialling Data.ListenWanted op tied = absurd tied
dialling (Data.Connecting endpoint) op tied = tt
dialling Data.Free op tied = tt
dialling (Data.Listening port) op tied = tt
dialling (Data.Accepting port) op tied = tt
dialling Data.Open op tied = tt
dialling (Data.Over ending) op tied = tt

-- a command is sent, behind which none follows before another reply
pub sends_fits : (c : Command (List ℕ)) (v : View) → IsShortCommand c → IsSoundView v → IsSendable v.job → IsCalmAt v.standing v.job → IsTied v.connection v.job → length v.owed ≤ 1027 → commands_next v.standing v.job ≡ 0 → IsFit (sends c v)
sends_fits c v short sound can calm tied room none =
    record { sound = sound; sendable = can; calm = calm; tied = tied; room = omega (arith, length-append v.owed (written_line (line_of c)), short, room, none) }

sent_if : (o : Option (Command (List ℕ))) (v : View) → IsShortIf o → IsSoundView v → IsSendable v.job → IsCalmAt v.standing v.job → IsTied v.connection v.job → length v.owed ≤ 1027 → commands_next v.standing v.job ≡ 0 → IsFit (sends_if o v)
sent_if None v short sound can calm tied room none = record { sound = sound; sendable = can; calm = calm; tied = tied; room = omega (arith, room, none) }
sent_if (Some c) v short sound can calm tied room none = sends_fits c v short sound can calm tied room none

-- with the step of its own command
last_fits : (flow : Option Flow) (op : Op (List ℕ)) (v : View) → can_be_sent op ≡ true → IsShortIf (command_of v op Steps.Last) → IsSoundView v → IsPast v.standing → IsLoose v.connection → length v.owed ≤ 1027
    → IsFit (sends_if (command_of v op Steps.Last) (record v { job = last_job op flow }))
last_fits None op v can short sound past loose room =
    sent_if (command_of v op Steps.Last) (record v { job = last_job op None }) short sound can (calm_past v.standing (last_job op None) past) (tied_by v.connection (last_job op None) loose) room refl
last_fits (Some flow) op v can short sound past loose room =
    sent_if (command_of v op Steps.Last) (record v { job = last_job op (Some flow) }) short sound can (calm_past v.standing (last_job op (Some flow)) past) (tied_by v.connection (last_job op (Some flow)) loose) room refl

doing_fits : (op : Op (List ℕ)) (step : Step) (v : View) → awaits_reply step ≡ true → can_be_sent op ≡ true → IsSoundView v → IsPast v.standing → IsLoose v.connection → length v.owed ≤ 1027
    → IsFit (sends_if (command_of v op step) (record v { job = Doing op step }))
doing_fits op step v awaits can sound past loose room =
    sent_if (command_of v op step) (record v { job = Doing op step }) (step_short v op step can sound) sound can (calm_past v.standing (Doing op step) past) (tied_by v.connection (Doing op step) loose) room (ap (λ b. if b then 0 else 1) awaits)

pub placed_fits : (op : Op (List ℕ)) (step : Step) (v : View) → can_be_sent op ≡ true → IsSoundView v → IsPast v.standing → IsLooseFor step v.connection → length v.owed ≤ 1027 → IsFit (placed op step v)
placed_fits op Steps.Listen v can sound past loose room = record {
  sound = record { user_fits = sound.user_fits; pass_fits = sound.pass_fits; host = sound.host; sendable = sound.sendable; port = tt; reading = sound.reading; reply = sound.reply };
  sendable = can;
  calm = calm_past v.standing (Doing op Steps.Listen) past;
  tied = tt;
  room = omega (arith, room);
}
placed_fits op Steps.Last v can sound past loose room = last_fits (flow_of op) op v can (step_short v op Steps.Last can sound) sound past loose room
placed_fits op Steps.Connect v can sound past loose room = record { sound = sound; sendable = can; calm = calm_past v.standing (Doing op Steps.Connect) past; tied = dialling v.connection op loose; room = omega (arith, room) }
placed_fits op Steps.Kind v can sound past loose room = doing_fits op Steps.Kind v refl can sound past loose room
placed_fits op Steps.Structure v can sound past loose room = doing_fits op Steps.Structure v refl can sound past loose room
placed_fits op Steps.Mode v can sound past loose room = doing_fits op Steps.Mode v refl can sound past loose room
placed_fits op Steps.Port v can sound past loose room = doing_fits op Steps.Port v refl can sound past loose room
placed_fits op Steps.Passive v can sound past loose room = doing_fits op Steps.Passive v refl can sound past loose room
placed_fits op Steps.Restart v can sound past loose room = doing_fits op Steps.Restart v refl can sound past loose room
placed_fits op Steps.Source v can sound past loose room = doing_fits op Steps.Source v refl can sound past loose room

pub begins_fits : (op : Op (List ℕ)) (v : View) → can_be_sent op ≡ true → IsSoundView v → IsPast v.standing → IsLoose v.connection → length v.owed ≤ 1027 → IsFit (begins op v)
begins_fits op v can sound past loose room = placed_fits op (first_step v.settings op) v can sound past (loose_for (first_step v.settings op) v.connection loose) room

pub goes_fits : (op : Op (List ℕ)) (step : Step) (v : View) → can_be_sent op ≡ true → IsSoundView v → IsPast v.standing → IsLooseFor (next_step v.settings op step) v.connection → length v.owed ≤ 1027 → IsFit (goes_on op step v)
goes_fits op step v can sound past loose room = placed_fits op (next_step v.settings op step) v can sound past loose room
