-- What stands after a call in which a growth was refused: the answer Memory for the operation under way and for every later one.
-- Each relation holds in the place of the call's function where the count of refused growths changed in the call (the count moves
-- on by wrapping). After that every later call is the call's function again.
use Rattle.std.specs.Prelude.{◌≡◌, ◌≢◌, ◌==◌, ◌&&◌, ℕ, ◌+◌, ◌≤◌, List, take, Option, Some, None, if◌then◌else◌}
use Rattle.ftp_operation.specs.Operation.{can_be_sent}
use Rattle.ftp_operation.specs.declared.op.Op.{Op}
use Rattle.ftp_client_model.specs.Calls.{hears, receives, begun, is_sound, unless_closing, MayHearFront, MayReceiveFront}
use Rattle.ftp_client_model.specs.Tries.{OverBreaks, Run, run_of, first_try}
use Rattle.ftp_client_model.specs.View.{View, Waiting, fails}
use Rattle.ftp_client_model.specs.declared.client.Ending.TheVariants as Endings
use Rattle.ftp_client_model.specs.declared.client.Failure.TheVariants as Failures
use Rattle.ftp_client_model.specs.declared.client.ClientLink.{ClientLink}
use Rattle.ftp_client_model.specs.declared.client.ClientLink.TheVariants as Data

-- the client is short of memory: it has failed for good
abbrev pub short : View → View
short v = fails Failures.Memory v

-- `hear` ended short: the octets before one were heard, each of which could be when its turn came, and at that one a growth was
-- refused; that octet counts as taken or not
pub record HearsShort (old : View) (piece : List ℕ) (count : ℕ) (new : View) : Type 0 where
  pub taken : ℕ
  pub least : taken ≤ count
  pub most : count ≤ taken + 1
  pub may : MayHearFront old piece taken
  pub is : new ≡ short (hears old (take taken piece))

-- so did `data_hear`
pub record ReceivesShort (old : View) (piece : List ℕ) (count : ℕ) (new : View) : Type 0 where
  pub taken : ℕ
  pub least : taken ≤ count
  pub most : count ≤ taken + 1
  pub may : MayReceiveFront old piece taken
  pub is : new ≡ short (receives old (take taken piece))

-- of `start` and `upload`: only of an operation that can be sent, by a client that has not failed; else it is as if no growth had
-- been refused
abbrev pub begun_short : Option Run → Op (List ℕ) → View → View
begun_short run op v = if can_be_sent op && is_sound v.standing then short (record v { job = Waiting op; run = run }) else begun run op v

-- of `start`
abbrev pub starts_short : Op (List ℕ) → View → View
starts_short op v = begun_short None op v

-- of `upload`
abbrev pub uploads_short : OverBreaks → View → View
uploads_short u v = begun_short (Some (run_of u)) (first_try u) v

-- of the calls that send a command where the client waits for them: its data connection is where it was told to be; a call that
-- the client has no use for changes nothing
abbrev pub port_short : ClientLink → ℕ → View → View
port_short Data.ListenWanted port v = short (record v { connection = Data.Listening port })
port_short connection port v = v

-- of `listening`
abbrev pub listening_short : ℕ → View → View
listening_short port v = unless_closing (λ v. port_short v.connection port v) v

-- the link that was dialled or awaited is open, and the command behind it could not be made
abbrev pub opened_short : ClientLink → View → View
opened_short (Data.Connecting endpoint) v = short (record v { connection = Data.Open })
opened_short (Data.Accepting port) v = short (record v { connection = Data.Open })
opened_short connection v = v

-- of `data_opened`
abbrev pub data_opened_short : View → View
data_opened_short v = unless_closing (λ v. opened_short v.connection v) v

-- of the end of the data connection, where the entries or names of a listing are made: the link is gone
abbrev pub over_short : ClientLink → View → View
over_short Data.Open v = short (record v { connection = Data.Over Endings.Clean })
over_short connection v = v

-- of `data_end`
abbrev pub data_end_short : View → View
data_end_short v = unless_closing (λ v. over_short v.connection v) v

-- of `data_fault`: the link is gone
abbrev pub data_fault_short : View → View
data_fault_short v = unless_closing (λ v. over_short v.connection v) v

-- of the calls that tell that no port and no link is had: an upload over breaks tries again, and its next command could not be made
abbrev pub no_port_short : ClientLink → View → View
no_port_short Data.ListenWanted v = short v
no_port_short connection v = v

-- of `listen_refused`
abbrev pub listen_refused_short : View → View
listen_refused_short v = unless_closing (λ v. no_port_short v.connection v) v

-- of `port_told`
abbrev pub port_told_short : ℕ → View → View
port_told_short port v = if port == 0 then listen_refused_short v else listening_short port v

-- of a link that was dialled or awaited
abbrev pub unopened_short : ClientLink → View → View
unopened_short (Data.Connecting endpoint) v = short v
unopened_short (Data.Accepting port) v = short v
unopened_short connection v = v

-- of `data_refused`
abbrev pub data_refused_short : View → View
data_refused_short v = unless_closing (λ v. unopened_short v.connection v) v

-- ---- a call's clause

-- a client as a call finds and leaves it: what it holds, and how many growths were refused to it; the count moves on by wrapping
pub record Client : Type 0 where
  pub view : View
  pub refusals : ℕ

-- a call that takes no memory: the client holds this, and the count stays
abbrev pub Holds : (old new : Client) → View → Type 0
Holds old new view = (new.view ≡ view) × (new.refusals ≡ old.refusals)

-- a call that may take some: the count stayed, and the client holds the first; or it changed, and the client holds the second
abbrev pub HoldsIfRoom : (old new : Client) → (view short : View) → Type 0
HoldsIfRoom old new view short = (new.refusals ≡ old.refusals → new.view ≡ view) × (new.refusals ≢ old.refusals → new.view ≡ short)

-- `hear` took so many octets of a piece, each of which could be taken when its turn came
abbrev pub HearsIfRoom : (old new : Client) → (piece : List ℕ) → (count : ℕ) → Type 0
HearsIfRoom old new piece count =
    (new.refusals ≡ old.refusals → (new.view ≡ hears old.view (take count piece)) × MayHearFront old.view piece count)
    × (new.refusals ≢ old.refusals → HearsShort old.view piece count new.view)

-- so did `data_hear`
abbrev pub ReceivesIfRoom : (old new : Client) → (piece : List ℕ) → (count : ℕ) → Type 0
ReceivesIfRoom old new piece count =
    (new.refusals ≡ old.refusals → (new.view ≡ receives old.view (take count piece)) × MayReceiveFront old.view piece count)
    × (new.refusals ≢ old.refusals → ReceivesShort old.view piece count new.view)
