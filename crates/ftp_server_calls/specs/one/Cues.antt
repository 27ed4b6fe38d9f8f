-- Calls and what they give, as the definitions of the server have them.
use Rattle.std.specs.Prelude.{List, map}
use Rattle.ftp_server_model.specs.Play.{Cue, Clock, Hear, ControlOut, ControlEnd, Listening, ListenRefused, DataOpened, DataRefused, DataHear, DataOut, DataEnd, DataFault, DataClosed, AsksWants, Gift, Nothing, Took, Octets, Wanted}
use Rattle.ftp_server_calls.specs.declared.one.cue.Cue.{Cue as Held}
use Rattle.ftp_server_calls.specs.declared.one.cue.Cue.TheVariants as Cues
use Rattle.ftp_server_calls.specs.declared.one.cue.Gift.{Gift as Given}
use Rattle.ftp_server_calls.specs.declared.one.cue.Gift.TheVariants as Gifts

-- a call
abbrev pub cue_of : {A : Type 0} → Held A → Cue
cue_of (Cues.Clock moment) = Clock moment.seconds
cue_of (Cues.Hear octets) = Hear octets.items
cue_of (Cues.ControlOut room) = ControlOut room
cue_of Cues.ControlEnd = ControlEnd
cue_of (Cues.Listening port) = Listening port
cue_of Cues.ListenRefused = ListenRefused
cue_of (Cues.DataOpened host) = DataOpened host
cue_of Cues.DataRefused = DataRefused
cue_of (Cues.DataHear octets) = DataHear octets.items
cue_of (Cues.DataOut room) = DataOut room
cue_of Cues.DataEnd = DataEnd
cue_of Cues.DataFault = DataFault
cue_of Cues.DataClosed = DataClosed
cue_of Cues.AsksWants = AsksWants

-- what it gives
abbrev pub gift_of : {A : Type 0} → Given A → Gift
gift_of Gifts.Nothing = Nothing
gift_of (Gifts.Took count) = Took count
gift_of (Gifts.Octets octets) = Octets octets.items
gift_of (Gifts.Wanted wants) = Wanted wants

-- the same of lists
abbrev pub cues_of : {A : Type 0} → List (Held A) → List Cue
cues_of cues = map cue_of cues

abbrev pub gifts_of : {A : Type 0} → List (Given A) → List Gift
gifts_of gifts = map gift_of gifts
