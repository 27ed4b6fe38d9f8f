-- What the event of a call says.
use Rattle.std.specs.Prelude.{ℕ, List, [], ◌∷◌}
use Rattle.ftp_nvt.specs.Lines.{NvtEvent, line, too_long, owed}
use Rattle.ftp_nvt.specs.declared.event.Event.{Event}
use Rattle.ftp_nvt.specs.declared.event.Event.TheVariants as Gives

-- what an event says, where this text is lent
abbrev pub event_list : Event → List ℕ → List NvtEvent
event_list Gives.More text = []
event_list Gives.Line text = line text ∷ []
event_list Gives.TooLong text = too_long ∷ []
event_list (Gives.Owed answer) text = owed answer ∷ []
