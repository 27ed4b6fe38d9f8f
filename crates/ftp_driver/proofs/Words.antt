-- What the proofs of most functions of this drive name.
pub use Rattle.std.proofs.Common.{◌∙◌, ◌∷◌, [], refl, rules, subst, sym}
pub use Rattle.ftp_ports.proofs.Causing.{is_fault, is_spent, passes}
pub use Rattle.ftp_ports.proofs.Going.{flushed, flushes_err, goes_err, goes_then, read_fails, write_fails}
pub use Rattle.ftp_ports.proofs.Idling.{asides, breaks_told, came, came_none, ends_told, hears_first, idles_same, idles_sent, leaves, lets_go, received, receives, sends, waits}
pub use Rattle.ftp_ports.proofs.Getting.{gets_err, gets_goes, gets_then, progresses_by, progresses_lead, progresses_on, progresses_then, then_gets, then_progresses}
pub use Rattle.ftp_ports.proofs.Channels.{fills, none_had}
pub use Rattle.ftp_ports.proofs.Leading.{by_action, by_nowhere, by_then_any, fails_here, fails_lets, fails_spent, fails_then, leads_by, leads_nowhere, leads_on, leads_then}
pub use Rattle.ftp_ports.proofs.Meeting.{has_none, has_one, listens, listens_nowhere, none_answered, none_came, one_came}
pub use Rattle.ftp_ports.proofs.Outcomes.{gave_some, given_first, given_more}
pub use Rattle.ftp_ports.specs.Asking.{Came, Connected, Connects, NotCame, NotConnected, is_over}
pub use Rattle.ftp_ports.specs.Actions.{Other, Said, with_owner}
pub use Rattle.ftp_ports.specs.Driving.{Fails, Leads, LeadsBy, Quietly}
pub use Rattle.ftp_ports.specs.Channel.{IsOpen, Channel, no_channel, with_given, with_untold}
pub use Rattle.ftp_ports.specs.Machine.{Closed, held, side_of, stand_of}
pub use Rattle.ftp_ports.specs.Outcome.{in_hand}
pub use Rattle.ftp_driver.proofs.Steps.{asks, came_nothing, ends_err, leads_looked, leads_same, looked_channel, made_far, made_leads, made_none, made_on, MadeBy, turns_err, fated_channel, flushed_so, handing, leaves_flushed, TurnsBy, loses, may_leave, owes_none, owes_some, said_some, sent_fate, then_turns, turned_off, turns_lead, turns_on, turns_spent}
pub use Rattle.ftp_driver.specs.Calling.{Ends}
pub use Rattle.ftp_driver.specs.Standing.{IsKept, Why, channel_at, standing}
pub use Rattle.std.proofs.lemmas.List.{nil_from_length, take-append-le}
