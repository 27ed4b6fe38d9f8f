-- The fixed replies of the server: each a code and a text (the codes by RFC 959, section 4.2; RFC 2389, section 4; RFC 2428,
-- section 3; the texts are own choices).
use Rattle.std.specs.Prelude.{ℕ, List, codes}
use Rattle.ftp_server_model.specs.declared.reply.FixedReply.{FixedReply}
use Rattle.ftp_server_model.specs.declared.reply.FixedReply.TheVariants as Texts

-- the code of a fixed reply
abbrev pub fixed_reply_code : FixedReply → ℕ
fixed_reply_code Texts.Ready = 220
fixed_reply_code Texts.Unknown = 500
fixed_reply_code Texts.LineTooLong = 500
fixed_reply_code Texts.BadArgument = 501
fixed_reply_code Texts.NotImplemented = 502
fixed_reply_code Texts.BadSequence = 503
fixed_reply_code Texts.BadParameter = 504
fixed_reply_code Texts.Protocol = 522
fixed_reply_code Texts.OnlyIpv4 = 522
fixed_reply_code Texts.OnlyIpv6 = 522
fixed_reply_code Texts.NotLoggedIn = 530
fixed_reply_code Texts.PasswordNeeded = 331
fixed_reply_code Texts.LoggedIn = 230
fixed_reply_code Texts.LoginRefused = 530
fixed_reply_code Texts.NotNeeded = 202
fixed_reply_code Texts.Done = 250
fixed_reply_code Texts.NewName = 350
fixed_reply_code Texts.Refused = 550
fixed_reply_code Texts.NotAllowed = 550
fixed_reply_code Texts.NameRefused = 553
fixed_reply_code Texts.NoRoom = 452
fixed_reply_code Texts.TooMuch = 552
fixed_reply_code Texts.Opens = 150
fixed_reply_code Texts.Complete = 226
fixed_reply_code Texts.NoConnection = 425
fixed_reply_code Texts.Broken = 426
fixed_reply_code Texts.LocalFault = 451
fixed_reply_code Texts.AbortDone = 226
fixed_reply_code Texts.TypeSet = 200
fixed_reply_code Texts.StructureSet = 200
fixed_reply_code Texts.ModeSet = 200
fixed_reply_code Texts.Utf8Set = 200
fixed_reply_code Texts.Fine = 200
fixed_reply_code Texts.EndpointTaken = 200
fixed_reply_code Texts.OnlyExtended = 200
fixed_reply_code Texts.System = 215
fixed_reply_code Texts.Help = 214
fixed_reply_code Texts.Serving = 211
fixed_reply_code Texts.Goodbye = 221

-- its text
abbrev pub text_of : FixedReply → List ℕ
text_of Texts.Ready = codes "Ready"
text_of Texts.Unknown = codes "Unknown command"
text_of Texts.LineTooLong = codes "Line too long"
text_of Texts.BadArgument = codes "Bad argument"
text_of Texts.NotImplemented = codes "Not implemented"
text_of Texts.BadSequence = codes "Bad sequence"
text_of Texts.BadParameter = codes "Parameter not implemented"
text_of Texts.Protocol = codes "Network protocol not supported, use (1,2)"
text_of Texts.OnlyIpv4 = codes "Network protocol not supported, use (1)"
text_of Texts.OnlyIpv6 = codes "Network protocol not supported, use (2)"
text_of Texts.NotLoggedIn = codes "Not logged in"
text_of Texts.PasswordNeeded = codes "Password needed"
text_of Texts.LoggedIn = codes "Logged in"
text_of Texts.LoginRefused = codes "Login refused"
text_of Texts.NotNeeded = codes "Not needed"
text_of Texts.Done = codes "Done"
text_of Texts.NewName = codes "Ready for the new name"
text_of Texts.Refused = codes "Refused"
text_of Texts.NotAllowed = codes "The account may not do that"
text_of Texts.NameRefused = codes "Name refused"
text_of Texts.NoRoom = codes "No room"
text_of Texts.TooMuch = codes "Too much"
text_of Texts.Opens = codes "Opening data connection"
text_of Texts.Complete = codes "Transfer complete"
text_of Texts.NoConnection = codes "No data connection"
text_of Texts.Broken = codes "Transfer broken"
text_of Texts.LocalFault = codes "Local fault"
text_of Texts.AbortDone = codes "Abort done"
text_of Texts.TypeSet = codes "Type set"
text_of Texts.StructureSet = codes "Structure set"
text_of Texts.ModeSet = codes "Mode set"
text_of Texts.Utf8Set = codes "UTF8 set"
text_of Texts.Fine = codes "Ok"
text_of Texts.EndpointTaken = codes "Endpoint taken"
text_of Texts.OnlyExtended = codes "Only EPSV from now on"
text_of Texts.System = codes "UNIX Type: L8"
text_of Texts.Help = codes "See RFC 959, RFC 2428 and RFC 3659"
text_of Texts.Serving = codes "Serving"
text_of Texts.Goodbye = codes "Goodbye"
