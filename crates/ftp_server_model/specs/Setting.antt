-- TYPE, STRU, MODE (RFC 959, section 4.1.2) and OPTS (RFC 2389, section 4; RFC 3659, section 7.9; RFC 2640 for the name UTF8).
use Rattle.std.specs.Prelude.{ℕ, Bool, List, Option, Some, None, codes, if◌then◌else◌}
use Rattle.std.specs.Str.{str_eq_ignore_ascii_case}
use Rattle.ftp_settings.specs.declared.representation.Kind.{Kind}
use Rattle.ftp_settings.specs.declared.representation.Structure.{Structure}
use Rattle.ftp_settings.specs.declared.representation.Mode.{Mode}
use Rattle.ftp_server_model.specs.Entries.{option_facts}
use Rattle.ftp_server_model.specs.View.{Session}
use Rattle.ftp_server_model.specs.Replies.{Turn, tells}
use Rattle.ftp_server_model.specs.declared.reply.FixedReply.TheVariants as Texts
use Rattle.ftp_server_model.specs.declared.reply.ReplyKind.TheVariants as Replies
use Rattle.ftp_facts.specs.declared.name.Facts.{Facts}

-- TYPE: from the next transfer on, octets go in this type (RFC 959, section 3.1.1)
abbrev pub set_kind : Kind → Session → Turn
set_kind kind s = tells Texts.TypeSet (record s { settings = record s.settings { kind = kind } })

-- STRU: the same for the structure (RFC 959, section 3.1.2)
abbrev pub set_structure : Structure → Session → Turn
set_structure structure s = tells Texts.StructureSet (record s { settings = record s.settings { structure = structure } })

-- MODE: the same for the mode (RFC 959, section 3.4)
abbrev pub set_mode : Mode → Session → Turn
set_mode mode s = tells Texts.ModeSet (record s { settings = record s.settings { mode = mode } })

-- OPTS MLST: facts are chosen (RFC 3659, section 7.9); another option is not known
abbrev pub choose : Option Facts → Session → Turn
choose (Some facts) s = (record s { facts = facts }, Replies.Chosen)
choose None s = tells Texts.BadArgument s

-- OPTS UTF8 ON, both words without case; pathnames are UTF-8 always, so it changes nothing (own choice)
abbrev pub is_utf8_on : List ℕ → Bool
is_utf8_on text = str_eq_ignore_ascii_case text (codes "UTF8 ON")

-- OPTS, by its argument (RFC 2389, section 4)
abbrev pub opts : List ℕ → Session → Turn
opts text s = if is_utf8_on text then tells Texts.Utf8Set s else choose (option_facts text) s
