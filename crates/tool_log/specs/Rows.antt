-- Worked rows of both formats. Each is a theorem that computes; moments are as `date -u` tells them.
use Rattle.std.specs.Prelude.{◌≡◌, [], ◌∷◌, Some, None, codes}
use Rattle.ftp_command.specs.declared.verb.Verb.TheVariants as Verbs
use Rattle.tool_log.specs.declared.entry.DataClose.TheVariants as Closes
use Rattle.tool_log.specs.declared.xferlog.Completion.TheVariants as Completions
use Rattle.tool_log.specs.declared.xferlog.Direction.TheVariants as Directions
use Rattle.tool_log.specs.Json.{code_json, lost_member, member, reason_member, stamped, string, verb_json}
use Rattle.tool_log.specs.Xferlog.{access_mode, completion_of, dated, direction_of, text_field, transfer_time, weekday_word}

-- quotation marks, control characters, characters past US-ASCII and past U+FFFF, and octets that are not UTF-8
abbrev pub StringsWritten : Type 0
StringsWritten =
    (string (codes "a \"b\" \\c") ≡ codes "\"a \\\"b\\\" \\\\c\"")
    × (string (9 ∷ 10 ∷ 27 ∷ 127 ∷ []) ≡ codes "\"\\u0009\\u000a\\u001b\\u007f\"")
    × (string (0xC3 ∷ 0xA9 ∷ []) ≡ codes "\"\\u00e9\"")
    × (string (0xE2 ∷ 0x82 ∷ 0xAC ∷ []) ≡ codes "\"\\u20ac\"")
    × (string (0xF0 ∷ 0x9F ∷ 0x98 ∷ 0x80 ∷ []) ≡ codes "\"\\ud83d\\ude00\"")
    × (string (97 ∷ 0xFF ∷ 98 ∷ 0xC3 ∷ []) ≡ codes "\"a\\ufffdb\\ufffd\"")
    × (verb_json [] ≡ codes "null")
    × (verb_json (codes "STOR") ≡ codes "\"STOR\"")
    × (code_json None ≡ codes "null")
    × (member (codes "code") (code_json None) ≡ codes ",\"code\":null")
    × (lost_member 0 ≡ [])
    × (reason_member [] ≡ [])
    × (reason_member (codes "full") ≡ codes ",\"reason\":\"full\"")

-- moments
abbrev pub TimesWritten : Type 0
TimesWritten =
    (stamped (codes "20261201131650") ≡ codes "2026-12-01T13:16:50Z")
    × (dated (codes "20261201131650") ≡ codes "Dec  1 13:16:50 2026")
    × (dated (codes "20000229235959") ≡ codes "Feb 29 23:59:59 2000")
    × (weekday_word 0 ≡ codes "Thu")
    × (weekday_word 11_016 ≡ codes "Tue")
    × (weekday_word 20_788 ≡ codes "Tue")

-- spaces and control characters, a text that is missing, seconds, and users
abbrev pub FieldsWritten : Type 0
FieldsWritten =
    (text_field (codes "a b.txt") ≡ codes "a_b.txt")
    × (text_field (9 ∷ 10 ∷ 127 ∷ []) ≡ codes "___")
    × (text_field (0xC3 ∷ 0xA9 ∷ []) ≡ 0xC3 ∷ 0xA9 ∷ [])
    × (text_field [] ≡ codes "-")
    × (transfer_time 0 ≡ 1)
    × (transfer_time 1_999 ≡ 1)
    × (transfer_time 2_000 ≡ 2)
    × (access_mode (codes "anonymous") ≡ codes "a")
    × (access_mode (codes "lab") ≡ codes "r")
    × (access_mode [] ≡ codes "r")

-- which verbs move a file, and which codes say that all of it went
abbrev pub TransfersTold : Type 0
TransfersTold =
    (direction_of (Some Verbs.Retr) ≡ Some Directions.Out)
    × (direction_of (Some Verbs.Stor) ≡ Some Directions.In)
    × (direction_of (Some Verbs.Appe) ≡ Some Directions.In)
    × (direction_of (Some Verbs.List) ≡ None)
    × (direction_of (Some Verbs.Dele) ≡ None)
    × (direction_of None ≡ None)
    × (completion_of (Some 226) Closes.Ended ≡ Completions.Complete)
    × (completion_of (Some 226) Closes.Reset ≡ Completions.Incomplete)
    × (completion_of (Some 426) Closes.Ended ≡ Completions.Incomplete)
    × (completion_of None Closes.Ended ≡ Completions.Incomplete)
