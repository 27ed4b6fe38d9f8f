-- The report of an answer (own choice).
use Rattle.std.specs.Prelude.{ℕ, List, [], ◌∷◌, ◌++◌, length, flat_map, decimal, codes, Option, Some, None}
use Rattle.ftp_facts.specs.declared.entry.Entry.{Entry}
use Rattle.ftp_facts.specs.Entry.{entry_line}
use Rattle.ftp_facts.specs.Moment.{moment_digits}
use Rattle.ftp_operation.specs.declared.answer.Answer.{Answer}
use Rattle.ftp_operation.specs.declared.answer.Answer.TheVariants as Answers
use Rattle.tool_script.specs.Field.{field_text}

-- the end of a line
abbrev pub feed : ℕ
feed = 10

-- a line: a word, and what stands behind it
abbrev pub said_line : List ℕ → List ℕ → List ℕ
said_line word text = word ++ (text ++ feed ∷ [])

-- the line of an entry in a list
abbrev pub line_in_list : {A : Type 0} → Entry A → List ℕ
line_in_list entry = said_line (codes "  ") (entry_line entry)

-- the line of a name in a list
abbrev pub name_line : List ℕ → List ℕ
name_line name = said_line (codes "  ") name

-- the last restart marker of a broken transfer, where there was one
abbrev pub mark_text : Option ℕ → List ℕ
mark_text None = []
mark_text (Some mark) = codes " mark " ++ decimal mark

-- the report of an answer, with its line ends
abbrev pub report : {A : Type 0} → Answer A → List ℕ
report Answers.Done = said_line (codes "done") []
report (Answers.Path text) = said_line (codes "path ") (field_text text)
report (Answers.Octets octets) = said_line (codes "octets ") (field_text octets)
report (Answers.Number number) = said_line (codes "number ") (decimal number)
report (Answers.Stamp moment) = said_line (codes "moment ") (moment_digits moment.seconds)
report (Answers.Entry entry) = said_line (codes "entry ") (entry_line entry)
report (Answers.Entries entries) = said_line (codes "entries ") (decimal (length entries.items)) ++ flat_map line_in_list entries.items
report (Answers.Names names) = said_line (codes "names ") (decimal (length names.items)) ++ flat_map name_line names.items
report (Answers.Refused code) = said_line (codes "refused ") (decimal code)
report Answers.BadOperation = said_line (codes "bad") []
report (Answers.Broken got mark) = said_line (codes "broken ") (field_text got ++ mark_text mark)
report Answers.Unopened = said_line (codes "unopened") []
report Answers.Foreign = said_line (codes "foreign") []
report Answers.Lost = said_line (codes "lost") []
report Answers.Strange = said_line (codes "strange") []
report Answers.Memory = said_line (codes "memory") []
