-- The words that begin a line of a script (own choice).
use Rattle.std.specs.Prelude.{ℕ, Bool, List, Option, Some, None, nat_eq, codes, if◌then◌else◌}
use Rattle.std.specs.Cmp.Lexicographic.{pointwise}
use Rattle.ftp_operation.specs.declared.op.ListVerb.{ListVerb}
use Rattle.ftp_operation.specs.declared.op.ListVerb.TheVariants as Lists
use Rattle.tool_script.specs.declared.verb.Alone.TheVariants.{Where, Up}
use Rattle.tool_script.specs.declared.verb.OnPath.TheVariants.{ChangeDir, MakeDir, RemoveDir, Delete, Modified, Facts}
use Rattle.tool_script.specs.declared.verb.Taking.TheVariants.{Get, Size, Entries, Names}
use Rattle.tool_script.specs.declared.verb.PartVerb.TheVariants.{GetFrom, Peek}
use Rattle.tool_script.specs.declared.verb.Giving.TheVariants.{Put, Append}
use Rattle.tool_script.specs.declared.verb.ScriptVerb.{ScriptVerb}
use Rattle.tool_script.specs.declared.verb.ScriptVerb.TheVariants as verbs

-- the word of a verb
abbrev pub word_of : ScriptVerb → List ℕ
word_of (verbs.Alone Where) = codes "where"
word_of (verbs.Alone Up) = codes "up"
word_of (verbs.OnPath ChangeDir) = codes "cd"
word_of (verbs.OnPath MakeDir) = codes "mkdir"
word_of (verbs.OnPath RemoveDir) = codes "rmdir"
word_of (verbs.OnPath Delete) = codes "delete"
word_of (verbs.OnPath Modified) = codes "modified"
word_of (verbs.OnPath Facts) = codes "facts"
word_of verbs.Rename = codes "rename"
word_of (verbs.Taking Get) = codes "get"
word_of (verbs.Taking Size) = codes "size"
word_of (verbs.Taking Entries) = codes "list"
word_of (verbs.Taking Names) = codes "names"
word_of (verbs.Part GetFrom) = codes "getfrom"
word_of (verbs.Part Peek) = codes "peek"
word_of (verbs.Giving Put) = codes "put"
word_of (verbs.Giving Append) = codes "append"
word_of verbs.GivingFrom = codes "putfrom"
word_of verbs.Upload = codes "upload"
word_of verbs.Text = codes "text"

-- a word is that of a verb
abbrev pub is_named : List ℕ → ScriptVerb → Bool
is_named word verb = pointwise nat_eq word (word_of verb)

-- the command that a word names
abbrev pub list_verb_value : List ℕ → Option ListVerb
list_verb_value word =
    if pointwise nat_eq word (codes "mlsd") then Some Lists.Mlsd
    else (if pointwise nat_eq word (codes "list") then Some Lists.List
    else (if pointwise nat_eq word (codes "nlst") then Some Lists.Nlst else None))
