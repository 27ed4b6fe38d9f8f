use Rattle.std.proofs.Common.{◌≡◌, ◌++◌, flat_map}
use Rattle.tool_log.specs.Json.{char_json, text_json}
use Rattle.tool_log.proofs.json.put_text.Given as goal

-- what was put and what the characters that are left are written as are the whole text
abbrev pub invariant-loop-character : goal.invariant-loop-character
invariant-loop-character l = l.out.items ++ flat_map char_json l.character-iterator ≡ l.fn.out.items ++ text_json l.fn.text
