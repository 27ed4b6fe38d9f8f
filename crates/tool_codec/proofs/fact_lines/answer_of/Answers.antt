use Rattle.std.proofs.Common.{◌∙◌, ◌++◌, ap}
use Rattle.ftp_facts.specs.Entry.{entry_line}
use Rattle.tool_codec.proofs.fact_lines.answer_of.Goals as goal

pub returns-in-Ok-write_entry : goal.returns-in-Ok-write_entry
returns-in-Ok-write_entry g c = (
  c.in-Ok.entry,
  c.in-Ok.ensures.says,
  c.in-Ok-write_entry.ensures.line ∙ ap (λ l. l ++ entry_line c.in-Ok.entry) c.new-text.ensures.items,
)
