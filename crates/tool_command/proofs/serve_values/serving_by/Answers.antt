use Rattle.tool_command.proofs.serve_values.serving_by.Goals as goal

pub returns-in_default-waits_by-clause-refused : goal.returns-in_default-waits_by-clause-refused
returns-in_default-waits_by-clause-refused c = λ serving asked. c.in_default-waits_by.ensures.none serving.sessions serving.waits asked.waits
