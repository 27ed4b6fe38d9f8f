use Rattle.ftp_pair_events.proofs.events.parts.Parts.step_upload.Given as goal

-- the texts that are handed on
abbrev pub ghost-start_upload : goal.ghost-start_upload
ghost-start_upload g a = g.texts
