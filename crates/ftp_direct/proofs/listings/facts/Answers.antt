use Rattle.ftp_direct.proofs.listings.facts.Goals as goal

pub entry-requires : goal.entry-requires
entry-requires g c = c.text.ensures.path_text
