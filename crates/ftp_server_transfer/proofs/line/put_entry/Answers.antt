use Rattle.std.proofs.Common.{◌≡◌, ◌+◌, ◌++◌, ◌∙◌, [], ◌∷◌, false, ap, arith, length, length-append}
use Rattle.ftp_facts.specs.Entry.{listed_lent}
use Rattle.ftp_tree.specs.Entries.{shown_entry, shown_file}
use Rattle.ftp_direct.specs.Direct.{entry_of}
use Rattle.ftp_direct.proofs.EntryLemmas.{entry_few}
use Rattle.ftp_server_model.specs.Entries.{listed_line}
use Rattle.ftp_server_transfer.specs.Lines.{entry_facts}
use Rattle.ftp_server_transfer.proofs.LengthLemmas.{name_short}
use Rattle.ftp_server_transfer.proofs.ListingLemmas.{ended}
use Rattle.ftp_server_transfer.proofs.line.put_entry.Goals as goal

pub returns-clause-line : goal.returns-clause-line
returns-clause-line g c =
    let found = c.args.found in
    let said : listed_lent c.entry_of-entry.result ≡ entry_facts (shown_entry found) = c.entry_of-entry.ensures ∙ ap (entry_of (shown_file found.file) false) c.octets.ensures.octets in
    ended c.args.line.now.items c.write_entry_line.new.out.items c.push.new.self.items (listed_line c.args.facts (entry_facts (shown_entry found)))
    (c.in_ok-write_entry_line.ensures.ok.octets ∙ ap (λ entry. c.args.line.now.items ++ listed_line c.args.facts entry) said) c.in_ok-push.ensures.items

pub returns-clause-few : goal.returns-clause-few
returns-clause-few g c =
    let name = c.args.found.name.octets.now in
    omega (
      arith,
      ap length (returns-clause-line g c),
      length-append c.args.line.now.items (listed_line c.args.facts (entry_facts (shown_entry c.args.found)) ++ 10 ∷ []),
      length-append (listed_line c.args.facts (entry_facts (shown_entry c.args.found))) (10 ∷ []),
      entry_few c.args.facts (shown_file c.args.found.file) false name,
      name_short name c.args.found.name.named,
    )
