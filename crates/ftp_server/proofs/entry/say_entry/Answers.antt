use Rattle.std.proofs.Common.{◌≡◌, List, ℕ, ◌++◌, ◌∷◌, [], ◌∙◌, ap, arith, length}
use Rattle.std.specs.Prelude.{codes}
use Rattle.ftp_direct.specs.Direct.{entry_at, entry_of, is_root}
use Rattle.ftp_direct.proofs.EntryLemmas.{entry_few, entry_is}
use Rattle.ftp_ends.specs.Reply.{reply_octets}
use Rattle.ftp_facts.specs.Entry.{listed_lent}
use Rattle.ftp_facts.specs.declared.name.Facts.{Facts}
use Rattle.ftp_operation.specs.Answer.{Listed}
use Rattle.ftp_path.specs.Path.{text_of}
use Rattle.ftp_server_model.specs.Entries.{listed_line}
use Rattle.ftp_tree.specs.Entries.{shown_file}
use Rattle.ftp_tree.specs.Map.{of_node, shown_of}
use Rattle.ftp_tree.specs.Tree.{node_at, under}
use Rattle.ftp_server.proofs.entry.say_entry.Goals as goal

-- the reply that tells this entry
abbrev telling : Facts → Listed → List ℕ
telling facts entry = reply_octets (record { code = 250; lines = codes "Listing" ∷ (32 ∷ listed_line facts entry) ∷ codes "End" ∷ [] })

pub put_listed-requires-clause-few : goal.put_listed-requires-clause-few
put_listed-requires-clause-few g c =
    let facts = c.args.session.now.facts in
    let few = entry_few facts (shown_file c.file_at-file.result) c.is_root.result c.text.result.now in
    let same = ap (λ entry. length (listed_line facts entry)) c.entry_of-entry.ensures in
    omega (arith, same, few, c.text.ensures.bound)

pub returns : goal.returns
returns g c =
    let part = under (g.T.Tree.table c.args.session.now.tree) c.args.session.now.root in
    let path = c.args.path.now in
    let shown = of_node shown_of (node_at part path) in
    let said : listed_lent c.entry_of-entry.result ≡ entry_at part path (text_of path) =
    c.entry_of-entry.ensures ∙ ap (λ file. entry_of file c.is_root.result c.text.result.now) c.file_at-file.ensures
    ∙ ap (λ at_root. entry_of shown at_root c.text.result.now) c.is_root.ensures ∙ ap (entry_of shown (is_root path)) c.text.ensures.text ∙ entry_is part path (text_of path) in
    c.put_listed.ensures ∙ ap (λ entry. c.args.output.now ++ telling c.args.session.now.facts entry) said
