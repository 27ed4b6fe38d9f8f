use Rattle.std.proofs.Common.{rules, map, refl}
use Rattle.ftp_facts.specs.Entry.{listed_of}
use Rattle.ftp_facts.specs.Listing.{lines_of}
use Rattle.tool_listing.specs.entries.Columns.{entries_of_columns, lines_without_column}
use Rattle.tool_listing.proofs.entries.TextLemmas.{columns_cut, line_more, none_left, odd_columns_cut}
use Rattle.tool_listing.proofs.entries.columns.read_columns.Goals as goal

pub loop-rest-preserved : goal.loop-rest-preserved
loop-rest-preserved c =
    let rest = c.loop-rest.rest.now in
    let line = c.cut_line.result.0.now in
    let behind = c.cut_line.result.1.now in
    let text = c.args.text.now in (
      line_more entries_of_columns columns_cut (map listed_of c.loop-rest.entries.items) (map listed_of c.put_line.new.entries.items)
          (entries_of_columns (lines_of text)) rest line behind c.cut_line.ensures.lines c.in_ok-put_line.ensures.entries c.loop-rest.invariant.0,
      line_more lines_without_column odd_columns_cut c.loop-rest.odd.items c.put_line.new.odd.items (lines_without_column (lines_of text)) rest line behind
          c.cut_line.ensures.lines c.in_ok-put_line.ensures.odd c.loop-rest.invariant.1,
    )

pub returns-clause-entries : goal.returns-clause-entries
returns-clause-entries c =
    none_left entries_of_columns refl (map listed_of c.loop-rest.entries.items) (entries_of_columns (lines_of c.args.text.now)) c.loop-rest.rest.now
    (search rules) c.loop-rest.invariant.0

pub returns-clause-odd : goal.returns-clause-odd
returns-clause-odd c =
    none_left lines_without_column refl c.loop-rest.odd.items (lines_without_column (lines_of c.args.text.now)) c.loop-rest.rest.now (search rules)
    c.loop-rest.invariant.1
