use Rattle.std.proofs.Common.{rules, arith, sym, subst, get_or, ne_eqb}
use Rattle.ftp_nvt.specs.Event.{event_list}
use Rattle.ftp_nvt.specs.Lines.{IsNoneOf}
use Rattle.ftp_nvt.specs.LineBuffer.{Reads}
use Rattle.ftp_nvt.proofs.BufferLemmas.{Steps-Reads}
use Rattle.ftp_nvt.proofs.CutLemmas.{take_first}
use Rattle.ftp_nvt.proofs.line.LineBuffer.first.Goals as goal

pub returns : goal.returns
returns g c = record {
  within = search rules;
  some = omega arith;
  bare =
      subst (λ l. IsNoneOf 255 l) (sym (take_first c.args.piece.now c.requires.some)) (ne_eqb (get_or c.args.piece.now 0 0) 255 c.requires.bare, tt);
  reads =
      subst (λ l. Reads c.args.self.now l (event_list c.octet-event.result c.octet-event.new.self.text.items) c.octet-event.new.self) (sym (take_first c.args.piece.now c.requires.some))
      (Steps-Reads c.args.self.now c.octet-event.new.self (get_or c.args.piece.now 0 0) c.octet-event.result c.octet-event.ensures);
}
