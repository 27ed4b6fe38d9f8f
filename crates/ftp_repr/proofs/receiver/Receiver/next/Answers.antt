use Rattle.std.proofs.Common.{◌≢◌, subst, sym, rules}
use Rattle.ftp_repr.specs.Items.{signs}
use Rattle.ftp_repr.specs.Received.{Lends}
use Rattle.ftp_repr.specs.declared.item.Item.{Item}
use Rattle.ftp_repr.specs.declared.receiver.Stage.TheVariants.{Over}
use Rattle.ftp_repr.proofs.LendLemmas.{over_lends, image_lends}
use Rattle.ftp_repr.proofs.receiver.Receiver.next.Goals as goal

pub returns-in-Over : goal.returns-in-Over
returns-in-Over c =
    over_lends c.args.self.now (signs c.args.item) c.whole.result c.in-Over.is c.whole.ensures.with_return c.whole.ensures.octets (search rules) c.whole.ensures.rest

pub returns-in-Image : goal.returns-in-Image
returns-in-Image c =
    let self = c.args.self.now in
    let going : self.stage ≢ Over = search rules in
    let P : Item → Type 0 = λ i. Lends self (signs i) c.whole-in-Image.result self in
    subst P (sym c.in-Octets.is)
    (image_lends self c.in-Octets.piece.now c.whole-in-Image.result c.in-Image.is going c.whole-in-Image.ensures.with_return c.whole-in-Image.ensures.octets c.whole-in-Image.ensures.taken
    c.whole-in-Image.ensures.rest)
