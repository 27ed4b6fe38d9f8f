use Rattle.std.proofs.Common.{◌≡◌, ℕ, List, ◌∷◌, ◌++◌, take, drop, ap, sym, subst, ◌∙◌, inl, inr}
use Rattle.ftp_repr.specs.Signs.{Sign, end_record}
use Rattle.ftp_repr.specs.Items.{signs}
use Rattle.ftp_repr.specs.declared.item.Item.{Item}
use Rattle.ftp_repr.specs.declared.item.Item.TheVariants.{EndRecord}
use Rattle.ftp_repr.proofs.AsciiLemmas.{decided}
use Rattle.ftp_mode.specs.Framing.{still_to_write}
use Rattle.ftp_mode.proofs.FramingLemmas.{takes_text, waits_text, poured_text}
use Rattle.ftp_mode.proofs.framer.Framer.put.Goals as goal

pub returns-in-EndRecord-clause-text : goal.returns-in-EndRecord-clause-text
returns-in-EndRecord-clause-text c = λ more.
    let old = c.args.self.now in
    let f = c.pour-first.new.self in
    let g = c.end_record.new.self in
    let h = c.pour-made.new.self in
    let clear = c.is_clear.ensures.0 c.if-not-is_clear.false in
    let Q : Item → ℕ → Type 0 = λ i n. still_to_write old (signs i ++ more) ≡ take c.pour-made.result c.pour-made.new.room ++ still_to_write h (drop n (signs i) ++ more) in
    let first : (ss : List Sign) → still_to_write old ss ≡ take c.pour-first.result c.pour-first.new.room ++ still_to_write f ss =
    λ ss. poured_text old f c.args.room.now c.pour-first.new.room 0 c.pour-first.result ss c.pour-first.ensures.text c.pour-first.ensures.state in
    let last : (ss : List Sign) → take c.pour-first.result c.pour-first.new.room ++ still_to_write g ss ≡ take c.pour-made.result c.pour-made.new.room ++ still_to_write h ss =
    λ ss. poured_text g h c.pour-first.new.room c.pour-made.new.room c.pour-first.result c.pour-made.result ss c.pour-made.ensures.text c.pour-made.ensures.state in
    let by_item : Q EndRecord c.from-taken.result = elim (decided c.end_record.result) [
      | inl e ↦ (let R : ℕ → Type 0 = λ n. Q EndRecord n in
          let one : c.from-taken.result ≡ 1 = c.from-taken.ensures ∙ ap mir.Val.bool_byte e in
          subst R (sym one) (first (end_record ∷ more) ∙ ap (λ l. take c.pour-first.result c.pour-first.new.room ++ l) (takes_text f g end_record more clear (c.end_record.ensures.yes e)) ∙ last more))
      | inr e ↦ (let R : ℕ → Type 0 = λ n. Q EndRecord n in
          let none : c.from-taken.result ≡ 0 = c.from-taken.ensures ∙ ap mir.Val.bool_byte e in
          subst R (sym none) (first (end_record ∷ more) ∙ ap (λ l. take c.pour-first.result c.pour-first.new.room ++ l) (waits_text f g end_record more clear (c.end_record.ensures.no e)) ∙ last (end_record ∷ more)))
    ] in
    let S : Item → Type 0 = λ i. Q i c.from-taken.result in
    subst S (sym c.in-EndRecord.is) by_item
