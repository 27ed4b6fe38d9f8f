use Rattle.std.proofs.Common.{◌≡◌, ◌+◌, ◌-◌, ◌<◌, ◌≤◌, ◌++◌, ℕ, List, [], Option, Some, None, length, take, refl, sym, ap, subst, ◌∙◌, arith, length-append}
use Rattle.ftp_pieces.specs.Machine.{after, gives}
use Rattle.ftp_repr.specs.Signs.{Sign}
use Rattle.ftp_repr.specs.Items.{signs}
use Rattle.ftp_mode.specs.Said.{Said, file_signs}
use Rattle.ftp_mode.specs.Reading.{Reading, IsGoing, reader}
use Rattle.ftp_mode.specs.Deframing.{owed, reading, last_marker, taken_with_fault, part_said}
use Rattle.ftp_mode.specs.declared.step.Part.TheVariants as Parts
use Rattle.ftp_wire.specs.Decoder.{decoded}
use Rattle.ftp_wire.specs.Hearing.{HasNoMarker, Hears}
use Rattle.ftp_wire.specs.Taking.{decoder_at, settled, Stops}
use Rattle.ftp_wire.proofs.StepLemmas.{tells, fault_hears, stop_hears, step_last, step_some, part_signs, part_plain, front_within, ends_of, whole_step, marks, right_none, signs_len, owed_unmarked, unmarked_take, unmarked_last, content_by}
use Rattle.ftp_wire.proofs.HearLemmas.{unmarked_both}
use Rattle.ftp_wire.proofs.intake.Intake.step.Goals.{in-Marker, in_default}
use Rattle.ftp_wire.proofs.intake.Intake.step.Goals as goal

pub returns-in-Err-clause-hears : goal.returns-in-Err-clause-hears
returns-in-Err-clause-hears g c =
    let octets = g.S.Sink.octets in
    let most = length (octets c.args.self.now.sink) + c.args.room.now in
    let d = decoder_at octets c.args.self.now in
    let taken = taken_with_fault c.feed.new.self in
    let fails = c.in-Err.ensures.err in
    fault_hears most d c.args.piece.now taken c.max.result c.in-Err.fault (reading c.feed.new.self) (last_marker c.feed.new.self) c.requires.some (omega arith) fails.within
    (λ e. omega (arith, e, c.max.ensures, c.taken_with_fault.ensures)) (λ some. omega (arith, some, c.max.ensures, c.taken_with_fault.ensures)) fails.state fails.fails fails.first (right_none _ _ fails.quiet)

pub overflow_sub-result : goal.overflow_sub-result
overflow_sub-result g c =
    let old = c.args.self.now.deframer in
    let new = c.feed.new.self in
    let said = part_said c.in-Ok.step.part (last_marker new) in
    let last = step_last old new c.args.piece.now c.in-Ok.step c.in-Ok.ensures.ok c.requires.owes in
    let is = ap length (c.item_of-item.ensures (last_marker new)) in
    let stops = c.in-Err-settle.ensures.err in
    let size = signs_len said (part_signs c.in-Ok.step.part (last_marker new) (omega (arith, is, stops.within))) in
    omega (arith, c.len-in-Err-settle.ensures, is, size, last.fits)

pub returns-in-Err-settle-clause-within : goal.returns-in-Err-settle-clause-within
returns-in-Err-settle-clause-within g c =
    let old = c.args.self.now.deframer in
    let new = c.feed.new.self in
    let said = part_said c.in-Ok.step.part (last_marker new) in
    let hears = c.in-Ok.ensures.ok in
    let last = step_last old new c.args.piece.now c.in-Ok.step hears c.requires.owes in
    let is = ap length (c.item_of-item.ensures (last_marker new)) in
    let stops = c.in-Err-settle.ensures.err in
    let size = signs_len said (part_signs c.in-Ok.step.part (last_marker new) (omega (arith, is, stops.within))) in
    omega (arith, c.len-in-Err-settle.ensures, is, size, last.fits, stops.within, hears.within)

pub returns-in-Err-settle-clause-hears : goal.returns-in-Err-settle-clause-hears
returns-in-Err-settle-clause-hears g c =
    let octets = g.S.Sink.octets in
    let most = length (octets c.args.self.now.sink) + c.args.room.now in
    let d = decoder_at octets c.args.self.now in
    let old = c.args.self.now.deframer in
    let new = c.feed.new.self in
    let piece = c.args.piece.now in
    let n = c.in-Ok.step.taken in
    let said = part_said c.in-Ok.step.part (last_marker new) in
    let hears = c.in-Ok.ensures.ok in
    let last = step_last old new piece c.in-Ok.step hears c.requires.owes in
    let is : signs c.item_of-item.result ≡ file_signs said = c.item_of-item.ensures (last_marker new) in
    let stopped = c.in-Err-settle.stopped in
    let P : List Sign → Type 0 = λ l. Stops most (record d { reading = reading new }) l stopped in
    let stops : P (file_signs said) = subst P is c.in-Err-settle.ensures.err in
    let plain : HasNoMarker said = part_signs c.in-Ok.step.part (last_marker new) (omega (arith, stops.within)) in
    let G : Reading → Type 0 = λ r. IsGoing r in
    let fine : IsGoing (after reader (reading old) (take n piece)) = subst G hears.state (hears.fine c.requires.owes) in
    let all : said ++ owed new ≡ gives reader (reading old) (take n piece) = hears.says ∙ ap (λ l. l ++ gives reader (reading old) (take n piece)) c.requires.owes in
    let now = decoder_at octets c.settle.new.self in
    let text = last_marker c.settle.new.self.deframer in
    let Q : ℕ → Type 0 = λ k. Hears most d (take k piece) None text stopped.heard now in
    let place : n - length said + stopped.at + 1 ≡ n - c.len-in-Err-settle.result + stopped.at + 1 =
    omega (arith, c.len-in-Err-settle.ensures, ap length is, signs_len said plain) in
    subst Q place
    (stop_hears most d piece n stopped.at said (owed new) stopped.heard text now hears.within fine plain (owed_unmarked new.owed) all last stops.within stops.front stops.by)

pub returns-clause-some : goal.returns-clause-some
returns-clause-some g c =
    step_some c.args.self.now.deframer c.feed.new.self c.args.piece.now c.in-Ok.step c.in-Ok.ensures.ok c.requires.owes c.requires.some

pub returns-clause-hears : goal.returns-clause-hears
returns-clause-hears g c =
    let octets = g.S.Sink.octets in
    let most = length (octets c.args.self.now.sink) + c.args.room.now in
    let d = decoder_at octets c.args.self.now in
    let old = c.args.self.now.deframer in
    let new = c.feed.new.self in
    let piece = c.args.piece.now in
    let step = c.in-Ok.step in
    let n = step.taken in
    let k = n - 1 in
    let text = last_marker new in
    let said = part_said step.part text in
    let hears = c.in-Ok.ensures.ok in
    let last = step_last old new piece step hears c.requires.owes in
    let some : 0 < n = step_some old new piece step hears c.requires.owes c.requires.some in
    let place : k + 1 ≡ n = omega (arith, some) in
    let less : k < length piece = omega (arith, place, hears.within) in
    let is : signs c.item_of-item.result ≡ file_signs said = c.item_of-item.ensures text in
    let G : Reading → Type 0 = λ r. IsGoing r in
    let F : ℕ → Type 0 = λ j. IsGoing (after reader (reading old) (take j piece)) in
    let fine : F (k + 1) = subst F (sym place) (subst G hears.state (hears.fine c.requires.owes)) in
    let all : said ++ owed new ≡ gives reader (reading old) (take n piece) = hears.says ∙ ap (λ l. l ++ gives reader (reading old) (take n piece)) c.requires.owes in
    let mid = c.settle.new.self in
    let kept = c.in_default-settle.ensures.room in
    let same : decoder_at octets mid ≡ settled (record d { reading = reading new }) (file_signs said) =
    c.in_default-settle.ensures.ok ∙ ap (settled (record d { reading = reading new })) is in
    let whole : settled (decoder_at octets mid) (file_signs (owed mid.deframer)) ≡ decoded d (take (k + 1) piece) =
    ap (λ x. settled x (file_signs (owed mid.deframer))) same
    ∙ ap (λ x. settled (settled (record d { reading = reading new }) (file_signs said)) (file_signs (owed x))) c.settle.ensures.deframer
    ∙ whole_step d (take n piece) said (owed new) (reading new) hears.state all ∙ ap (λ j. decoded d (take j piece)) (sym place) in
    let heard = c.settle_ends-heard.result in
    let end = c.settle_ends-heard.new.self in
    let ends = ends_of octets mid end c.settle.new.room c.settle_ends-heard.new.room most heard d (take (k + 1) piece) (sym kept) c.settle_ends-heard.ensures.ends whole in
    let lent : last_marker end.deframer ≡ text = c.settle_ends-heard.ensures.marker ∙ ap last_marker c.settle.ensures.deframer in
    let front : length (settled d (file_signs said)).content ≤ most = omega (arith, kept, ap (λ x. length x.content) same) in
    let T : List ℕ → Type 0 = λ t. Hears most d (take n piece) c.match-step.mark t heard (decoder_at octets end) in
    let N : ℕ → Type 0 = λ j. Hears most d (take j piece) c.match-step.mark text heard (decoder_at octets end) in
    let U : List Said → Type 0 = λ l. HasNoMarker l in
    subst T (sym lent) (subst N place (elim c.match-step.branch [
      | in-Marker w ↦ (
          let is_marker : said ≡ part_said Parts.Marker text = ap (λ p. part_said p text) w.in-Marker.is in
          let long = ap length is_marker in
          let none : gives reader (reading old) (take k piece) ≡ [] =
          ap (λ j. gives reader (reading old) (take j piece)) (let e : k ≡ n - length said + 0 = omega (arith, long, some) in e) ∙ last.each 0 (omega (arith, long)) in
          let held = marks d piece k n text (owed new) w.len.result less place none (sym (ap (λ l. l ++ owed new) is_marker) ∙ all) (owed_unmarked new.owed) w.len.ensures in
          let M : Option ℕ → Type 0 = λ m. Hears most d (take (k + 1) piece) m text heard (decoder_at octets end) in
          let quiet : length (decoded d (take k piece)).content ≤ most = omega (arith, ap length (content_by d (take k piece) [] none), length-append d.content []) in
          subst M (sym w.mark-is)
          (tells most d piece k (Some w.len.result) text heard (decoder_at octets end) less fine (subst U (sym none) tt) quiet held ends))
      | in_default w ↦ (
          let plain : HasNoMarker said = part_plain step.part text w.in_default.not-Marker in
          let free : HasNoMarker (gives reader (reading old) (take n piece)) = subst U all (unmarked_both said (owed new) plain (owed_unmarked new.owed)) in
          let M : Option ℕ → Type 0 = λ m. Hears most d (take (k + 1) piece) m text heard (decoder_at octets end) in
          let within = front_within old new piece step d k hears c.requires.owes refl place plain in
          subst M (sym w.mark-is)
          (tells most d piece k None text heard (decoder_at octets end) less fine (unmarked_take (reading old) piece k n (omega (arith, place)) free) (omega (arith, within, front))
          (unmarked_last d piece k n less (omega (arith, place)) free) ends))
    ]))
