use Rattle.std.proofs.Common.{◌≡◌, ◌+◌, ◌-◌, ◌*◌, ◌/◌, ◌∙◌, ◌++◌, ap, decimal, slice_index, take}
use Rattle.ftp_facts.specs.Calendar.{month_and_place, year_and_place}
use Rattle.ftp_direct.specs.Listing.{month_word, right_in}
use Rattle.ftp_direct.proofs.ListLemmas.{dated, two_are}
use Rattle.ftp_direct.proofs.list_line.put_date.Goals as goal

pub returns : goal.returns
returns g c =
    let year = year_and_place 10_000 1970 (c.args.moment.seconds / 86_400) in
    let day = month_and_place 11 year.0 1 year.1 in
    let digits = c.moment_text-digits.ensures.digits in
    let month : c.number.result ≡ day.0 = c.number.ensures ∙ ap (λ ds. (slice_index ds 4 - 48) * 10 + (slice_index ds 5 - 48)) digits ∙ two_are day.0 in
    let place : c.number-2.result ≡ day.1 + 1 = c.number-2.ensures ∙ ap (λ ds. (slice_index ds 6 - 48) * 10 + (slice_index ds 7 - 48)) digits ∙ two_are (day.1 + 1) in
    let word = c.in_ok-extend_from_slice-2.ensures.items ∙ ap (λ w. c.extend_from_slice.new.self.items ++ w) (c.month_word.ensures ∙ ap month_word month) in
    let right = c.in_ok-put_right.ensures ∙ ap (λ d. c.extend_from_slice-3.new.self.items ++ right_in 2 d) (c.as_bytes.ensures.value ∙ c.format.ensures.text ∙ ap decimal place) in
    let four = c.in_ok-extend_from_slice-5.ensures.items ∙ ap (λ ds. c.extend_from_slice-4.new.self.items ++ take 4 ds) digits in
    dated _ _ _ _ _ _ _ _ _ _ c.in_ok-extend_from_slice.ensures.items word c.in_ok-extend_from_slice-3.ensures.items right c.in_ok-extend_from_slice-4.ensures.items four
