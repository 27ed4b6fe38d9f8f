use Rattle.std.proofs.Common.{◌≡◌, ℕ, List, Some, Result, Ok, Err, option_map, true, false, ap, ◌∙◌}
use Rattle.std.specs.Option.{is_some, unwrap_or}
use Rattle.std.specs.Result.{result_ok}
use Rattle.ftp_facts.specs.declared.moment.Moment.{Moment}
use Rattle.ftp_facts.specs.declared.fault.FactFault.{FactFault}
use Rattle.ftp_facts.specs.Moment.{moment_value}
use Rattle.ftp_facts.proofs.MomentLemmas.{Moment-same, WritesMoment-says}
use Rattle.ftp_facts.proofs.MomentValueLemmas.{says_moment}
use Rattle.ftp_facts.proofs.laws.moment_comes_back.Goals as goal

read_back : (r : Result Moment FactFault) (m : Moment) (text : List ℕ) → moment_value text ≡ Some m.seconds → option_map (λ moment. moment.seconds) (result_ok r) ≡ moment_value text → r ≡ Ok m
read_back (Ok x) m text says value = ap Ok (Moment-same x m (ap (λ o. unwrap_or o x.seconds) (value ∙ says)))
read_back (Err e) m text says value = absurd (let f : false ≡ true = ap is_some (value ∙ says) in cc)

pub returns : goal.returns
returns c =
    let text = c.moment_text.result in
    let seconds = c.args.moment.seconds in
    read_back c.moment_of_text.result c.args.moment text (says_moment text seconds (WritesMoment-says text seconds c.moment_text.ensures.written)) c.moment_of_text.ensures.value
