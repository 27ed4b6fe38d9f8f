use Rattle.std.proofs.Common.{ap, sym}
use Rattle.std.specs.Option.{option_map, unwrap_or}
use Rattle.ftp_operation.specs.Answer.{Lost, said_of}
use Rattle.tool_connect.proofs.live.LiveSessionClientSession.answer.Goals as goal

pub returns-in-Some : goal.returns-in-Some
returns-in-Some g c =
    let driven = c.drive_client-report in (
      λ none. record {
        begun = g.N.Near.client c.begin-2.new.client;
        begins = c.begin-2.ensures;
        off = driven.result.off;
        report = option_map said_of driven.result.report;
        drives = driven.ensures.drives none;
        told = sym (ap (λ r. unwrap_or (option_map said_of r) Lost) c.in-Some.is);
      },
      driven.ensures.none,
    )

pub returns : goal.returns
returns g c =
    let driven = c.drive_client-report in (
      λ none. record {
        begun = g.N.Near.client c.begin-2.new.client;
        begins = c.begin-2.ensures;
        off = driven.result.off;
        report = option_map said_of driven.result.report;
        drives = driven.ensures.drives none;
        told = sym (ap (λ r. unwrap_or (option_map said_of r) Lost) c.in-None.is);
      },
      driven.ensures.none,
    )
