-- How what orders led to comes to rest.
use Rattle.std.proofs.Common.{◌≡◌, true, List, subst}
use Rattle.ftp_pair.specs.Session.{Seen}
use Rattle.laws_agreement.proofs.Theorems.{agrees-always, headline, quiet-is-answered}
use Rattle.laws_world.specs.Agreement as worlds
use Rattle.laws_world.specs.Agreement.{Leads}
use Rattle.laws_world.specs.Claims.{Beginning, IsFair, world_of}
use Rattle.laws_world.specs.Events.{IsQuiet}
use Rattle.ftp_server_model.proofs.LinesDecided.{reading_exists}
use Rattle.ftp_server_model.specs.Machine.{IsReading, Reading}
use Rattle.tool_pair.specs.Leading.{HaveComeToRest, LeadsTo, Rests}
use Rattle.tool_pair.specs.Transcript.{Delivery}

-- with a reading of lines
at_rest : (read : Reading) → IsReading read → (begun : List worlds.Order) (took : List Delivery) (old new : Seen) → LeadsTo begun took old new → IsQuiet new.world
    → new.calm ≡ true → (from : Beginning) → IsFair from → old.world ≡ world_of from → HaveComeToRest from begun new.world
at_rest read reads begun took old new leads quiet calm from fair is =
    let so = (leads calm).1 read reads in
    let run : Leads read (world_of from) so.0 begun new.world = subst (λ w. Leads read w so.0 begun new.world) is so.3.0 in
    record {
      agrees = agrees-always read reads from fair so.0 begun new.world so.2 run;
      quiet = quiet;
      answered = quiet-is-answered read reads from fair so.0 begun new.world so.2 run quiet;
      direct = λ single. headline read reads from fair so.0 begun new.world so.2 run so.1 single quiet;
    }

-- what orders led to has come to rest where nothing is in flight
pub rests : (begun : List worlds.Order) (took : List Delivery) (old new : Seen) → LeadsTo begun took old new → IsQuiet new.world → Rests begun old new
rests begun took old new leads quiet calm = at_rest reading_exists.0 reading_exists.1 begun took old new leads quiet calm
