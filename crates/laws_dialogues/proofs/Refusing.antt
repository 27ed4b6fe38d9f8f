-- What is asked for by a login that is not known is refused at its first command, or at PORT where none stands before it; so all that is asked for
-- leads to a port that is asked for or wanted, or to 530.
use Rattle.std.proofs.Common.{◌≡◌, inr, ℕ, zero, suc, Bool, true, false, List, [], ◌∷◌, refl, sym, ap, subst, ◌∙◌}
use Rattle.std.specs.Prelude.{if◌then◌else◌}
use Rattle.ftp_nvt.specs.Lines.{written_line}
use Rattle.ftp_command.specs.Line.{IsStated, IsTyped, line_of}
use Rattle.ftp_command.specs.declared.command.Command.{Command}
use Rattle.ftp_command.specs.declared.command.Command.TheVariants as Commands
use Rattle.ftp_command.specs.declared.command.Passive.TheVariants as Passives
use Rattle.ftp_operation.specs.Answer.{Refused}
use Rattle.ftp_operation.specs.declared.op.Op.{Op}
use Rattle.ftp_settings.specs.Representation.{same_kind, same_structure, same_mode}
use Rattle.ftp_settings.specs.declared.representation.Representation.{Representation}
use Rattle.ftp_direct.specs.Direct.{State}
use Rattle.ftp_client_model.specs.Dialogue.{awaits_reply, placed, sends_if}
use Rattle.ftp_client_model.specs.Plan.{from_mode, from_structure, how_of, is_extended, set_command, opening_of, passive_command}
use Rattle.ftp_client_model.specs.View.{View as Near, Job}
use Rattle.ftp_client_model.specs.declared.client.Step.{Step}
use Rattle.ftp_client_model.specs.declared.client.Step.TheVariants as Steps
use Rattle.ftp_server_model.specs.Act.{is_free, is_transfer}
use Rattle.ftp_server_model.specs.Machine.{Reading, IsReading, is_abor}
use Rattle.ftp_server_model.specs.View.{View as Far}
use Rattle.ftp_server_model.specs.declared.heard.HeardLine.TheVariants.{Asks}
use Rattle.laws_dialogues.specs.Dialogue.{Passes, Stands, Ends, doing, resting}
use Rattle.laws_dialogues.specs.Fetches.{Ask, HasPlan, Opens}
use Rattle.laws_dialogues.specs.Operations.{LeadsBy}
use Rattle.laws_dialogues.specs.Stage.{calm, Way, Asking, Answering, behind, Leads}
use Rattle.laws_dialogues.proofs.Exchanges.{IsSent}
use Rattle.laws_dialogues.proofs.Fetching.{begins_with, known_leads, opening_is, wants_port}
use Rattle.laws_dialogues.proofs.Settings.{LeadsFrom}
use Rattle.laws_dialogues.proofs.Sizing.{refused_at}

-- a goal that leads to another
leads_to : (read : Reading) (Along Goal Other : Near → Far → Type 0) → ((n : Near) (f : Far) → Goal n f → Other n f) → (left : ℕ) (way : Way) (n : Near) (f : Far)
    → Leads read Along Goal left way n f → Leads read Along Other left way n f
leads_to read Along Goal Other to zero (Answering []) n f l = to n f l
leads_to read Along Goal Other to zero (Answering (reply ∷ more)) n f l = absurd l
leads_to read Along Goal Other to zero (Asking text) n f l = absurd l
leads_to read Along Goal Other to (suc left) (Answering []) n f l = absurd l
leads_to read Along Goal Other to (suc left) (Answering (reply ∷ more)) n f l = (l.0, l.1, leads_to read Along Goal Other to left (behind l.1.line more) l.1.near f l.2)
leads_to read Along Goal Other to (suc left) (Asking text) n f l = (l.0, l.1, leads_to read Along Goal Other to left (Answering l.1.replies) n l.1.far l.2)

module _ (read : Reading) (ask : Ask) (reads : IsReading read) (plan : HasPlan ask) (state : State) (n : Near) (f : Far) (stands : Stands state n f) (unknown : state.known ≡ false) where
  abbrev op : Op (List ℕ)
  op = ask.op

  abbrev settings : Representation
  settings = ask.settings

  abbrev From : Step → Type 0
  From step = LeadsFrom read (Passes state.table state.table) (Opens state ask) op step n f

  -- a command of typed and stated parts that is not ABOR can go to the server
  sent : (command : Command (List ℕ)) → IsTyped command → IsStated command → is_abor (Asks command) ≡ false → IsSent read command
  sent command typed stated other = record { reads = reads; typed = typed; stated = stated; other = other }

  -- its first command is refused
  refused_so : (step : Step) (command : Command (List ℕ)) → IsTyped command → IsStated command → is_abor (Asks command) ≡ false → is_free command ≡ false → is_transfer command ≡ false
      → awaits_reply step ≡ true
      → ((job : Job) → placed op step (record (calm (resting n)) { job = job }) ≡ record (calm (doing op step n)) { owed = written_line (line_of command) }) → From step
  refused_so step command typed stated other free transfer awaits placed_so =
      let on = refused_at read op reads state n f stands unknown step command (sent command typed stated other) free transfer awaits placed_so in
      record {
        near = on.near;
        line = on.line;
        left = on.left;
        placed_so = on.placed_so;
        fine = on.fine;
        leads = leads_to read (Passes state.table state.table) (Ends (Refused 530, state)) (Opens state ask) (λ n f ends. inr (inr (unknown, ends))) on.left (behind on.line []) on.near f on.leads;
      }

  -- where the server is to be asked for a port, EPSV or PASV is refused
  by_extended : (extended : Bool) → is_extended n op ≡ extended → From Steps.Passive
  by_extended true is =
      refused_so Steps.Passive (Commands.Epsv Passives.Any) tt tt refl refl refl refl
      (λ job. ap (λ extended. record (calm (doing op Steps.Passive n)) { owed = written_line (line_of (passive_command extended)) }) is)
  by_extended false is =
      refused_so Steps.Passive Commands.Pasv tt tt refl refl refl refl
      (λ job. ap (λ extended. record (calm (doing op Steps.Passive n)) { owed = written_line (line_of (passive_command extended)) }) is)

  -- where the client listens a port of its own is wanted, else the command for one of the server is refused
  by_active : (active : Bool) → From (if active then Steps.Listen else Steps.Passive)
  by_active true = wants_port read state ask n f stands (λ known. absurd (let e : false ≡ true = sym unknown ∙ known in cc))
  by_active false = by_extended (is_extended n op) refl

  -- so the step that opens the link leads to a port that is wanted, or to 530
  by_opening : From (opening_of (how_of op) op)
  by_opening = subst From (opening_is ask plan) (by_active ask.how.active)

  -- and where the mode is to be set before it, MODE is refused
  by_mode : (b : Bool) → From (if b then opening_of (how_of op) op else Steps.Mode)
  by_mode true = by_opening
  by_mode false =
      refused_so Steps.Mode (Commands.Mode settings.mode) tt tt refl refl refl refl
      (λ job. ap (λ asked. sends_if (set_command Steps.Mode asked) (calm (doing op Steps.Mode n))) plan.asks)

  -- and where the structure is to be set before these, STRU is refused
  by_structure : (b : Bool) → From (if b then from_mode n.settings settings (opening_of (how_of op) op) else Steps.Structure)
  by_structure true = by_mode (same_mode n.settings.mode settings.mode)
  by_structure false =
      refused_so Steps.Structure (Commands.Stru settings.structure) tt tt refl refl refl refl
      (λ job. ap (λ asked. sends_if (set_command Steps.Structure asked) (calm (doing op Steps.Structure n))) plan.asks)

  -- and where the kind is to be set before these, TYPE is refused
  by_kind : (b : Bool) → From (if b then from_structure n.settings settings (opening_of (how_of op) op) else Steps.Kind)
  by_kind true = by_structure (same_structure n.settings.structure settings.structure)
  by_kind false =
      refused_so Steps.Kind (Commands.Repr settings.kind) tt tt refl refl refl refl
      (λ job. ap (λ asked. sends_if (set_command Steps.Kind asked) (calm (doing op Steps.Kind n))) plan.asks)

  -- what is asked for by a login that is not known leads to a port that is wanted, or to 530
  unknown_leads : LeadsBy read (Passes state.table state.table) (Opens state ask) ask.op n f
  unknown_leads = begins_with read state ask plan n f (by_kind (same_kind n.settings.kind settings.kind))

-- from the beginning of the operation on
pub ask_leads : (read : Reading) (state : State) (ask : Ask) → IsReading read → HasPlan ask → (n : Near) (f : Far) → Stands state n f
    → LeadsBy read (Passes state.table state.table) (Opens state ask) ask.op n f
ask_leads read state ask reads plan n f stands = by_known state.known refl
  where
    by_known : (known : Bool) → state.known ≡ known → LeadsBy read (Passes state.table state.table) (Opens state ask) ask.op n f
    by_known true known = known_leads read state ask reads plan known n f stands
    by_known false unknown = unknown_leads read ask reads plan state n f stands unknown
