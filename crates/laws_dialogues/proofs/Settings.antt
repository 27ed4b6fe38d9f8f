-- TYPE, STRU and MODE, each only where it differs from what the server accepted last: behind them the server has the settings that an
-- operation asks for, and the client goes on with the step behind them.
use Rattle.std.proofs.Common.{◌≡◌, inl, ℕ, suc, Bool, true, false, List, [], ◌∷◌, Option, Some, refl, ap, ◌∙◌}
use Rattle.std.specs.Prelude.{if◌then◌else◌}
use Rattle.ftp_nvt.specs.Lines.{written_line}
use Rattle.ftp_command.specs.Line.{line_of}
use Rattle.ftp_command.specs.declared.command.Command.{Command}
use Rattle.ftp_command.specs.declared.command.Command.TheVariants as Commands
use Rattle.ftp_operation.specs.declared.op.Op.{Op}
use Rattle.ftp_settings.specs.Representation.{same_kind, same_structure, same_mode}
use Rattle.ftp_settings.specs.declared.representation.Kind.{Kind}
use Rattle.ftp_settings.specs.declared.representation.Kind.TheVariants as Kinds
use Rattle.ftp_settings.specs.declared.representation.Structure.{Structure}
use Rattle.ftp_settings.specs.declared.representation.Structure.TheVariants as Structures
use Rattle.ftp_settings.specs.declared.representation.Mode.{Mode}
use Rattle.ftp_settings.specs.declared.representation.Mode.TheVariants as Modes
use Rattle.ftp_settings.specs.declared.representation.Representation.{Representation}
use Rattle.ftp_tree.specs.Tree.{Table}
use Rattle.ftp_direct.specs.Direct.{State}
use Rattle.ftp_client_model.specs.Dialogue.{answered, goes_on, placed, sends_if}
use Rattle.ftp_client_model.specs.Plan.{asked_settings, how_of, opening_of, from_kind, from_structure, from_mode, step_by, set_command, settings_behind}
use Rattle.ftp_client_model.specs.View.{View as Near, Job, Doing}
use Rattle.ftp_client_model.specs.declared.client.Step.{Step}
use Rattle.ftp_client_model.specs.declared.client.Step.TheVariants as Steps
use Rattle.ftp_server_model.specs.Machine.{Reading, IsReading}
use Rattle.ftp_server_model.specs.Replies.{fixed_reply}
use Rattle.ftp_server_model.specs.Texts.{fixed_reply_code, text_of}
use Rattle.ftp_server_model.specs.View.{Session, View as Far}
use Rattle.ftp_server_model.specs.declared.reply.ReplyKind.TheVariants as Replies
use Rattle.ftp_server_model.specs.declared.reply.FixedReply.{FixedReply}
use Rattle.ftp_server_model.specs.declared.reply.FixedReply.TheVariants as Texts
use Rattle.ftp_command.proofs.CarriedLemmas.{carried}
use Rattle.laws_dialogues.specs.Stage.{calm, line_octets, IsAlone, behind, Leads}
use Rattle.laws_dialogues.specs.Dialogue.{FarWaits, Passes, Stands, resting, doing}
use Rattle.laws_dialogues.proofs.ServerTurns.{cleared, decides, decides_known}
use Rattle.laws_dialogues.proofs.Exchanges.{IsSent, with_session, exchange}

-- the client is placed at a step, and its command, if it has one, leads to the goal
pub record LeadsFrom (read : Reading) (Along Goal : Near → Far → Type 0) (op : Op (List ℕ)) (step : Step) (n : Near) (f : Far) : Type 0 where
  pub near : Near
  pub line : Option (List ℕ)
  pub left : ℕ
  pub placed_so : (job : Job) → placed op step (record (calm (resting n)) { job = job }) ≡ record (calm near) { owed = line_octets line }
  pub fine : IsAlone line []
  pub leads : Leads read Along Goal left (behind line []) near f

-- a client with other settings
abbrev pub near_set : Representation → Near → Near
near_set settings n = record n { settings = settings }

-- the session of a server with other settings
abbrev pub session_set : Representation → Session → Session
session_set settings s = record s { settings = settings }

-- a server with these settings, to which a line came
abbrev pub far_set : Representation → Far → Far
far_set settings f = with_session (session_set settings (cleared f)) f

-- the ends stand with other settings as they did, if both have the same
stands_set : (state : State) (settings : Representation) (n : Near) (f : Far) → Stands state n f → Stands state (near_set settings n) (far_set settings f)
stands_set state settings n f stands = record {
  meets = record { peer = stands.meets.peer; here = stands.meets.here; typed = stands.meets.typed; own = stands.meets.own; family = stands.meets.family; all_ways = stands.meets.all_ways };
  far = record { aside = stands.far.aside; closing = stands.far.closing; life = stands.far.life };
  sees = record { table = stands.sees.table; known = stands.sees.known; root = stands.sees.root; rights = stands.sees.rights; cwd = stands.sees.cwd };
  settings = refl;
  facts = stands.facts;
}

-- one setting is made: its command and reply, and what follows
module _ (read : Reading) (state : State) (after : Table) (Goal : Near → Far → Type 0) (op : Op (List ℕ)) (reads : IsReading read) (known : state.known ≡ true) where
  abbrev Along : Near → Far → Type 0
  Along n f = Passes state.table after n f

  -- the command of a setting that the server accepts leads to the goal, if the step behind it does with the new settings
  one_set : (step next : Step) (command : Command (List ℕ)) (text : FixedReply) (settings : Representation) (n : Near) (f : Far) → Stands state n f
      → IsSent read command → decides command f ≡ (session_set settings (cleared f), Replies.Fixed text)
      → ((job : Job) → placed op step (record (calm (resting n)) { job = job }) ≡ record (calm (doing op step n)) { owed = written_line (line_of command) })
      → answered (fixed_reply_code text) (text_of text ∷ []) (calm (doing op step n)) ≡ placed op next (record (calm (resting (near_set settings n))) { job = Doing op step })
      → LeadsFrom read Along Goal op next (near_set settings n) (far_set settings f) → LeadsFrom read Along Goal op step n f
  one_set step next command text settings n f stands sent decided placed_so heard onward =
      let later : FarWaits (far_set settings f) = record { aside = stands.far.aside; closing = stands.far.closing; life = stands.far.life } in
      record {
        near = doing op step n;
        line = Some (line_of command);
        left = suc (suc onward.left);
        placed_so = placed_so;
        fine = (carried command sent.typed sent.stated, refl);
        leads = exchange read Along Goal onward.left command (doing op step n) onward.near onward.line f (session_set settings (cleared f)) sent stands.far later
            (record {
              kind = Replies.Fixed text;
              reply = fixed_reply text;
              decided = decided;
              within = tt;
              said = refl;
              heard = heard ∙ onward.placed_so (Doing op step);
            })
            (record { near = record { sound = refl; connection = refl; closing = refl }; far = stands.far; busy = refl; untold = refl; table = inl stands.sees.table })
            (record { near = record { sound = refl; connection = refl; closing = refl }; far = later; busy = refl; untold = refl; table = inl stands.sees.table })
            onward.fine
            onward.leads;
      }

  -- ---- the three of them, from the last to the first

  -- what follows behind all settings
  module _ (wanted : Representation) (asks : asked_settings op ≡ Some wanted)
      (behind : (n : Near) (f : Far) → Stands state n f → n.settings ≡ wanted → LeadsFrom read Along Goal op (opening_of (how_of op) op) n f) where
    -- a setting's own command is sent
    kind_placed : (n : Near) (job : Job) → placed op Steps.Kind (record (calm (resting n)) { job = job })
        ≡ record (calm (doing op Steps.Kind n)) { owed = written_line (line_of (Commands.Repr wanted.kind)) }
    kind_placed n job = ap (λ asked. sends_if (set_command Steps.Kind asked) (calm (doing op Steps.Kind n))) asks

    -- a client placed at STRU owes that command, or goes on where it is in force
    structure_placed : (n : Near) (job : Job) → placed op Steps.Structure (record (calm (resting n)) { job = job })
        ≡ record (calm (doing op Steps.Structure n)) { owed = written_line (line_of (Commands.Stru wanted.structure)) }
    structure_placed n job = ap (λ asked. sends_if (set_command Steps.Structure asked) (calm (doing op Steps.Structure n))) asks

    -- a client placed at MODE owes that command, or goes on where it is in force
    mode_placed : (n : Near) (job : Job) → placed op Steps.Mode (record (calm (resting n)) { job = job })
        ≡ record (calm (doing op Steps.Mode n)) { owed = written_line (line_of (Commands.Mode wanted.mode)) }
    mode_placed n job = ap (λ asked. sends_if (set_command Steps.Mode asked) (calm (doing op Steps.Mode n))) asks

    -- and its 200 is heard
    mode_heard : (n : Near) → answered 200 (text_of Texts.ModeSet ∷ []) (calm (doing op Steps.Mode n))
        ≡ placed op (opening_of (how_of op) op) (record (calm (resting (near_set (record n.settings { mode = wanted.mode }) n))) { job = Doing op Steps.Mode })
    unfolding answered
    mode_heard n = ap (λ asked. goes_on op Steps.Mode (record (calm (doing op Steps.Mode n)) { settings = settings_behind Steps.Mode n.settings asked })) asks

    -- 200 after STRU leads on to MODE
    structure_heard : (n : Near) → answered 200 (text_of Texts.StructureSet ∷ []) (calm (doing op Steps.Structure n))
        ≡ placed op (from_mode (record n.settings { structure = wanted.structure }) wanted (opening_of (how_of op) op))
        (record (calm (resting (near_set (record n.settings { structure = wanted.structure }) n))) { job = Doing op Steps.Structure })
    unfolding answered
    structure_heard n =
        ap (λ asked. placed op (step_by from_mode asked (settings_behind Steps.Structure n.settings asked) op)
        (record (calm (doing op Steps.Structure n)) { settings = settings_behind Steps.Structure n.settings asked })) asks

    -- 200 after TYPE leads on to STRU
    kind_heard : (n : Near) → answered 200 (text_of Texts.TypeSet ∷ []) (calm (doing op Steps.Kind n))
        ≡ placed op (from_structure (record n.settings { kind = wanted.kind }) wanted (opening_of (how_of op) op))
        (record (calm (resting (near_set (record n.settings { kind = wanted.kind }) n))) { job = Doing op Steps.Kind })
    unfolding answered
    kind_heard n =
        ap (λ asked. placed op (step_by from_structure asked (settings_behind Steps.Kind n.settings asked) op)
        (record (calm (doing op Steps.Kind n)) { settings = settings_behind Steps.Kind n.settings asked })) asks

    -- the settings that the server has are those of the client
    set_is : (change : Representation → Representation) (n : Near) (f : Far) → Stands state n f → session_set (change f.session.settings) (cleared f) ≡ session_set (change n.settings) (cleared f)
    set_is change n f stands = ap (λ settings. session_set (change settings) (cleared f)) stands.settings

    -- ---- from MODE on

    -- modes that are the same are equal
    mode_is : (one other : Mode) → same_mode one other ≡ true → one ≡ other
    mode_is Modes.Stream Modes.Stream e = refl
    mode_is Modes.Block Modes.Block e = refl
    mode_is Modes.Stream Modes.Block e = absurd (cc)
    mode_is Modes.Block Modes.Stream e = absurd (cc)

    -- structures that are the same are equal
    structure_is : (one other : Structure) → same_structure one other ≡ true → one ≡ other
    structure_is Structures.File Structures.File e = refl
    structure_is Structures.Record Structures.Record e = refl
    structure_is Structures.File Structures.Record e = absurd (cc)
    structure_is Structures.Record Structures.File e = absurd (cc)

    -- types that are the same are equal
    kind_is : (one other : Kind) → same_kind one other ≡ true → one ≡ other
    kind_is Kinds.Ascii Kinds.Ascii e = refl
    kind_is Kinds.Image Kinds.Image e = refl
    kind_is Kinds.Ascii Kinds.Image e = absurd (cc)
    kind_is Kinds.Image Kinds.Ascii e = absurd (cc)

    abbrev From : Step → Near → Far → Type 0
    From step n f = LeadsFrom read Along Goal op step n f

    -- where type and structure are in force, the rest of the settings leads on
    mode_leads : (n : Near) (f : Far) → Stands state n f → n.settings.kind ≡ wanted.kind → n.settings.structure ≡ wanted.structure
        → From (from_mode n.settings wanted (opening_of (how_of op) op)) n f
    mode_leads n f stands kind structure = by_same (same_mode n.settings.mode wanted.mode) refl
      where
        by_same : (b : Bool) → same_mode n.settings.mode wanted.mode ≡ b → From (if b then opening_of (how_of op) op else Steps.Mode) n f
        by_same true same =
            behind n f stands (λ i. record { kind = kind i; structure = structure i; mode = mode_is n.settings.mode wanted.mode same i })
        by_same false other =
            one_set Steps.Mode (opening_of (how_of op) op) (Commands.Mode wanted.mode) Texts.ModeSet (record n.settings { mode = wanted.mode }) n f stands
            (record { reads = reads; typed = tt; stated = tt; other = refl })
            (decides_known (Commands.Mode wanted.mode) f (stands.sees.known ∙ known)
            ∙ ap (λ s. (s, Replies.Fixed Texts.ModeSet)) (set_is (λ settings. record settings { mode = wanted.mode }) n f stands))
            (mode_placed n) (mode_heard n)
            (behind (near_set (record n.settings { mode = wanted.mode }) n) (far_set (record n.settings { mode = wanted.mode }) f) (stands_set state (record n.settings { mode = wanted.mode }) n f stands)
            (λ i. record { kind = kind i; structure = structure i; mode = wanted.mode }))

    -- where the type is in force, the rest of the settings leads on
    structure_leads : (n : Near) (f : Far) → Stands state n f → n.settings.kind ≡ wanted.kind
        → From (from_structure n.settings wanted (opening_of (how_of op) op)) n f
    structure_leads n f stands kind = by_same (same_structure n.settings.structure wanted.structure) refl
      where
        by_same : (b : Bool) → same_structure n.settings.structure wanted.structure ≡ b
            → From (if b then from_mode n.settings wanted (opening_of (how_of op) op) else Steps.Structure) n f
        by_same true same = mode_leads n f stands kind (structure_is n.settings.structure wanted.structure same)
        by_same false other =
            let settings : Representation = record n.settings { structure = wanted.structure } in
            one_set Steps.Structure (from_mode settings wanted (opening_of (how_of op) op)) (Commands.Stru wanted.structure) Texts.StructureSet settings n f stands
            (record { reads = reads; typed = tt; stated = tt; other = refl })
            (decides_known (Commands.Stru wanted.structure) f (stands.sees.known ∙ known)
            ∙ ap (λ s. (s, Replies.Fixed Texts.StructureSet)) (set_is (λ settings. record settings { structure = wanted.structure }) n f stands))
            (structure_placed n) (structure_heard n)
            (mode_leads (near_set settings n) (far_set settings f) (stands_set state settings n f stands) kind refl)

    -- the settings of an operation lead on from any that are in force
    pub settings_lead : (n : Near) (f : Far) → Stands state n f → From (from_kind n.settings wanted (opening_of (how_of op) op)) n f
    settings_lead n f stands = by_same (same_kind n.settings.kind wanted.kind) refl
      where
        by_same : (b : Bool) → same_kind n.settings.kind wanted.kind ≡ b
            → From (if b then from_structure n.settings wanted (opening_of (how_of op) op) else Steps.Kind) n f
        by_same true same = structure_leads n f stands (kind_is n.settings.kind wanted.kind same)
        by_same false other =
            let settings : Representation = record n.settings { kind = wanted.kind } in
            one_set Steps.Kind (from_structure settings wanted (opening_of (how_of op) op)) (Commands.Repr wanted.kind) Texts.TypeSet settings n f stands
            (record { reads = reads; typed = tt; stated = tt; other = refl })
            (decides_known (Commands.Repr wanted.kind) f (stands.sees.known ∙ known)
            ∙ ap (λ s. (s, Replies.Fixed Texts.TypeSet)) (set_is (λ settings. record settings { kind = wanted.kind }) n f stands))
            (kind_placed n) (kind_heard n)
            (structure_leads (near_set settings n) (far_set settings f) (stands_set state settings n f stands) refl)
