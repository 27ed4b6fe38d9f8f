-- SIZE, behind the settings that it is asked in, and MDTM.
use Rattle.std.proofs.Common.{◌≡◌, ℕ, ◌<◌, ◌≤◌, ◌^◌, Bool, true, false, List, [], ◌∷◌, Option, Some, None, refl, sym, ap, subst, ◌∙◌, arith, decimal}
use Rattle.std.specs.Prelude.{if◌then◌else◌}
use Rattle.std.specs.Option.{option_map, option_or, unwrap_or}
use Rattle.std.specs.Str.Parse.{AllDigits, digits_value}
use Rattle.std.proofs.lemmas.Str.Parse.{IsNumeralModel}
use Rattle.std.proofs.lemmas.Bool.{ltb-true}
use Rattle.std.proofs.lemmas.Fmt.{digits_decimal, digits_value-decimal, length-decimal-le, decimal_nonempty}
use Rattle.ftp_nvt.specs.Lines.{written_line}
use Rattle.ftp_command.specs.Line.{IsStated, IsTyped, line_of}
use Rattle.ftp_command.specs.declared.command.Command.{Command}
use Rattle.ftp_command.specs.declared.command.Command.TheVariants as Commands
use Rattle.ftp_facts.specs.Moment.{moment_digits, moment_value}
use Rattle.ftp_facts.specs.Value.{number_value}
use Rattle.ftp_facts.proofs.DigitsLemmas.{moment_digits-write}
use Rattle.ftp_facts.proofs.MomentLemmas.{WritesMoment-says}
use Rattle.ftp_facts.proofs.MomentValueLemmas.{says_moment}
use Rattle.ftp_facts.proofs.NumberLemmas.{says_number}
use Rattle.ftp_operation.specs.Answer.{Said, Number, Stamp, Refused}
use Rattle.ftp_operation.specs.Operation.{can_be_sent, is_number}
use Rattle.ftp_operation.specs.declared.op.How.{How}
use Rattle.ftp_operation.specs.declared.op.Op.{Op}
use Rattle.ftp_operation.specs.declared.op.Op.TheVariants as Ops
use Rattle.ftp_path.specs.Path.{Names, IsPathText}
use Rattle.ftp_direct.specs.Direct.{State, answer, chosen, done, named, part, refusal, refused_file, refused_number, refused_size, file_of, size_in}
use Rattle.ftp_direct.proofs.PlaceLemmas.{told_size}
use Rattle.ftp_direct.specs.declared.refusal.Refusal.{Refusal}
use Rattle.ftp_direct.specs.declared.refusal.Refusal.TheVariants as Refusals
use Rattle.ftp_settings.specs.Representation.{same_kind, same_structure, same_mode}
use Rattle.ftp_settings.specs.declared.representation.Structure.TheVariants as Structures
use Rattle.ftp_settings.specs.declared.representation.Mode.TheVariants as Modes
use Rattle.ftp_settings.specs.declared.representation.Representation.{Representation}
use Rattle.ftp_tree.specs.Sound.{last_second}
use Rattle.ftp_tree.specs.Map.{Node, Dir, File, of_node, moment_of}
use Rattle.ftp_tree.specs.Tree.{node_at, stamp_at}
use Rattle.ftp_client_model.specs.Dialogue.{placed, awaits_reply}
use Rattle.ftp_client_model.specs.Plan.{own_command, first_step, from_structure, from_mode}
use Rattle.ftp_client_model.specs.View.{View as Near, Job}
use Rattle.ftp_client_model.specs.declared.client.Step.{Step}
use Rattle.ftp_client_model.specs.declared.client.Step.TheVariants as Steps
use Rattle.ftp_server_model.specs.Act.{is_free, is_transfer}
use Rattle.ftp_server_model.specs.Ask.{has_size, stamp_of}
use Rattle.ftp_server_model.specs.Machine.{Reading, IsReading, is_abor}
use Rattle.ftp_server_model.specs.Replies.{reply_of, tells}
use Rattle.ftp_server_model.specs.View.{View as Far, direct_of, how_in_force}
use Rattle.ftp_server_model.specs.Walk.{unless}
use Rattle.ftp_server_model.specs.declared.heard.HeardLine.TheVariants.{Asks}
use Rattle.ftp_server_model.specs.declared.reply.ReplyKind.TheVariants as Replies
use Rattle.ftp_server_model.specs.declared.reply.FixedReply.TheVariants as Texts
use Rattle.ftp_command.proofs.CarriedLemmas.{carried}
use Rattle.laws_dialogues.specs.Stage.{calm}
use Rattle.laws_dialogues.specs.Dialogue.{Passes, Stands, Ends, IsSound, resting, doing}
use Rattle.laws_dialogues.specs.Operations.{LeadsToAnswer}
use Rattle.laws_dialogues.proofs.ServerTurns.{cleared, decides, decides_known, decides_unknown}
use Rattle.laws_dialogues.proofs.Exchanges.{IsSent, near_told_is}
use Rattle.laws_dialogues.proofs.Rows.{keeps_cleared, sees_cleared, direct_is, last_exchange, refused_exchange, answer_known, answer_unknown}
use Rattle.laws_dialogues.proofs.Settings.{LeadsFrom, settings_lead}
use Rattle.laws_dialogues.proofs.Single.{Accepts, IsSingle}

-- ---- numbers in replies

-- decimal digits and their value are a model of numerals
own : IsNumeralModel (AllDigits 10) (digits_value 10)
own = record { to = λ ds all. all; from = λ ds all. all; same = λ ds all. refl }

-- the digits of a number below 10 ^ 18 are read as that number
pub decimal-reads : (n : ℕ) → n < 10 ^ 18 → number_value (decimal n) ≡ Some n
decimal-reads n small =
    let fit : n < 2 ^ 64 = omega (arith, small) in
    says_number (decimal n) n
    (((decimal_nonempty n fit, digits_decimal own n fit), length-decimal-le 18 n (omega arith) (omega (arith, small)) fit), sym (digits_value-decimal own n fit))

-- the digits of a moment that is not too late are read as that moment
pub moment-reads : (moment : ℕ) → moment ≤ last_second → moment_value (moment_digits moment) ≡ Some moment
moment-reads moment early =
    says_moment (moment_digits moment) moment (WritesMoment-says (moment_digits moment) moment (moment_digits-write moment early))

-- ---- MDTM

-- in a sound state no stamp of a path is too late to be told
stamp-early : (state : State) (path : Names) → IsSound state → unwrap_or (stamp_at (part state) path) 0 ≤ last_second
unfolding stamp_at
stamp-early state path sound = by_node (node_at (part state) path) refl
  where
    by_node : (node : Option Node) → node_at (part state) path ≡ node → unwrap_or (of_node moment_of node) 0 ≤ last_second
    by_node None is = omega arith
    by_node (Some Dir) is = omega arith
    by_node (Some (File octets moment)) is = (sound.files path octets moment is).0

-- a server that knows the login replies to MDTM with the stamp of the path, and the client hears it as the answer
modified_accepts : (text : List ℕ) (state : State) (moment : ℕ) (n : Near) (f : Far) → IsSound state → Stands state n f → state.known ≡ true
    → Accepts (Ops.Modified text) (done state (Ops.Modified text) moment) n f (cleared f, Replies.Stamp (moment_digits (stamp_of (cleared f) text)))
modified_accepts text state moment n f sound stands known =
    let same : direct_of (cleared f) ≡ state = direct_is state (cleared f) (sees_cleared state f stands.sees) known in
    let stamp : ℕ = unwrap_or (stamp_at (part state) (named state text)) 0 in
    let is : stamp_of (cleared f) text ≡ stamp = ap (λ s. unwrap_or (stamp_at (part s) (named s text)) 0) same in
    let early : stamp ≤ last_second = stamp-early state (named state text) sound in
    let T : ℕ → Type 0 = λ at. Accepts (Ops.Modified text) (Stamp stamp, state) n f (cleared f, Replies.Stamp (moment_digits at)) in
    subst T (sym is) (record {
      keeps = keeps_cleared f;
      sees = sees_cleared state f stands.sees;
      reply = reply_of 213 (moment_digits stamp);
      within = (stamp, refl);
      said = refl;
      heard = near_told_is (Ops.Modified text) n 213 (moment_digits stamp ∷ []) (Stamp stamp) refl (ap (option_map Stamp) (moment-reads stamp early));
    })

-- MDTM is one command, with the stamp of its path as the reply
pub modified : (read : Reading) (text : List ℕ) → IsReading read → IsPathText text
    → IsSingle read (Ops.Modified text) (λ s. (s, Replies.Stamp (moment_digits (stamp_of s text))))
modified read text reads is = record {
  sent = record { reads = reads; typed = tt; stated = is; other = refl };
  line = carried (own_command (Ops.Modified text)) tt is;
  begins_so = λ job n. refl;
  row = λ context pending s. refl;
  guarded = refl;
  no_transfer = refl;
  accepts = λ state moment n f sound stands known none. modified_accepts text state moment n f sound stands known;
}

-- ---- SIZE

-- the settings that it is asked in
abbrev size_settings : How → Representation
size_settings how = record { kind = how.representation.kind; structure = Structures.File; mode = Modes.Stream }

-- a count that is not refused is below 10 ^ 18
number_short : (count : ℕ) → refused_number count ≡ None → count < 10 ^ 18
number_short count none = by_number (is_number count) refl
  where
    by_number : (b : Bool) → is_number count ≡ b → count < 10 ^ 18
    by_number true e = ltb-true count (10 ^ 18) e
    by_number false e = absurd (let f : Some Refusals.Unavailable ≡ None = ap (λ (b : Bool). if b then None else Some Refusals.Unavailable) (sym e) ∙ none in cc)

-- where neither of two refuses, the second does not
second_none : (one other : Option Refusal) → option_or one other ≡ None → other ≡ None
second_none None other none = none
second_none (Some why) other none = absurd (cc)

module _ (read : Reading) (text : List ℕ) (how : How) (reads : IsReading read) (is : IsPathText text) (state : State) (known : state.known ≡ true) where
  -- SIZE of a path text can go to the server as a command other than ABOR
  sent : IsSent read (Commands.Size text)
  sent = record { reads = reads; typed = tt; stated = is; other = refl }

  -- in the settings of SIZE the server refuses it for the reason that the state has, or replies with the size
  size_decided : (n : Near) (f : Far) → Stands state n f → n.settings ≡ size_settings how → (why : Option Refusal) → refusal state (Ops.Size text how) ≡ why
      → decides (Commands.Size text) f ≡ unless why (cleared f) (cleared f, Replies.Size (size_in how.representation.kind (file_of state text)))
  size_decided n f stands set why refused =
      decides_known (Commands.Size text) f (stands.sees.known ∙ known)
      ∙ ap (λ settings. if has_size settings then unless (refusal (direct_of (cleared f)) (Ops.Size text (how_in_force settings))) (cleared f) (cleared f, Replies.Size (size_in settings.kind (file_of (direct_of (cleared f)) text))) else tells Texts.Refused (cleared f))
      (stands.settings ∙ set)
      ∙ ap (λ s. unless (refusal s (Ops.Size text how)) (cleared f) (cleared f, Replies.Size (size_in how.representation.kind (file_of s text))))
      (direct_is state (cleared f) (sees_cleared state f stands.sees) known)
      ∙ ap (λ w. unless w (cleared f) (cleared f, Replies.Size (size_in how.representation.kind (file_of state text)))) refused

  -- in its settings SIZE leads to the size, or to its refusal
  size_last : (result : Said × State) (n : Near) (f : Far) → Stands state n f → n.settings ≡ size_settings how → (why : Option Refusal) → refusal state (Ops.Size text how) ≡ why
      → result ≡ chosen why state (done state (Ops.Size text how) 0)
      → LeadsFrom read (Passes state.table result.1.table) (Ends result) (Ops.Size text how) Steps.Last n f
  size_last result n f stands set None none result_is =
      let octets : List ℕ = file_of state text in
      let count : ℕ = size_in how.representation.kind octets in
      let small : count < 10 ^ 18 = number_short count (told_size how.representation.kind octets (second_none (refused_file state text) (refused_size how.representation.kind octets) none)) in
      let T : Said × State → Type 0 = λ r. LeadsFrom read (Passes state.table r.1.table) (Ends r) (Ops.Size text how) Steps.Last n f in
      subst T (sym result_is) (record {
        near = doing (Ops.Size text how) Steps.Last n;
        line = Some (line_of (Commands.Size text));
        left = 2;
        placed_so = λ job. refl;
        fine = (carried (Commands.Size text) tt is, refl);
        leads = last_exchange read state.table (Ops.Size text how) Steps.Last (Commands.Size text) (Number count, state) n f (cleared f) sent stands.far stands.sees.table
            stands.settings stands.facts stands.meets (keeps_cleared f) (sees_cleared state f stands.sees)
            (record {
              kind = Replies.Size count;
              reply = reply_of 213 (decimal count);
              decided = size_decided n f stands set None none;
              within = small;
              said = refl;
              heard = near_told_is (Ops.Size text how) n 213 (decimal count ∷ []) (Number count) refl (ap (option_map Number) (decimal-reads count small));
            });
      })
  size_last result n f stands set (Some why) some result_is =
      let T : Said × State → Type 0 = λ r. LeadsFrom read (Passes state.table r.1.table) (Ends r) (Ops.Size text how) Steps.Last n f in
      subst T (sym result_is) (record {
        near = doing (Ops.Size text how) Steps.Last n;
        line = Some (line_of (Commands.Size text));
        left = 2;
        placed_so = λ job. refl;
        fine = (carried (Commands.Size text) tt is, refl);
        leads = last_exchange read state.table (Ops.Size text how) Steps.Last (Commands.Size text) (chosen (Some why) state (done state (Ops.Size text how) 0)) n f (cleared f) sent stands.far stands.sees.table
            stands.settings stands.facts stands.meets (keeps_cleared f) (sees_cleared state f stands.sees)
            (refused_exchange (Ops.Size text how) Steps.Last (Commands.Size text) why n f refl (size_decided n f stands set (Some why) some));
      })

  -- where the login is known, SIZE leads to its size or its refusal behind the settings that it needs
  pub size_known : (result : Said × State) (n : Near) (f : Far) → Stands state n f → result ≡ chosen (refusal state (Ops.Size text how)) state (done state (Ops.Size text how) 0)
      → LeadsToAnswer read state (Ops.Size text how) result n f
  size_known result n f stands result_is =
      let on = settings_lead read state result.1.table (Ends result) (Ops.Size text how) reads known (size_settings how) refl
      (λ n f stands set. size_last result n f stands set (refusal state (Ops.Size text how)) refl result_is) n f stands in
      record { near = on.near; line = on.line; left = on.left; begins_so = on.placed_so; fine = on.fine; leads = on.leads }

-- ---- a login that is not known: the first command is refused

module _ (read : Reading) (op : Op (List ℕ)) (reads : IsReading read) (state : State) (n : Near) (f : Far) (stands : Stands state n f) (unknown : state.known ≡ false) where
  -- where the login is not known, a command that needs one leads to 530, and the state stays as it is
  pub refused_at : (step : Step) (command : Command (List ℕ)) → IsSent read command → is_free command ≡ false → is_transfer command ≡ false → awaits_reply step ≡ true
      → ((job : Job) → placed op step (record (calm (resting n)) { job = job }) ≡ record (calm (doing op step n)) { owed = written_line (line_of command) })
      → LeadsFrom read (Passes state.table state.table) (Ends (Refused 530, state)) op step n f
  refused_at step command sent free transfer awaits placed_so = record {
    near = doing op step n;
    line = Some (line_of command);
    left = 2;
    placed_so = placed_so;
    fine = (carried command sent.typed sent.stated, refl);
    leads = last_exchange read state.table op step command (Refused 530, state) n f (cleared f) sent stands.far stands.sees.table stands.settings stands.facts stands.meets
        (keeps_cleared f) (sees_cleared state f stands.sees)
        (refused_exchange op step command Refusals.NotLoggedIn n f awaits (decides_unknown command f (stands.sees.known ∙ unknown) free transfer));
  }

-- where the login is not known, the first command for SIZE leads to 530, be it a setting or SIZE itself
size_unknown : (read : Reading) (text : List ℕ) (how : How) (reads : IsReading read) (is : IsPathText text) (state : State) (n : Near) (f : Far) → Stands state n f → state.known ≡ false
    → LeadsFrom read (Passes state.table state.table) (Ends (Refused 530, state)) (Ops.Size text how) (first_step n.settings (Ops.Size text how)) n f
size_unknown read text how reads is state n f stands unknown = by_kind (same_kind n.settings.kind how.representation.kind)
  where
    From : Step → Type 0
    From step = LeadsFrom read (Passes state.table state.table) (Ends (Refused 530, state)) (Ops.Size text how) step n f

    sent : (command : Command (List ℕ)) → IsTyped command → IsStated command → is_abor (Asks command) ≡ false → IsSent read command
    sent command typed stated other = record { reads = reads; typed = typed; stated = stated; other = other }

    by_mode : (b : Bool) → From (if b then Steps.Last else Steps.Mode)
    by_mode true = refused_at read (Ops.Size text how) reads state n f stands unknown Steps.Last (Commands.Size text) (sent (Commands.Size text) tt is refl) refl refl refl (λ job. refl)
    by_mode false = refused_at read (Ops.Size text how) reads state n f stands unknown Steps.Mode (Commands.Mode Modes.Stream) (sent (Commands.Mode Modes.Stream) tt tt refl) refl refl refl (λ job. refl)

    by_structure : (b : Bool) → From (if b then from_mode n.settings (size_settings how) Steps.Last else Steps.Structure)
    by_structure true = by_mode (same_mode n.settings.mode Modes.Stream)
    by_structure false = refused_at read (Ops.Size text how) reads state n f stands unknown Steps.Structure (Commands.Stru Structures.File) (sent (Commands.Stru Structures.File) tt tt refl) refl refl refl (λ job. refl)

    by_kind : (b : Bool) → From (if b then from_structure n.settings (size_settings how) Steps.Last else Steps.Kind)
    by_kind true = by_structure (same_structure n.settings.structure Structures.File)
    by_kind false =
        refused_at read (Ops.Size text how) reads state n f stands unknown Steps.Kind (Commands.Repr how.representation.kind) (sent (Commands.Repr how.representation.kind) tt tt refl) refl refl refl (λ job. refl)

-- SIZE that can be sent leads to its answer
pub size_leads : (read : Reading) (text : List ℕ) (how : How) (moment : ℕ) → IsReading read → IsPathText text → (state : State) (n : Near) (f : Far) → Stands state n f
    → can_be_sent (Ops.Size text how) ≡ true → LeadsToAnswer read state (Ops.Size text how) (answer state (Ops.Size text how) moment) n f
size_leads read text how moment reads is state n f stands can = by_known state.known refl
  where
    by_known : (b : Bool) → state.known ≡ b → LeadsToAnswer read state (Ops.Size text how) (answer state (Ops.Size text how) moment) n f
    by_known true known =
        size_known read text how reads is state known (answer state (Ops.Size text how) moment) n f stands
        (sym (answer_known state (Ops.Size text how) moment (refusal state (Ops.Size text how)) can known refl))
    by_known false unknown =
        let on = size_unknown read text how reads is state n f stands unknown in
        subst (λ result. LeadsToAnswer read state (Ops.Size text how) result n f) (answer_unknown state (Ops.Size text how) moment can unknown)
        (record { near = on.near; line = on.line; left = on.left; begins_so = on.placed_so; fine = on.fine; leads = on.leads })
