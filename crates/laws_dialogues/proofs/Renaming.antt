-- A rename: RNFR and RNTO, each refused or done.
use Rattle.std.proofs.Common.{◌≡◌, inl, ℕ, Bool, true, false, List, [], ◌∷◌, Option, Some, None, refl, sym, ap, subst, ◌∙◌}
use Rattle.std.specs.Prelude.{codes, if◌then◌else◌}
use Rattle.ftp_nvt.specs.Lines.{written_line}
use Rattle.ftp_command.specs.Line.{line_of}
use Rattle.ftp_command.specs.declared.command.Command.TheVariants as Commands
use Rattle.ftp_operation.specs.Answer.{Said, Done, Refused}
use Rattle.ftp_operation.specs.Operation.{can_be_sent}
use Rattle.ftp_operation.specs.declared.op.Op.TheVariants as Ops
use Rattle.ftp_path.specs.Path.{Names, IsPathText, fits, resolved}
use Rattle.ftp_direct.specs.Direct.{State, answer, barred, changed, done, named, part, refusal, target_part, limited, refused_there, refused_name, busy_refusal, or_refused}
use Rattle.ftp_direct.specs.Refusal.{code_of}
use Rattle.ftp_direct.specs.declared.refusal.Refusal.{Refusal}
use Rattle.ftp_direct.specs.declared.refusal.Refusal.TheVariants as Refusals
use Rattle.ftp_tree.specs.Tree.{Table, or_else, freed, moved, source_refusal, target_refusal, rename_refusal}
use Rattle.ftp_tree.specs.declared.fault.TreeFault.{TreeFault}
use Rattle.ftp_tree.specs.declared.fault.TreeFault.TheVariants as Faults
use Rattle.ftp_tree.proofs.KeepLaws.{freed-source}
use Rattle.ftp_client_model.specs.Dialogue.{answered}
use Rattle.ftp_client_model.specs.View.{View as Near}
use Rattle.ftp_client_model.specs.declared.client.Step.TheVariants as Steps
use Rattle.ftp_server_model.specs.Machine.{Reading, IsReading}
use Rattle.ftp_server_model.specs.Replies.{fixed_reply}
use Rattle.ftp_server_model.specs.View.{Session, View as Far, direct_of, as_direct}
use Rattle.ftp_server_model.specs.Walk.{unless, refusal_text, path_of}
use Rattle.ftp_server_model.specs.declared.reply.ReplyKind.TheVariants as Replies
use Rattle.ftp_server_model.specs.declared.reply.FixedReply.TheVariants as Texts
use Rattle.ftp_server_model.specs.declared.session.Pending.TheVariants as Pendings
use Rattle.ftp_command.proofs.CarriedLemmas.{carried}
use Rattle.laws_dialogues.specs.Stage.{calm, Asking, Leads}
use Rattle.laws_dialogues.specs.Dialogue.{FarWaits, Sees, Passes, Stands, Ends, doing, told}
use Rattle.laws_dialogues.specs.Operations.{LeadsToAnswer}
use Rattle.laws_dialogues.proofs.ServerTurns.{cleared, decides, decides_known, decides_unknown}
use Rattle.laws_dialogues.proofs.Exchanges.{IsSent, with_session, Exchange, exchange, near_told_is}
use Rattle.laws_dialogues.proofs.Rows.{Keeps, keeps_cleared, waits_on, sees_cleared, direct_is, last_exchange, refused_exchange, may_none, answer_known, answer_unknown}

-- ---- the two reasons of the direct run are those of the two commands

-- why RNFR is refused
abbrev pub source_why : State → List ℕ → Option Refusal
source_why state text =
    or_refused (barred state.rights.rename)
    (refused_there (limited (named state text) (or_else (source_refusal (part state) (named state text)) (busy_refusal state (named state text)))))

-- why RNTO is refused: what RNFR named is asked for again
abbrev pub target_why : State → List ℕ → List ℕ → Option Refusal
target_why state text new =
    or_refused (source_why state text)
    (refused_name (limited (named state new) (rename_refusal (target_part state text new) (named state text) (named state new))))

-- the reason of the direct run for the new name
abbrev pub direct_target_why : State → List ℕ → List ℕ → Option Refusal
direct_target_why state text new = refused_name (limited (named state new) (target_refusal (target_part state text new) (named state text) (named state new)))

-- no refusal by what stands there means no fault of the tree
pub none_there : (why : Option TreeFault) → refused_there why ≡ None → why ≡ None
none_there None none = refl
none_there (Some fault) none = absurd (cc)

-- no refusal by the new name means no fault of the tree
pub none_name : (why : Option TreeFault) → refused_name why ≡ None → why ≡ None
none_name None none = refl
none_name (Some fault) none = absurd (cc)

-- no fault with the limits of paths counted means no fault without them
pub none_limited : (path : Names) (why : Option TreeFault) → limited path why ≡ None → why ≡ None
none_limited path why none = by_fit (fits path) refl
  where
    by_fit : (b : Bool) → fits path ≡ b → why ≡ None
    by_fit true e = ap (λ (b : Bool). if b then why else Some Faults.TooBig) (sym e) ∙ none
    by_fit false e = absurd (let f : Some Faults.TooBig ≡ None = ap (λ (b : Bool). if b then why else Some Faults.TooBig) (sym e) ∙ none in cc)

-- if neither of two faults is there, the first is not
pub first_none : (one other : Option TreeFault) → or_else one other ≡ None → one ≡ None
first_none None other none = refl
first_none (Some fault) other none = absurd (cc)

-- if RNFR is not refused, the tree has nothing against the old name
pub source_none : (state : State) (text : List ℕ) → source_why state text ≡ None → source_refusal (part state) (named state text) ≡ None
source_none state text none =
    first_none _ (busy_refusal state (named state text)) (none_limited (named state text) _ (none_there _ (may_none state.rights.rename _ none)))

-- so behind an RNFR that was taken the second reasons are one
pub same_target : (state : State) (text new : List ℕ) → source_why state text ≡ None → target_why state text new ≡ direct_target_why state text new
unfolding rename_refusal
same_target state text new none =
    ap (λ why. or_refused why (refused_name (limited (named state new) (rename_refusal (target_part state text new) (named state text) (named state new)))))
    none
    ∙ ap (λ why. refused_name (limited (named state new) (or_else why (target_refusal (target_part state text new) (named state text) (named state new)))))
    (freed-source state.rights.onto (part state) (named state text) (named state new) ∙ source_none state text none)

-- if neither of two reasons is there, the last is not
pub last_none : (one other : Option Refusal) → or_refused one other ≡ None → other ≡ None
last_none None other none = none
last_none (Some why) other none = absurd (cc)

-- the first of three reasons is the same however they are put together
as_one : (one other last : Option Refusal) → or_refused one (or_refused other last) ≡ or_refused (or_refused one other) last
as_one None other last = refl
as_one (Some why) other last = refl

-- the direct run refuses a rename by the reason of the old name, or else by its own reason of the new name
pub direct_by_source : (state : State) (text new : List ℕ) (why : Option Refusal) → source_why state text ≡ why
    → refusal state (Ops.Rename text new) ≡ or_refused why (direct_target_why state text new)
direct_by_source state text new why is =
    as_one (barred state.rights.rename) _ (direct_target_why state text new) ∙ ap (λ w. or_refused w (direct_target_why state text new)) is

-- ---- the dialogue

module _ (read : Reading) (text new : List ℕ) (reads : IsReading read) (first : IsPathText text) (second : IsPathText new) (state : State) (n : Near) (f : Far)
    (stands : Stands state n f) where
  -- RNFR with the old name can be sent, and the server acts on it at once
  sent_source : IsSent read (Commands.Rnfr text)
  sent_source = record { reads = reads; typed = tt; stated = first; other = refl }

  -- RNTO with the new name can be sent, and the server acts on it at once
  sent_target : IsSent read (Commands.Rnto new)
  sent_target = record { reads = reads; typed = tt; stated = second; other = refl }

  abbrev To : Said × State → Type 0
  To result = LeadsToAnswer read state (Ops.Rename text new) result n f

  -- by what is done of RNFR
  by_source : (result : Said × State) (left : ℕ)
      → Leads read (Passes state.table result.1.table) (Ends result) left (Asking (line_of (Commands.Rnfr text))) (doing (Ops.Rename text new) Steps.Source n) f → To result
  by_source result left leads = record {
    near = doing (Ops.Rename text new) Steps.Source n;
    line = Some (line_of (Commands.Rnfr text));
    left = left;
    begins_so = λ job. refl;
    fine = (carried (Commands.Rnfr text) tt first, refl);
    leads = leads;
  }

  -- a refused RNFR leads to an answer with the code of its reason and an unchanged state
  source_refused : (why : Refusal) → decides (Commands.Rnfr text) f ≡ (cleared f, Replies.Fixed (refusal_text why)) → To (Refused (code_of why), state)
  source_refused why decided =
      by_source (Refused (code_of why), state) 2
      (last_exchange read state.table (Ops.Rename text new) Steps.Source (Commands.Rnfr text) (Refused (code_of why), state) n f (cleared f) sent_source stands.far
      stands.sees.table stands.settings stands.facts stands.meets (keeps_cleared f) (sees_cleared state f stands.sees)
      (refused_exchange (Ops.Rename text new) Steps.Source (Commands.Rnfr text) why n f refl decided))

  -- the session behind an RNFR that was taken
  abbrev noted : Session
  noted = record (cleared f) { pending = Pendings.Rename (path_of (cleared f) text) }

  -- an RNFR that was taken keeps the connection, life, settings and facts of the session
  noted_keeps : Keeps f.session noted
  noted_keeps = record { connection = refl; closing = refl; life = refl; settings = refl; facts = refl; all_ways = refl }

  -- with a login, what the direct run sees of the server's session is the state
  same_direct : state.known ≡ true → direct_of (cleared f) ≡ state
  same_direct known = direct_is state (cleared f) (sees_cleared state f stands.sees) known

  -- a text leads to the same path at the server as in the direct run
  same_path : (l : List ℕ) → path_of (cleared f) l ≡ named state l
  same_path l = ap (λ cwd. resolved cwd l) stands.sees.cwd

  -- with a login, the server refuses RNFR by its reason or notes the old name and asks for the new one
  source_decided : state.known ≡ true → (why : Option Refusal) → source_why state text ≡ why
      → decides (Commands.Rnfr text) f ≡ unless why (cleared f) (noted, Replies.Fixed Texts.NewName)
  source_decided known why is =
      decides_known (Commands.Rnfr text) f (stands.sees.known ∙ known)
      ∙ ap (λ s. unless (or_refused (barred s.rights.rename)
      (refused_there (limited (path_of (cleared f) text) (or_else (source_refusal (part s) (path_of (cleared f) text)) (busy_refusal s (path_of (cleared f) text))))))
      (cleared f) (noted, Replies.Fixed Texts.NewName)) (same_direct known)
      ∙ ap (λ path. unless (or_refused (barred state.rights.rename) (refused_there (limited path (or_else (source_refusal (part state) path) (busy_refusal state path)))))
      (cleared f) (noted, Replies.Fixed Texts.NewName)) (same_path text)
      ∙ ap (λ w. unless w (cleared f) (noted, Replies.Fixed Texts.NewName)) is

  -- the session behind an RNTO that was done
  abbrev renamed : Session
  renamed = as_direct (done state (Ops.Rename text new) 0).1 (cleared f)

  -- what RNTO looks at
  abbrev freed_of : State → Names → Names → Table
  freed_of s from to = freed s.rights.onto (part s) from to

  -- the session where something is moved, in a current directory
  abbrev moves_of : State → Names → Names → Names → Session
  moves_of s from to cwd = record (cleared f) { table = (changed s (moved (freed_of s from to) from to)).table; cwd = cwd }

  -- with a login, the server behind an RNFR that was taken refuses RNTO by its reason or renames
  target_decided : state.known ≡ true → (why : Option Refusal) → target_why state text new ≡ why
      → decides (Commands.Rnto new) (with_session noted f) ≡ unless why (cleared f) (renamed, Replies.Fixed Texts.Done)
  target_decided known why is =
      decides_known (Commands.Rnto new) (with_session noted f) (stands.sees.known ∙ known)
      ∙ ap (λ s. unless (or_refused (or_refused (barred s.rights.rename)
      (refused_there (limited (path_of (cleared f) text) (or_else (source_refusal (part s) (path_of (cleared f) text)) (busy_refusal s (path_of (cleared f) text))))))
      (refused_name (limited (path_of (cleared f) new) (rename_refusal (freed_of s (path_of (cleared f) text) (path_of (cleared f) new)) (path_of (cleared f) text) (path_of (cleared f) new)))))
      (cleared f) (moves_of s (path_of (cleared f) text) (path_of (cleared f) new) (cleared f).cwd, Replies.Fixed Texts.Done)) (same_direct known)
      ∙ (λ i. unless (or_refused (or_refused (barred state.rights.rename)
      (refused_there (limited (same_path text i) (or_else (source_refusal (part state) (same_path text i)) (busy_refusal state (same_path text i))))))
      (refused_name (limited (same_path new i) (rename_refusal (freed_of state (same_path text i) (same_path new i)) (same_path text i) (same_path new i)))))
      (cleared f) (moves_of state (same_path text i) (same_path new i) (stands.sees.cwd i), Replies.Fixed Texts.Done))
      ∙ ap (λ w. unless w (cleared f) (renamed, Replies.Fixed Texts.Done)) is

  -- at the 350 the client goes on to its last step and owes RNTO
  new_name_is : answered 350 (codes "Ready for the new name" ∷ []) (calm (doing (Ops.Rename text new) Steps.Source n))
      ≡ record (calm (doing (Ops.Rename text new) Steps.Last n)) { owed = written_line (line_of (Commands.Rnto new)) }
  unfolding answered
  new_name_is = refl

  -- behind an RNFR that was taken, by what is done of RNTO
  by_target : (result : Said × State) (after : Session) → state.known ≡ true → source_why state text ≡ None
      → Keeps noted after → Sees result.1 after
      → Exchange (Commands.Rnto new) (doing (Ops.Rename text new) Steps.Last n) (told result.0 n) None (with_session noted f) after → To result
  by_target result after known none keeps sees x =
      let later : FarWaits (with_session noted f) = waits_on f noted noted_keeps stands.far in
      by_source result 4
      (exchange read (Passes state.table result.1.table) (Ends result) 2 (Commands.Rnfr text) (doing (Ops.Rename text new) Steps.Source n) (doing (Ops.Rename text new) Steps.Last n)
      (Some (line_of (Commands.Rnto new))) f noted sent_source stands.far later
      (record {
        kind = Replies.Fixed Texts.NewName;
        reply = fixed_reply Texts.NewName;
        decided = source_decided known None none;
        within = tt;
        said = refl;
        heard = new_name_is;
      })
      (record { near = record { sound = refl; connection = refl; closing = refl }; far = stands.far; busy = refl; untold = refl; table = inl stands.sees.table })
      (record { near = record { sound = refl; connection = refl; closing = refl }; far = later; busy = refl; untold = refl; table = inl stands.sees.table })
      (carried (Commands.Rnto new) tt second, refl)
      (last_exchange read state.table (Ops.Rename text new) Steps.Last (Commands.Rnto new) result n (with_session noted f) after sent_target later stands.sees.table
      stands.settings stands.facts
      (record { peer = stands.meets.peer; here = stands.meets.here; typed = stands.meets.typed; own = stands.meets.own; family = stands.meets.family; all_ways = stands.meets.all_ways }) keeps sees x))

  -- a taken RNFR and a refused RNTO lead to an answer with the code of the reason and an unchanged state
  target_refused : (why : Refusal) → state.known ≡ true → source_why state text ≡ None → target_why state text new ≡ Some why → To (Refused (code_of why), state)
  target_refused why known none is =
      by_target (Refused (code_of why), state) (cleared f) known none (record { connection = refl; closing = refl; life = refl; settings = refl; facts = refl; all_ways = refl })
      (sees_cleared state f stands.sees)
      (refused_exchange (Ops.Rename text new) Steps.Last (Commands.Rnto new) why n (with_session noted f) refl (target_decided known (Some why) is))

  -- a taken RNFR and an RNTO without a reason lead to the rename that the direct run does
  target_done : state.known ≡ true → source_why state text ≡ None → target_why state text new ≡ None → To (done state (Ops.Rename text new) 0)
  target_done known none is =
      by_target (done state (Ops.Rename text new) 0) renamed known none (record { connection = refl; closing = refl; life = refl; settings = refl; facts = refl; all_ways = refl })
      (record { table = refl; known = stands.sees.known; root = stands.sees.root; rights = stands.sees.rights; cwd = refl })
      (record {
        kind = Replies.Fixed Texts.Done;
        reply = fixed_reply Texts.Done;
        decided = target_decided known None is;
        within = tt;
        said = refl;
        heard = near_told_is (Ops.Rename text new) n 250 (codes "Done" ∷ []) Done refl refl;
      })

  -- a rename that can be sent leads to the answer of the direct run
  pub rename_leads : (moment : ℕ) → can_be_sent (Ops.Rename text new) ≡ true → To (answer state (Ops.Rename text new) moment)
  rename_leads moment can = by_known state.known refl (source_why state text) refl (target_why state text new) refl
    where
      by_known : (known : Bool) → state.known ≡ known → (one : Option Refusal) → source_why state text ≡ one → (other : Option Refusal) → target_why state text new ≡ other
          → To (answer state (Ops.Rename text new) moment)
      by_known true known None none None is =
          subst To (answer_known state (Ops.Rename text new) moment None can known (direct_by_source state text new None none ∙ sym (same_target state text new none) ∙ is))
          (target_done known none is)
      by_known true known None none (Some why) is =
          subst To (answer_known state (Ops.Rename text new) moment (Some why) can known (direct_by_source state text new None none ∙ sym (same_target state text new none) ∙ is))
          (target_refused why known none is)
      by_known true known (Some why) some other is =
          subst To (answer_known state (Ops.Rename text new) moment (Some why) can known (direct_by_source state text new (Some why) some))
          (source_refused why (source_decided known (Some why) some))
      by_known false unknown one some other is =
          subst To (answer_unknown state (Ops.Rename text new) moment can unknown)
          (source_refused Refusals.NotLoggedIn (decides_unknown (Commands.Rnfr text) f (stands.sees.known ∙ unknown) refl refl))
