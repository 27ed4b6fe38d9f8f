-- Each line tells what the direct run answers on the map that stands: a lemma a command.
use Rattle.std.proofs.Common.{◌≡◌, ℕ, Bool, true, false, List, Option, Some, None, refl, sym, ap, subst, ◌∙◌}
use Rattle.std.specs.Prelude.{if◌then◌else◌, ◌||◌}
use Rattle.std.specs.Option.{unwrap_or}
use Rattle.ftp_command.specs.declared.command.Command.{Command}
use Rattle.ftp_command.specs.declared.command.Command.TheVariants as command
use Rattle.ftp_direct.proofs.NodeLemmas.{rename_target}
use Rattle.ftp_direct.specs.Direct.{State, barred, busy_refusal, chosen, done, limited, named_or_here, or_refused, refusal, refused_file, refused_from, refused_name, refused_there}
use Rattle.ftp_direct.specs.Refusal.{code_of as refused_code}
use Rattle.ftp_direct.specs.declared.refusal.Refusal.{Refusal}
use Rattle.ftp_direct.specs.declared.refusal.Refusal.TheVariants as Refusals
use Rattle.ftp_operation.specs.Answer.{Said}
use Rattle.ftp_operation.specs.declared.op.ListVerb.TheVariants as Lists
use Rattle.ftp_operation.specs.declared.op.Op.{Op}
use Rattle.ftp_operation.specs.declared.op.Op.TheVariants as Ops
use Rattle.ftp_path.specs.Path.{Names, fits}
use Rattle.ftp_tree.proofs.KeepLaws.{freed-source}
use Rattle.ftp_tree.specs.Tree.{Table, moved, or_else, rename_refusal, source_refusal, target_refusal}
use Rattle.ftp_tree.specs.declared.fault.TreeFault.{TreeFault}
use Rattle.ftp_tree.specs.declared.fault.TreeFault.TheVariants as Faults
use Rattle.ftp_server_model.specs.Act.{act, forgets, is_free, is_in}
use Rattle.ftp_server_model.specs.Ask.{or_empty, size_of, stamp_of}
use Rattle.ftp_server_model.specs.Endpoint.{forgotten}
use Rattle.ftp_server_model.specs.Replies.{Turn, tells}
use Rattle.ftp_server_model.specs.Texts.{fixed_reply_code}
use Rattle.ftp_server_model.specs.Transfer.{begin, path_or_here, place_of, retr_at, sent_from, transfer_starts}
use Rattle.ftp_server_model.specs.Listing.{entry_lines, list_lines, listing_wire, name_lines}
use Rattle.ftp_facts.specs.Moment.{moment_digits}
use Rattle.ftp_server_model.specs.View.{Context, Session, Transfer, as_direct, direct_of, how_in_force, seen, with_seen}
use Rattle.ftp_server_model.specs.Walk.{path_of, refusal_text, refused_target, renames, target_seen, unless}
use Rattle.ftp_server_model.specs.declared.reply.FixedReply.TheVariants as Texts
use Rattle.ftp_server_model.specs.declared.reply.ReplyKind.TheVariants as Replies
use Rattle.ftp_server_model.specs.declared.session.Pending.{Pending}
use Rattle.ftp_server_model.specs.declared.session.Pending.TheVariants as Pendings
use Rattle.ftp_server_model.specs.declared.session.Transfer.TheVariants as Transfers
use Rattle.laws_server.specs.several.Asked.{Answers, Asks, AsksFile, AsksRename, LinesAreDirect, direct_state_of}

-- the reply that tells a refusal has its code
pub same_code : (why : Refusal) → fixed_reply_code (refusal_text why) ≡ refused_code why
same_code Refusals.LocalFault = refl
same_code Refusals.NoRoom = refl
same_code Refusals.BadArgument = refl
same_code Refusals.BadParameter = refl
same_code Refusals.NotLoggedIn = refl
same_code Refusals.Unavailable = refl
same_code Refusals.NotAllowed = refl
same_code Refusals.TooMuch = refl
same_code Refusals.BadName = refl

-- a command that is refused or has this turn
unless_answers : (c : Command (List ℕ)) (op : Op (List ℕ)) (s : Session) (why : Option Refusal) (state : State) (given : Said × State) (turn : Turn) → s ≡ forgets c s
    → Answers c op s given turn → Answers c op s (chosen why state given) (unless why s turn)
unless_answers c op s None state given turn is answers = answers
unless_answers c op s (Some why) state given turn is answers = (is, (refusal_text why, refl, same_code why))

-- a transfer command that is refused or begins
starts_answers : (c : Command (List ℕ)) (op : Op (List ℕ)) (s : Session) (why : Option Refusal) (state : State) (given : Said × State) (transfer : Transfer) → forgotten s ≡ forgets c s
    → Answers c op s given (begin s.connection transfer s) → Answers c op s (chosen why state given) (transfer_starts why transfer s)
starts_answers c op s None state given transfer is answers = answers
starts_answers c op s (Some why) state given transfer is answers = (is, (refusal_text why, refl, same_code why))

-- no second refusal
first_alone : (first : Option Refusal) → or_refused first None ≡ first
first_alone None = refl
first_alone (Some why) = refl

-- ---- RNTO: what is asked for again once more is not refused

none_there : (why : Option TreeFault) → refused_there why ≡ None → why ≡ None
none_there None none = refl
none_there (Some fault) none = absurd (cc)

none_limited : (path : Names) (why : Option TreeFault) → limited path why ≡ None → why ≡ None
none_limited path why none =
    elim (fits path) as (λ b. fits path ≡ b → why ≡ None) [
      | true ↦ λ e. ap (λ (b : Bool). if b then why else Some Faults.TooBig) (sym e) ∙ none
      | false ↦ λ e. absurd (let f : Some Faults.TooBig ≡ None = ap (λ (b : Bool). if b then why else Some Faults.TooBig) (sym e) ∙ none in cc)
    ] refl

first_none : (one other : Option TreeFault) → or_else one other ≡ None → one ≡ None
first_none None other none = refl
first_none (Some fault) other none = absurd (cc)

module _ (s : Session) (text new : List ℕ) where
  abbrev source_why : Option Refusal
  source_why = refused_there (limited (path_of s text) (or_else (source_refusal (seen s) (path_of s text)) (busy_refusal (direct_of s) (path_of s text))))

  abbrev freed_part : Table
  freed_part = target_seen s (path_of s text) (path_of s new)

  -- where what is named stands, the refusals of the new name are the same
  same_target : source_why ≡ None
      → refused_name (limited (path_of s new) (rename_refusal freed_part (path_of s text) (path_of s new)))
      ≡ refused_name (limited (path_of s new) (target_refusal freed_part (path_of s text) (path_of s new)))
  same_target none =
      let stands : source_refusal (seen s) (path_of s text) ≡ None = first_none _ _ (none_limited (path_of s text) _ (none_there _ none)) in
      ap (λ (why : Option TreeFault). refused_name (limited (path_of s new) why))
      (rename_target freed_part (path_of s text) (path_of s new) (freed-source s.rights.onto (seen s) (path_of s text) (path_of s new) ∙ stands))

  same_rename : refused_target s (path_of s text) (path_of s new) ≡ refusal (direct_state_of s) (Ops.Rename text new)
  same_rename = by (barred s.rights.rename) source_why refl
    where
      renamed : Option Refusal
      renamed = refused_name (limited (path_of s new) (rename_refusal freed_part (path_of s text) (path_of s new)))

      targeted : Option Refusal
      targeted = refused_name (limited (path_of s new) (target_refusal freed_part (path_of s text) (path_of s new)))

      by : (may source : Option Refusal) → source_why ≡ source → or_refused (or_refused may source) renamed ≡ or_refused may (or_refused source targeted)
      by (Some why) source is = refl
      by None (Some why) is = refl
      by None None is = same_target is

rename_answers : (context : Context) (pending : Pending Names) (new : List ℕ) (s : Session) (op : Op (List ℕ)) (moment : ℕ) → AsksRename pending new s op
    → Answers (command.Rnto new) op s (chosen (refusal (direct_state_of s) op) (direct_state_of s) (done (direct_state_of s) op moment)) (act context (command.Rnto new) pending s)
rename_answers context Pendings.Nothing new s op moment asks = absurd asks
rename_answers context (Pendings.Restart offset) new s op moment asks = absurd asks
rename_answers context (Pendings.Rename from) new s op moment asks =
    subst (λ (at : Names). Answers (command.Rnto new) op s (due op) (renames at (path_of s new) s)) asks.1
    (subst (λ (o : Op (List ℕ)). Answers (command.Rnto new) o s (due o) (renames (path_of s asks.0) (path_of s new) s)) (sym asks.2)
    (subst (λ (why : Option Refusal). Answers c asked s (due asked) (unless why s turn)) (sym (same_rename s asks.0 new))
    (unless_answers c asked s (refusal (direct_state_of s) asked) (direct_state_of s) (done (direct_state_of s) asked moment) turn refl refl)))
  where
    c : Command (List ℕ)
    c = command.Rnto new

    asked : Op (List ℕ)
    asked = Ops.Rename asks.0 new

    turn : Turn
    turn = tells Texts.Done (with_seen (moved (target_seen s (path_of s asks.0) (path_of s new)) (path_of s asks.0) (path_of s new)) s)

    due : Op (List ℕ) → Said × State
    due o = chosen (refusal (direct_state_of s) o) (direct_state_of s) (done (direct_state_of s) o moment)

-- ---- RETR

whole_answers : (c : Command (List ℕ)) (text : List ℕ) (s : Session) (moment : ℕ) → c ≡ command.Retr text
    → Answers c (Ops.Get text (how_in_force s.settings)) s
    (chosen (refusal (direct_state_of s) (Ops.Get text (how_in_force s.settings))) (direct_state_of s) (done (direct_state_of s) (Ops.Get text (how_in_force s.settings)) moment)) (retr_at (Some 0) text s)
whole_answers c text s moment is =
    subst (λ (c : Command (List ℕ)). Answers c op s (chosen (refusal (direct_state_of s) op) (direct_state_of s) (done (direct_state_of s) op moment)) (retr_at (Some 0) text s)) (sym is)
    (subst (λ (why : Option Refusal). Answers (command.Retr text) op s (chosen (refusal (direct_state_of s) op) (direct_state_of s) (done (direct_state_of s) op moment)) (transfer_starts why transfer s))
    (sym (first_alone (refused_file (direct_of s) text)))
    (starts_answers (command.Retr text) op s (refusal (direct_state_of s) op) (direct_state_of s) (done (direct_state_of s) op moment) transfer refl refl))
  where
    op : Op (List ℕ)
    op = Ops.Get text (how_in_force s.settings)

    transfer : Transfer
    transfer = Transfers.Download (sent_from s text 0)

file_answers : (context : Context) (pending : Pending Names) (text : List ℕ) (s : Session) (op : Op (List ℕ)) (moment : ℕ) → AsksFile pending text s op
    → Answers (command.Retr text) op s (chosen (refusal (direct_state_of s) op) (direct_state_of s) (done (direct_state_of s) op moment)) (act context (command.Retr text) pending s)
file_answers context Pendings.Nothing text s op moment asks =
    subst (λ (o : Op (List ℕ)). Answers (command.Retr text) o s (chosen (refusal (direct_state_of s) o) (direct_state_of s) (done (direct_state_of s) o moment)) (retr_at (Some 0) text s)) (sym asks)
    (whole_answers (command.Retr text) text s moment refl)
file_answers context (Pendings.Rename from) text s op moment asks =
    subst (λ (o : Op (List ℕ)). Answers (command.Retr text) o s (chosen (refusal (direct_state_of s) o) (direct_state_of s) (done (direct_state_of s) o moment)) (retr_at (Some 0) text s)) (sym asks)
    (whole_answers (command.Retr text) text s moment refl)
file_answers context (Pendings.Restart offset) text s op moment asks =
    subst (λ (o : Op (List ℕ)). Answers c o s (chosen (refusal (direct_state_of s) o) (direct_state_of s) (done (direct_state_of s) o moment)) (retr_at place text s)) (sym asks.1)
    (subst (λ (why : Option Refusal). Answers c asked s (chosen why (direct_state_of s) (done (direct_state_of s) asked moment)) (retr_at place text s))
    (ap (λ (first : Option Refusal). or_refused first (refused_from (direct_state_of s) text (how_in_force s.settings) offset)) (sym asks.0))
    (starts_answers c asked s (refused_from (direct_state_of s) text (how_in_force s.settings) offset) (direct_state_of s) (done (direct_state_of s) asked moment)
    (Transfers.Download (sent_from s text (unwrap_or place 0))) refl refl))
  where
    c : Command (List ℕ)
    c = command.Retr text

    asked : Op (List ℕ)
    asked = Ops.GetFrom text offset (how_in_force s.settings)

    place : Option ℕ
    place = place_of (Pendings.Restart offset) (path_of s text) s

-- ---- all commands, of somebody who is logged in

module _ (context : Context) (pending : Pending Names) (s : Session) (moment : ℕ) where
  -- what the direct run says and leaves
  abbrev due_of : Op (List ℕ) → Said × State
  due_of op = chosen (refusal (direct_state_of s) op) (direct_state_of s) (done (direct_state_of s) op moment)

  abbrev Holds : Command (List ℕ) → Op (List ℕ) → Type 0
  Holds c op = Answers c op s (due_of op) (act context c pending s)

  -- a command that asks for one operation alone
  by_op : (c : Command (List ℕ)) (op asked : Op (List ℕ)) → op ≡ asked → Holds c asked → Holds c op
  by_op c op asked is holds = subst (Holds c) (sym is) holds

  known_answers : (c : Command (List ℕ)) (op : Op (List ℕ)) → Asks pending s c op → Holds c op
  known_answers command.Pwd op is = by_op command.Pwd op Ops.Where is (refl, refl)
  known_answers command.Cdup op is = by_op command.Cdup op Ops.Up is refl
  known_answers (command.Cwd text) op is =
      by_op (command.Cwd text) op (Ops.ChangeDir text) is
      (unless_answers (command.Cwd text) (Ops.ChangeDir text) s (refusal (direct_state_of s) (Ops.ChangeDir text)) (direct_state_of s) (done (direct_state_of s) (Ops.ChangeDir text) moment) (as_direct (done (direct_of s) (Ops.ChangeDir text) 0).1 s, Replies.Fixed Texts.Done) refl refl)
  known_answers (command.Rmd text) op is =
      by_op (command.Rmd text) op (Ops.RemoveDir text) is
      (unless_answers (command.Rmd text) (Ops.RemoveDir text) s (refusal (direct_state_of s) (Ops.RemoveDir text)) (direct_state_of s) (done (direct_state_of s) (Ops.RemoveDir text) moment) (as_direct (done (direct_of s) (Ops.RemoveDir text) 0).1 s, Replies.Fixed Texts.Done) refl refl)
  known_answers (command.Dele text) op is =
      by_op (command.Dele text) op (Ops.Delete text) is
      (unless_answers (command.Dele text) (Ops.Delete text) s (refusal (direct_state_of s) (Ops.Delete text)) (direct_state_of s) (done (direct_state_of s) (Ops.Delete text) moment) (as_direct (done (direct_of s) (Ops.Delete text) 0).1 s, Replies.Fixed Texts.Done) refl refl)
  known_answers (command.Mkd text) op is =
      let told : Answers (command.Mkd text) (Ops.MakeDir text) s (done (direct_state_of s) (Ops.MakeDir text) moment)
      (as_direct (done (direct_of s) (Ops.MakeDir text) 0).1 s, Replies.Made (path_of s text)) = (refl, refl) in
      by_op (command.Mkd text) op (Ops.MakeDir text) is
      (unless_answers (command.Mkd text) (Ops.MakeDir text) s (refusal (direct_state_of s) (Ops.MakeDir text)) (direct_state_of s) (done (direct_state_of s) (Ops.MakeDir text) moment)
      (as_direct (done (direct_of s) (Ops.MakeDir text) 0).1 s, Replies.Made (path_of s text)) refl told)
  known_answers (command.Rnto text) op is = rename_answers context pending text s op moment is
  known_answers (command.Retr text) op is = file_answers context pending text s op moment is
  known_answers (command.List text) op is =
      by_op (command.List text) op (Ops.Text Lists.List (or_empty text) (how_in_force s.settings)) is
      (starts_answers (command.List text) (Ops.Text Lists.List (or_empty text) (how_in_force s.settings)) s (refusal (direct_state_of s) (Ops.Text Lists.List (or_empty text) (how_in_force s.settings))) (direct_state_of s) (done (direct_state_of s) (Ops.Text Lists.List (or_empty text) (how_in_force s.settings)) moment)
      (Transfers.Listing (listing_wire s.settings.mode (list_lines (seen s) (path_or_here s text)))) refl refl)
  known_answers (command.Nlst text) op is =
      by_op (command.Nlst text) op (Ops.Names (or_empty text) (how_in_force s.settings)) is
      (starts_answers (command.Nlst text) (Ops.Names (or_empty text) (how_in_force s.settings)) s (refusal (direct_state_of s) (Ops.Names (or_empty text) (how_in_force s.settings))) (direct_state_of s) (done (direct_state_of s) (Ops.Names (or_empty text) (how_in_force s.settings)) moment)
      (Transfers.Listing (listing_wire s.settings.mode (name_lines (seen s) (path_or_here s text) (or_empty text)))) refl refl)
  known_answers (command.Mlsd text) op is =
      by_op (command.Mlsd text) op (Ops.List (or_empty text) (how_in_force s.settings)) is
      (starts_answers (command.Mlsd text) (Ops.List (or_empty text) (how_in_force s.settings)) s (refusal (direct_state_of s) (Ops.List (or_empty text) (how_in_force s.settings))) (direct_state_of s) (done (direct_state_of s) (Ops.List (or_empty text) (how_in_force s.settings)) moment)
      (Transfers.Listing (listing_wire s.settings.mode (entry_lines s.facts (seen s) (path_or_here s text)))) refl refl)
  known_answers (command.Mlst text) op is =
      let at : Names = named_or_here (direct_of s) (or_empty text) in
      let told : Answers (command.Mlst text) (Ops.Facts (or_empty text)) s (done (direct_state_of s) (Ops.Facts (or_empty text)) moment) (s, Replies.Entry at) = (refl, (at, refl, refl)) in
      by_op (command.Mlst text) op (Ops.Facts (or_empty text)) is
      (unless_answers (command.Mlst text) (Ops.Facts (or_empty text)) s (refusal (direct_state_of s) (Ops.Facts (or_empty text))) (direct_state_of s) (done (direct_state_of s) (Ops.Facts (or_empty text)) moment)
      (s, Replies.Entry at) refl told)
  known_answers (command.Size text) op is =
      let asked : Op (List ℕ) = Ops.Size text (how_in_force s.settings) in
      let turn : Turn = (s, Replies.Size (size_of s text)) in
      by_op (command.Size text) op asked is.1
      (subst (λ (b : Bool). Answers (command.Size text) asked s (due_of asked) (if b then unless (refusal (direct_of s) asked) s turn else tells Texts.Refused s)) (sym is.0)
      (unless_answers (command.Size text) asked s (refusal (direct_state_of s) asked) (direct_state_of s) (done (direct_state_of s) asked moment) turn refl refl))
  known_answers (command.Mdtm text) op is =
      by_op (command.Mdtm text) op (Ops.Modified text) is
      (unless_answers (command.Mdtm text) (Ops.Modified text) s (refusal (direct_state_of s) (Ops.Modified text)) (direct_state_of s) (done (direct_state_of s) (Ops.Modified text) moment) (s, Replies.Stamp (moment_digits (stamp_of s text))) refl refl)
  known_answers c op is = absurd is

-- no command that asks for an operation is done before a login
not_free : (pending : Pending Names) (s : Session) (c : Command (List ℕ)) (op : Op (List ℕ)) → Asks pending s c op → is_free c ≡ false
not_free pending s command.Pwd op is = refl
not_free pending s (command.Cwd text) op is = refl
not_free pending s command.Cdup op is = refl
not_free pending s (command.Mkd text) op is = refl
not_free pending s (command.Rmd text) op is = refl
not_free pending s (command.Dele text) op is = refl
not_free pending s (command.Rnto text) op is = refl
not_free pending s (command.Retr text) op is = refl
not_free pending s (command.List text) op is = refl
not_free pending s (command.Nlst text) op is = refl
not_free pending s (command.Mlsd text) op is = refl
not_free pending s (command.Mlst text) op is = refl
not_free pending s (command.Size text) op is = refl
not_free pending s (command.Mdtm text) op is = refl
not_free pending s c op is = absurd is

pub lines_are_direct : LinesAreDirect
lines_are_direct context c pending s op moment asks = by (is_in s.access)
  where
    state : State
    state = direct_state_of s

    -- both look at the login alone
    P : (known free : Bool) → Type 0
    P known free =
        Answers c op s (chosen (if known then refusal state op else Some Refusals.NotLoggedIn) state (done state op moment))
        (if known || free then act context c pending s else tells Texts.NotLoggedIn (forgets c s))

    by : (known : Bool) → P known (is_free c)
    by true = known_answers context pending s moment c op asks
    by false = subst (P false) (sym (not_free pending s c op asks)) (refl, (Texts.NotLoggedIn, refl, refl))
