-- The operations that are one command each, but for those that read a file's moment or facts.
use Rattle.std.proofs.Common.{◌≡◌, ℕ, Bool, true, false, List, [], ◌∷◌, Option, Some, None, refl, sym, ap, subst, ◌∙◌}
use Rattle.std.specs.Prelude.{IsTrue, codes, if◌then◌else◌}
use Rattle.std.specs.Option.{option_map}
use Rattle.ftp_operation.specs.Answer.{Done, Path}
use Rattle.ftp_operation.specs.declared.op.Op.{Op}
use Rattle.ftp_operation.specs.declared.op.Op.TheVariants as Ops
use Rattle.ftp_path.specs.Path.{Names, IsPathText, fits, resolved, text_of}
use Rattle.ftp_direct.specs.Direct.{State, done, named, limited, refused_there}
use Rattle.ftp_tree.specs.declared.fault.TreeFault.{TreeFault}
use Rattle.ftp_tree.specs.declared.fault.TreeFault.TheVariants as Faults
use Rattle.ftp_client_model.specs.Dialogue.{answer_in}
use Rattle.ftp_client_model.specs.Plan.{own_command}
use Rattle.ftp_client_model.specs.View.{View as Near}
use Rattle.ftp_server_model.specs.Machine.{Reading, IsReading}
use Rattle.ftp_server_model.specs.Replies.{Turn, here_text, made_text, fixed_reply, reply_of}
use Rattle.ftp_server_model.specs.View.{Session, View as Far, direct_of, as_direct}
use Rattle.ftp_server_model.specs.Walk.{path_of}
use Rattle.ftp_server_model.specs.declared.reply.ReplyKind.TheVariants as Replies
use Rattle.ftp_server_model.specs.declared.reply.FixedReply.TheVariants as Texts
use Rattle.ftp_command.proofs.CarriedLemmas.{carried}
use Rattle.laws_dialogues.specs.Dialogue.{Sees, Stands}
use Rattle.laws_dialogues.proofs.ServerTurns.{cleared}
use Rattle.laws_dialogues.proofs.Exchanges.{near_told_is}
use Rattle.laws_dialogues.proofs.Rows.{Keeps, keeps_cleared, sees_cleared, direct_is, may_none}
use Rattle.laws_dialogues.proofs.Single.{Accepts, IsSingle}
use Rattle.ftp_server_model.proofs.PathTexts.{is_path-text, is_path-led}
use Rattle.laws_dialogues.proofs.Paths.{quoted-reads}

-- ---- what the direct run leaves of a session

-- a session with the outcome of the direct run keeps its connection, life, settings and facts
keeps_direct : (f : Far) (state : State) → Keeps f.session (as_direct state (cleared f))
keeps_direct f state = record { connection = refl; closing = refl; life = refl; settings = refl; facts = refl; all_ways = refl }

-- a change of the map and of the current directory alone
record IsMove (old new : State) : Type 0 where
  known : new.known ≡ old.known
  root : new.root ≡ old.root
  rights : new.rights ≡ old.rights

-- a session with the outcome of the direct run sees the next state, if that is a move of the one it saw
sees_direct : (state next : State) (f : Far) → Sees state f.session → IsMove state next → Sees next (as_direct next (cleared f))
sees_direct state next f sees move =
    record {
      table = refl;
      known = sees.known ∙ sym move.known;
      root = λ known. sees.root (sym move.known ∙ known) ∙ sym move.root;
      rights = λ known. sees.rights (sym move.known ∙ known) ∙ sym move.rights;
      cwd = refl;
    }

-- ---- those that change the map or the current directory

-- the turn of one that is answered by 250
abbrev pub moves_turn : Op (List ℕ) → Session → Turn
moves_turn op s = (as_direct (done (direct_of s) op 0).1 s, Replies.Fixed Texts.Done)

-- the client answers Done to it
abbrev IsDoneBy : Op (List ℕ) → Type 0
IsDoneBy op = answer_in op (codes "Done" ∷ []) ≡ Some Done

-- an operation that moves the state is accepted: the server leaves the next state, and the client answers Done
moves_accepts : (op : Op (List ℕ)) (state next : State) (n : Near) (f : Far) → Stands state n f → state.known ≡ true
    → (done state op 0).1 ≡ next → IsMove state next → IsDoneBy op → Accepts op (Done, next) n f (moves_turn op (cleared f))
moves_accepts op state next n f stands known is move done_is =
    let same : direct_of (cleared f) ≡ state = direct_is state (cleared f) (sees_cleared state f stands.sees) known in
    let after : moves_turn op (cleared f) ≡ (as_direct next (cleared f), Replies.Fixed Texts.Done) =
    ap (λ s. (as_direct (done s op 0).1 (cleared f), Replies.Fixed Texts.Done)) same ∙ ap (λ s. (as_direct s (cleared f), Replies.Fixed Texts.Done)) is in
    subst (Accepts op (Done, next) n f) (sym after) (record {
      keeps = keeps_direct f next;
      sees = sees_direct state next f stands.sees move;
      reply = fixed_reply Texts.Done;
      within = tt;
      said = refl;
      heard = near_told_is op n 250 (codes "Done" ∷ []) Done refl done_is;
    })

-- a change of the current directory is one command that moves the state
pub change_dir : (read : Reading) (text : List ℕ) → IsReading read → IsPathText text → IsSingle read (Ops.ChangeDir text) (moves_turn (Ops.ChangeDir text))
change_dir read text reads is = record {
  sent = record { reads = reads; typed = tt; stated = is; other = refl };
  line = carried (own_command (Ops.ChangeDir text)) tt is;
  begins_so = λ job n. refl;
  row = λ context pending s. refl;
  guarded = refl;
  no_transfer = refl;
  accepts = λ state moment n f sound stands known none.
      moves_accepts (Ops.ChangeDir text) state (done state (Ops.ChangeDir text) 0).1 n f stands known refl (record { known = refl; root = refl; rights = refl }) refl;
}

-- a change to the parent directory is one command that moves the state
pub up : (read : Reading) → IsReading read → IsSingle read Ops.Up (moves_turn Ops.Up)
up read reads = record {
  sent = record { reads = reads; typed = tt; stated = tt; other = refl };
  line = carried (own_command Ops.Up) tt tt;
  begins_so = λ job n. refl;
  row = λ context pending s. refl;
  guarded = refl;
  no_transfer = refl;
  accepts = λ state moment n f sound stands known none.
      moves_accepts Ops.Up state (done state Ops.Up 0).1 n f stands known refl (record { known = refl; root = refl; rights = refl }) refl;
}

-- the removal of a directory is one command that moves the state
pub remove_dir : (read : Reading) (text : List ℕ) → IsReading read → IsPathText text → IsSingle read (Ops.RemoveDir text) (moves_turn (Ops.RemoveDir text))
remove_dir read text reads is = record {
  sent = record { reads = reads; typed = tt; stated = is; other = refl };
  line = carried (own_command (Ops.RemoveDir text)) tt is;
  begins_so = λ job n. refl;
  row = λ context pending s. refl;
  guarded = refl;
  no_transfer = refl;
  accepts = λ state moment n f sound stands known none.
      moves_accepts (Ops.RemoveDir text) state (done state (Ops.RemoveDir text) 0).1 n f stands known refl (record { known = refl; root = refl; rights = refl }) refl;
}

-- the removal of a file is one command that moves the state
pub delete : (read : Reading) (text : List ℕ) → IsReading read → IsPathText text → IsSingle read (Ops.Delete text) (moves_turn (Ops.Delete text))
delete read text reads is = record {
  sent = record { reads = reads; typed = tt; stated = is; other = refl };
  line = carried (own_command (Ops.Delete text)) tt is;
  begins_so = λ job n. refl;
  row = λ context pending s. refl;
  guarded = refl;
  no_transfer = refl;
  accepts = λ state moment n f sound stands known none.
      moves_accepts (Ops.Delete text) state (done state (Ops.Delete text) 0).1 n f stands known refl (record { known = refl; root = refl; rights = refl }) refl;
}

-- ---- those that are answered by a path

-- the question for the current directory is one command that is answered by its path and moves nothing
pub here : (read : Reading) → IsReading read → IsSingle read Ops.Where (λ s. (s, Replies.Here))
here read reads = record {
  sent = record { reads = reads; typed = tt; stated = tt; other = refl };
  line = carried (own_command Ops.Where) tt tt;
  begins_so = λ job n. refl;
  row = λ context pending s. refl;
  guarded = refl;
  no_transfer = refl;
  accepts = λ state moment n f sound stands known none.
      let told : IsPathText (text_of f.session.cwd) = subst (λ cwd. IsPathText (text_of cwd)) (sym stands.sees.cwd) (is_path-text state.cwd sound.cwd) in
      record {
        keeps = keeps_cleared f;
        sees = sees_cleared state f stands.sees;
        reply = reply_of 257 (here_text f.session.cwd);
        within = told;
        said = refl;
        heard = near_told_is Ops.Where n 257 (here_text f.session.cwd ∷ []) (Path (text_of state.cwd)) refl
            (ap (option_map Path) (quoted-reads f.session.cwd (codes "is the current directory") told) ∙ ap (λ cwd. Some (Path (text_of cwd))) stands.sees.cwd);
      };
}

-- what is not refused is within the limits
pub within-limits : (path : Names) (why : Option TreeFault) → refused_there (limited path why) ≡ None → IsTrue (fits path)
within-limits path why none = by_fit (fits path) refl
  where
    by_fit : (b : Bool) → fits path ≡ b → IsTrue (fits path)
    by_fit true e = e
    by_fit false e = absurd (let f : refused_there (if false then why else Some Faults.TooBig) ≡ None = ap (λ (b : Bool). refused_there (if b then why else Some Faults.TooBig)) (sym e) ∙ none in cc)

abbrev pub makes_turn : List ℕ → Session → Turn
makes_turn text s = (as_direct (done (direct_of s) (Ops.MakeDir text) 0).1 s, Replies.Made (path_of s text))

-- a new directory is accepted: the server leaves the next state, and the client answers its path
make_accepts : (text : List ℕ) (state : State) (n : Near) (f : Far) → Stands state n f → state.known ≡ true → IsPathText (text_of (named state text))
    → Accepts (Ops.MakeDir text) (done state (Ops.MakeDir text) 0) n f (makes_turn text (cleared f))
make_accepts text state n f stands known told =
    let same : direct_of (cleared f) ≡ state = direct_is state (cleared f) (sees_cleared state f stands.sees) known in
    let path : path_of (cleared f) text ≡ named state text = ap (λ cwd. resolved cwd text) stands.sees.cwd in
    let next : State = (done state (Ops.MakeDir text) 0).1 in
    let after : makes_turn text (cleared f) ≡ (as_direct next (cleared f), Replies.Made (named state text)) =
    λ i. (as_direct (done (same i) (Ops.MakeDir text) 0).1 (cleared f), Replies.Made (path i)) in
    subst (Accepts (Ops.MakeDir text) (done state (Ops.MakeDir text) 0) n f) (sym after) (record {
      keeps = keeps_direct f next;
      sees = sees_direct state next f stands.sees (record { known = refl; root = refl; rights = refl });
      reply = reply_of 257 (made_text (named state text));
      within = told;
      said = refl;
      heard = near_told_is (Ops.MakeDir text) n 257 (made_text (named state text) ∷ []) (Path (text_of (named state text))) refl
          (ap (option_map Path) (quoted-reads (named state text) (codes "created") told));
    })

-- a new directory is one command that is answered by its path
pub make_dir : (read : Reading) (text : List ℕ) → IsReading read → IsPathText text → IsSingle read (Ops.MakeDir text) (makes_turn text)
make_dir read text reads is = record {
  sent = record { reads = reads; typed = tt; stated = is; other = refl };
  line = carried (own_command (Ops.MakeDir text)) tt is;
  begins_so = λ job n. refl;
  row = λ context pending s. refl;
  guarded = refl;
  no_transfer = refl;
  accepts = λ state moment n f sound stands known none.
      make_accepts text state n f stands known
      (is_path-text (named state text) (is_path-led state.cwd text sound.cwd is (within-limits (named state text) _ (may_none state.rights.make_dir _ none))));
}
