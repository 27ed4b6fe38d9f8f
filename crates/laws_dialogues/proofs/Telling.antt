-- MLST: the entry that the server says is the one that the direct run gives.
use Rattle.std.proofs.Common.{◌≡◌, ◌≤◌, ℕ, Bool, true, false, List, [], ◌∷◌, length, Option, Some, None, refl, sym, ap, subst, ◌∙◌, arith, ne_eqb}
use Rattle.std.specs.Prelude.{IsTrue, ◌==◌, ◌||◌, if◌then◌else◌}
use Rattle.std.specs.Option.{option_map, unwrap_or}
use Rattle.ftp_command.specs.Line.{IfGiven}
use Rattle.ftp_facts.specs.Listed.{entry_value}
use Rattle.ftp_facts.proofs.ComesBackLemmas.{listed_line-says}
use Rattle.ftp_operation.specs.Answer.{Entry as EntrySaid}
use Rattle.ftp_operation.specs.Operation.{can_be_sent, is_path_text}
use Rattle.ftp_operation.specs.declared.op.Op.TheVariants as Ops
use Rattle.ftp_path.specs.Path.{Names, IsPathText, fits, text_of}
use Rattle.ftp_direct.specs.Direct.{State, done, entry_at, is_root, listed, named, named_or_here, part, refusal}
use Rattle.ftp_direct.proofs.EntryLemmas.{IsEarlyFile, entry_sayable}
use Rattle.ftp_tree.specs.Sound.{last_second}
use Rattle.ftp_tree.specs.Map.{Node, Dir, File, shown_of}
use Rattle.ftp_tree.specs.Tree.{node_at}
use Rattle.ftp_client_model.specs.Plan.{own_command, optional}
use Rattle.ftp_client_model.specs.View.{View as Near}
use Rattle.ftp_server_model.specs.Ask.{or_empty}
use Rattle.ftp_server_model.specs.Entries.{listed_line}
use Rattle.ftp_server_model.specs.Machine.{Reading, IsReading}
use Rattle.ftp_server_model.specs.Replies.{Turn, entry_reply}
use Rattle.ftp_server_model.specs.View.{Session, View as Far, direct_of, all_facts}
use Rattle.ftp_server_model.specs.Walk.{unless}
use Rattle.ftp_server_model.specs.declared.reply.ReplyKind.TheVariants as Replies
use Rattle.ftp_command.proofs.CarriedLemmas.{carried}
use Rattle.laws_dialogues.specs.Dialogue.{Stands, IsSound}
use Rattle.laws_dialogues.proofs.ServerTurns.{cleared}
use Rattle.laws_dialogues.proofs.Exchanges.{near_told_is}
use Rattle.ftp_server_model.proofs.PathTexts.{is_path-text, is_path-led}
use Rattle.laws_dialogues.proofs.Moving.{within-limits}
use Rattle.laws_dialogues.proofs.Rows.{keeps_cleared, sees_cleared, direct_is}
use Rattle.laws_dialogues.proofs.Single.{Accepts, IsSingle}

-- ---- the line of an entry says it

-- its node, if it is a file, has a moment
abbrev pub IsEarly : Node → Type 0
IsEarly Dir = Unit {0}
IsEarly (File octets moment) = moment ≤ last_second

-- the line of an entry with all facts is read back as that entry, if its file, where it is one, is early
pub line-reads : (path : Names) (node : Node) (name : List ℕ) → IsPathText name → IsEarly node → entry_value (listed_line all_facts (listed name path node)) ≡ Some (listed name path node)
line-reads path node name is early = listed_line-says (listed name path node) (entry_sayable (shown_of node) (is_root path) name is (shown_early node early))
  where
    shown_early : (node : Node) → IsEarly node → IsEarlyFile (shown_of node)
    shown_early Dir early = tt
    shown_early (File octets moment) early = early

-- ---- MLST

-- the path that it tells
abbrev pub told_path : State → List ℕ → Names
told_path state text = named_or_here state text

-- in a sound state the node at a path is early
pub early-at : (state : State) (path : Names) → IsSound state → IsEarly (unwrap_or (node_at (part state) path) Dir)
early-at state path sound = by_node (node_at (part state) path) refl
  where
    by_node : (node : Option Node) → node_at (part state) path ≡ node → IsEarly (unwrap_or node Dir)
    by_node None is = tt
    by_node (Some Dir) is = tt
    by_node (Some (File octets moment)) is = (sound.files path octets moment is).0

-- in a sound state the line of the entry at a path is read back as that entry
entry-reads : (state : State) (path : Names) → IsSound state → IsPathText (text_of path)
    → entry_value (listed_line all_facts (entry_at (part state) path (text_of path))) ≡ Some (entry_at (part state) path (text_of path))
unfolding entry_at
entry-reads state path sound is = line-reads path (unwrap_or (node_at (part state) path) Dir) (text_of path) is (early-at state path sound)

-- the turn of one that is not refused
abbrev pub tells_turn : List ℕ → Session → Turn
tells_turn text s = (s, Replies.Entry (named_or_here (direct_of s) text))

-- the server says the entry of the path to an MLST that is not refused, and the client answers with that of the direct run
facts_accepts : (text : List ℕ) (state : State) (moment : ℕ) (n : Near) (f : Far) → IsSound state → Stands state n f → state.known ≡ true → IsPathText (text_of (told_path state text))
    → Accepts (Ops.Facts text) (done state (Ops.Facts text) moment) n f (tells_turn text (cleared f))
facts_accepts text state moment n f sound stands known is =
    let same : direct_of (cleared f) ≡ state = direct_is state (cleared f) (sees_cleared state f stands.sees) known in
    let path : Names = told_path state text in
    let after : tells_turn text (cleared f) ≡ (cleared f, Replies.Entry path) = ap (λ s. (cleared f, Replies.Entry (named_or_here s text))) same in
    let line : entry_value (listed_line f.session.facts (entry_at (part (direct_of (cleared f))) path (text_of path))) ≡ Some (entry_at (part state) path (text_of path)) =
    (λ i. entry_value (listed_line (stands.facts i) (entry_at (part (same i)) path (text_of path)))) ∙ entry-reads state path sound is in
    subst (Accepts (Ops.Facts text) (done state (Ops.Facts text) moment) n f) (sym after) (record {
      keeps = keeps_cleared f;
      sees = sees_cleared state f stands.sees;
      reply = entry_reply (cleared f) path;
      within = is;
      said = refl;
      heard = near_told_is (Ops.Facts text) n 250 (entry_reply (cleared f) path).lines (EntrySaid (entry_at (part state) path (text_of path))) refl (ap (option_map EntrySaid) line);
    })

-- a text that is not empty is sent as it is
pub not_empty : (c : ℕ) (text : List ℕ) → (length (c ∷ text) == 0) ≡ false
not_empty c text = ne_eqb (length (c ∷ text)) 0 (λ e. absurd (omega (arith, e)))

-- the text of an MLST that can be sent is the text of a path, if it is not empty
pub is_sent : (c : ℕ) (text : List ℕ) → can_be_sent (Ops.Facts (c ∷ text)) ≡ true → IsPathText (c ∷ text)
is_sent c text can = ap (λ b. b || is_path_text (c ∷ text)) (sym (not_empty c text)) ∙ can

-- where MLST leads is a path
here-is-path : (text : List ℕ) (state : State) → IsSound state → can_be_sent (Ops.Facts text) ≡ true → refusal state (Ops.Facts text) ≡ None → IsPathText (text_of (told_path state text))
here-is-path [] state sound can none = is_path-text state.cwd sound.cwd
here-is-path (c ∷ text) state sound can none =
    let same : told_path state (c ∷ text) ≡ named state (c ∷ text) = ap (λ (b : Bool). if b then state.cwd else named state (c ∷ text)) (not_empty c text) in
    let within : IsTrue (fits (named state (c ∷ text))) = subst (λ path. IsTrue (fits path)) same (within-limits (told_path state (c ∷ text)) _ none) in
    subst (λ path. IsPathText (text_of path)) (sym same)
    (is_path-text (named state (c ∷ text)) (is_path-led state.cwd (c ∷ text) sound.cwd (is_sent c text can) within))

-- the server tells the same for the text and for what is sent of it, which is nothing if it is empty
facts_row : (text : List ℕ) (s : Session) → unless (refusal (direct_of s) (Ops.Facts (or_empty (optional text)))) s (s, Replies.Entry (named_or_here (direct_of s) (or_empty (optional text))))
    ≡ unless (refusal (direct_of s) (Ops.Facts text)) s (tells_turn text s)
facts_row [] s = refl
facts_row (c ∷ text) s = refl

-- what an MLST that can be sent states, if anything, is the text of a path
pub stated : (text : List ℕ) → can_be_sent (Ops.Facts text) ≡ true → IfGiven IsPathText (optional text)
stated [] can = tt
stated (c ∷ text) can = is_sent c text can

-- an MLST that can be sent is one command, which the server decides and the client answers as the direct run does
pub facts : (read : Reading) (text : List ℕ) → IsReading read → can_be_sent (Ops.Facts text) ≡ true → IsSingle read (Ops.Facts text) (tells_turn text)
facts read text reads can = record {
  sent = record { reads = reads; typed = tt; stated = stated text can; other = refl };
  line = carried (own_command (Ops.Facts text)) tt (stated text can);
  begins_so = λ job n. refl;
  row = λ context pending s. facts_row text s;
  guarded = refl;
  no_transfer = refl;
  accepts = λ state moment n f sound stands known none. facts_accepts text state moment n f sound stands known (here-is-path text state sound can none);
}
