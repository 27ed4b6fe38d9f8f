-- The worked rows of uploads, computed.
use Rattle.std.proofs.Common.{◌≡◌, ℕ, ◌+◌, List, [], ◌∷◌, ◌++◌, Option, Some, None, Bool, true, false, refl, ap, ◌∙◌}
use Rattle.std.specs.Prelude.{codes, decimal, length, nat_le, unwrap_or, if◌then◌else◌}
use Rattle.ftp_command.specs.declared.command.Command.TheVariants as command
use Rattle.ftp_settings.specs.declared.representation.Kind.TheVariants as Kinds
use Rattle.ftp_settings.specs.declared.representation.Mode.TheVariants as Modes
use Rattle.ftp_direct.specs.declared.refusal.Refusal.{Refusal}
use Rattle.ftp_operation.specs.Rights.{all_rights}
use Rattle.ftp_direct.specs.Direct.{or_refused, place_in, refused_name}
use Rattle.ftp_path.specs.Path.{resolved, fits, text_of, Names}
use Rattle.ftp_tree.specs.Tree.{Table, node_at, octets_at, octets_or_none, or_else, room_refusal, room_at, whenever, file_limit, installed, under}
use Rattle.ftp_tree.specs.Map.{File}
use Rattle.ftp_tree.specs.declared.fault.TreeFault.TheVariants.{TooBig, Full}
use Rattle.std.proofs.Common.{arith, not, is_some}
use Rattle.std.proofs.lemmas.Bool.{leb-true, le-leb}
use Rattle.ftp_settings.specs.declared.representation.Structure.TheVariants as Structures
use Rattle.ftp_settings.specs.Representation.{defaults}
use Rattle.ftp_wire.specs.Decoder.{Decoder, no_octets, decoder_of}
use Rattle.ftp_ends.specs.Ear.{quiet}
use Rattle.ftp_server_model.specs.View.{Context, Session, Transfer, View, all_facts, seen, with_seen}
use Rattle.ftp_server_model.specs.Replies.{reply_octets, reply_of, fixed_reply}
use Rattle.ftp_server_model.specs.Transfer.{misplaced, place_of, refused_to_hold}
use Rattle.ftp_server_model.specs.Keep.{kept_of, lacks}
use Rattle.ftp_server_model.specs.Machine.{may_hear, obeyed, Ending, end_refusal, ends_by, is_over, owes, with_session}
use Rattle.ftp_server_model.specs.Calls.{control_end, listening, data_opened, receives, receives_octet, data_end, data_fault, may_receive, wants}
use Rattle.ftp_ends.specs.RowWords.{here}
use Rattle.ftp_server_model.specs.Rows.{RowEvent, accounts, after_events, said_to_member, member, at, of, asks, opened, octets, port, ended as ends, broken as breaks, UploadDropped, UploadFromPlace, UploadInstalled, BrokenUploadKept, TooMuchRefused, MarkerAnswered, AbortAnswered, AbortPastRoom, EarlyEnd, FaultyUpload}
use Rattle.ftp_server_model.specs.declared.reply.FixedReply.{FixedReply}
use Rattle.ftp_server_model.specs.declared.reply.FixedReply.TheVariants as Texts
use Rattle.ftp_settings.specs.declared.representation.Representation.{Representation}
use Rattle.ftp_server_model.specs.declared.session.Access.TheVariants as Accesses
use Rattle.ftp_server_model.specs.declared.session.Pending.TheVariants as Pendings
use Rattle.ftp_server_model.specs.declared.session.Keep.{Keep}
use Rattle.ftp_server_model.specs.declared.session.Keep.TheVariants as Keeps
use Rattle.ftp_server_model.specs.declared.session.Life.TheVariants as Lives
use Rattle.ftp_server_model.specs.declared.session.ServerLink.{ServerLink}
use Rattle.ftp_server_model.specs.declared.session.ServerLink.TheVariants as Data
use Rattle.ftp_server_model.specs.declared.session.Transfer.TheVariants as Transfers
use Rattle.ftp_server_model.proofs.ServerRows.{started}
use Rattle.ftp_server_model.proofs.RowNumbers.{of_1, of_4, six_is}

-- ---- uploads: each octet, and the end, by whether a limit of octets is passed

abbrev f_path : Names
f_path = of (codes "f")

-- an empty file is there, and can be put over
stor_code : (s : Session) → node_at (seen s) f_path ≡ Some (File [] 0) → refused_to_hold s f_path ≡ None
unfolding fits text_of room_refusal
stor_code s f = rw f refl

abbrev stored : View → Option Refusal → View
stored v code = started v (Transfers.Upload f_path (Keeps.First 0) (no_octets v.session.settings)) (or_refused (refused_name None) code)

-- the map and the account's root: where an upload goes
abbrev Place : Type 0
Place = Table × Names

abbrev part_at : Place → Table
part_at place = under place.0 place.1

-- a session of an upload
abbrev uploads : Place → Representation → ServerLink Transfer → Bool → Session
uploads place settings connection closing = record {
  table = place.0;
  access = Accesses.Known;
  root = place.1;
  rights = all_rights;
  cwd = [];
  pending = Pendings.Nothing;
  settings = settings;
  facts = all_facts;
  only_extended = false;
  connection = connection;
  closing = closing;
  life = Lives.Running;
}

-- an upload is under way, whatever was said before
abbrev uploading : Context → Place → Representation → List ℕ → ServerLink Transfer → View
uploading context place settings said connection = record {
  context = context;
  session = uploads place settings connection false;
  ear = quiet;
  waiting = None;
  owed = said;
}

abbrev up : Decoder → ServerLink Transfer
up d = Data.Transferring (Transfers.Upload f_path (Keeps.First 0) d)

-- the same once a limit was looked at
abbrev limited : Decoder → Bool → ServerLink Transfer
limited d over = if over then Data.Transferring Transfers.OverLimit else up d

-- the upload is over
abbrev left : Context → List ℕ → Ending → View
left context said ending = record {
  context = context;
  session = ending.0;
  ear = quiet;
  waiting = None;
  owed = said ++ reply_octets (fixed_reply ending.1);
}

-- its session, with the data connection gone, or to be closed
abbrev after : Place → Representation → Bool → Session
after place settings closing = uploads place settings Data.Free closing

abbrev ending : Context → Session → Keep → List ℕ → FixedReply → Option Refusal → Ending
ending context s keep content text why = ends_by why context.moment f_path keep content text s

-- what there is room for is within the limit of a file
within_limit : (table : Table) (path : Names) (count room : ℕ) → room_at table path ≡ room → nat_le count room ≡ true → nat_le count (file_limit table) ≡ true
unfolding room_at
within_limit table path count room is fit = le-leb count (file_limit table) (omega (arith, is, leb-true count room fit))

-- what came can be put there: a file stands there, and there is room
ends_well : (place : Place) (settings : Representation) (keep : Keep) (old content : List ℕ) → node_at (part_at place) f_path ≡ Some (File old 0)
    → room_at (part_at place) f_path ≡ 1000 → lacks keep old ≡ false → nat_le (length (kept_of keep old ++ content)) 1000 ≡ true → end_refusal f_path keep content (after place settings false) ≡ None
unfolding fits text_of room_refusal octets_at
ends_well place settings keep old content f room none fit =
    rw f (rw none (rw (within_limit (part_at place) f_path (length (kept_of keep old ++ content)) 1000 room fit) (rw room (rw fit refl))))

-- decoders of a file in type I and of one in type A
abbrev image_settings : Representation
image_settings = record { kind = Kinds.Image; structure = Structures.File; mode = Modes.Stream }

abbrev image : List ℕ → Decoder
image w = decoder_of image_settings w

abbrev ascii : List ℕ → Decoder
ascii w = decoder_of defaults w

-- so many octets pass no limit
fits_room : (place : Place) (room : ℕ) (d : Decoder) → room_at (part_at place) f_path ≡ room
    → nat_le (0 + length d.content) room ≡ true → is_over f_path (Keeps.First 0) d (after place defaults false) ≡ false
fits_room place room d is fit = rw (within_limit (part_at place) f_path (0 + length d.content) room is fit) (rw is (rw fit refl))

-- ---- octets: what each of them settles, where that passes no limit or does

a_comes : (context : Context) (place : Place) (said : List ℕ) (over : Bool) → is_over f_path (Keeps.First 0) (ascii (97 ∷ [])) (after place defaults false) ≡ over
    → receives_octet (uploading context place defaults said (up (ascii ([])))) 97 ≡ uploading context place defaults said (limited (ascii (97 ∷ [])) over)
unfolding receives_octet
a_comes context place said over is = ap (λ b. uploading context place defaults said (limited (ascii (97 ∷ [])) b)) is

b_comes : (context : Context) (place : Place) (said : List ℕ) (over : Bool) → is_over f_path (Keeps.First 0) (ascii (97 ∷ 98 ∷ [])) (after place defaults false) ≡ over
    → receives_octet (uploading context place defaults said (up (ascii (97 ∷ [])))) 98 ≡ uploading context place defaults said (limited (ascii (97 ∷ 98 ∷ [])) over)
unfolding receives_octet
b_comes context place said over is = ap (λ b. uploading context place defaults said (limited (ascii (97 ∷ 98 ∷ [])) b)) is

c_comes : (context : Context) (place : Place) (said : List ℕ) (over : Bool) → is_over f_path (Keeps.First 0) (ascii (97 ∷ 98 ∷ 99 ∷ [])) (after place defaults false) ≡ over
    → receives_octet (uploading context place defaults said (up (ascii (97 ∷ 98 ∷ [])))) 99 ≡ uploading context place defaults said (limited (ascii (97 ∷ 98 ∷ 99 ∷ [])) over)
unfolding receives_octet
c_comes context place said over is = ap (λ b. uploading context place defaults said (limited (ascii (97 ∷ 98 ∷ 99 ∷ [])) b)) is

x_comes : (context : Context) (place : Place) (said : List ℕ) (over : Bool) → is_over f_path (Keeps.First 0) (ascii (120 ∷ [])) (after place defaults false) ≡ over
    → receives_octet (uploading context place defaults said (up (ascii ([])))) 120 ≡ uploading context place defaults said (limited (ascii (120 ∷ [])) over)
unfolding receives_octet
x_comes context place said over is = ap (λ b. uploading context place defaults said (limited (ascii (120 ∷ [])) b)) is

return_comes : (context : Context) (place : Place) (said : List ℕ) (over : Bool) → is_over f_path (Keeps.First 0) (ascii (120 ∷ 13 ∷ [])) (after place defaults false) ≡ over
    → receives_octet (uploading context place defaults said (up (ascii (120 ∷ [])))) 13 ≡ uploading context place defaults said (limited (ascii (120 ∷ 13 ∷ [])) over)
unfolding receives_octet
return_comes context place said over is = ap (λ b. uploading context place defaults said (limited (ascii (120 ∷ 13 ∷ [])) b)) is

image_a : (context : Context) (place : Place) (said : List ℕ) (over : Bool) → is_over f_path (Keeps.First 0) (image (97 ∷ [])) (after place defaults false) ≡ over
    → receives_octet (uploading context place image_settings said (up (image ([])))) 97 ≡ uploading context place image_settings said (limited (image (97 ∷ [])) over)
unfolding receives_octet
image_a context place said over is = ap (λ b. uploading context place image_settings said (limited (image (97 ∷ [])) b)) is

image_b : (context : Context) (place : Place) (said : List ℕ) (over : Bool) → is_over f_path (Keeps.First 0) (image (97 ∷ 98 ∷ [])) (after place defaults false) ≡ over
    → receives_octet (uploading context place image_settings said (up (image (97 ∷ [])))) 98 ≡ uploading context place image_settings said (limited (image (97 ∷ 98 ∷ [])) over)
unfolding receives_octet
image_b context place said over is = ap (λ b. uploading context place image_settings said (limited (image (97 ∷ 98 ∷ [])) b)) is

image_c : (context : Context) (place : Place) (said : List ℕ) (over : Bool) → is_over f_path (Keeps.First 0) (image (97 ∷ 98 ∷ 99 ∷ [])) (after place defaults false) ≡ over
    → receives_octet (uploading context place image_settings said (up (image (97 ∷ 98 ∷ [])))) 99 ≡ uploading context place image_settings said (limited (image (97 ∷ 98 ∷ 99 ∷ [])) over)
unfolding receives_octet
image_c context place said over is = ap (λ b. uploading context place image_settings said (limited (image (97 ∷ 98 ∷ 99 ∷ [])) b)) is

-- ---- ends

aborts : (context : Context) (place : Place) (said : List ℕ) → end_refusal f_path (Keeps.First 0) (codes "ab") (after place defaults false) ≡ None
    → after_events (asks command.Abor ∷ []) (uploading context place defaults said (up (ascii (97 ∷ 98 ∷ []))))
    ≡ owes (reply_octets (fixed_reply Texts.AbortDone)) (left context said (ending context (after place defaults true) (Keeps.First 0) (codes "ab") Texts.Broken None))
aborts context place said is =
    ap (λ why. owes (reply_octets (fixed_reply Texts.AbortDone)) (left context said (ending context (after place defaults true) (Keeps.First 0) (codes "ab") Texts.Broken why))) is

breaks_off : (context : Context) (place : Place) (said : List ℕ) → end_refusal f_path (Keeps.First 0) (codes "x") (after place defaults false) ≡ None
    → data_fault (uploading context place defaults said (up (ascii (120 ∷ 13 ∷ []))))
    ≡ left context said (ending context (after place defaults false) (Keeps.First 0) (codes "x") Texts.Broken None)
unfolding data_fault
breaks_off context place said is = ap (λ why. left context said (ending context (after place defaults false) (Keeps.First 0) (codes "x") Texts.Broken why)) is

ends_past : (context : Context) (place : Place) (said : List ℕ)
    → data_end (uploading context place defaults said (Data.Transferring Transfers.OverLimit)) ≡ left context said (after place defaults false, Texts.TooMuch)
unfolding data_end
ends_past context place said = refl

ends_whole : (context : Context) (place : Place) (said : List ℕ) → end_refusal f_path (Keeps.First 0) (codes "abc") (after place image_settings false) ≡ None
    → data_end (uploading context place image_settings said (up (image (97 ∷ 98 ∷ 99 ∷ []))))
    ≡ left context said (ending context (after place image_settings false) (Keeps.First 0) (codes "abc") Texts.Complete None)
unfolding data_end
ends_whole context place said is = ap (λ why. left context said (ending context (after place image_settings false) (Keeps.First 0) (codes "abc") Texts.Complete why)) is

-- ---- the rows

-- PORT, STOR and the opening of the link
abbrev standing : Names → Context
standing root = record { accounts = accounts root; here = here; peer = here; moment = 0 }

abbrev active_said : List ℕ
active_said = said_to_member (codes "200 Endpoint taken" ∷ codes "150 Opening data connection" ∷ [])

begun : (table : Table) (root : Names) → node_at (under table root) f_path ≡ Some (File [] 0)
    → member table root (asks (command.Port (at here)) ∷ asks (command.Stor (codes "f")) ∷ opened here ∷ []) ≡ uploading (standing root) (table, root) defaults active_said (up (ascii []))
unfolding obeyed fits text_of resolved data_opened
begun table root f =
    let v : View = member table root (asks (command.Port (at here)) ∷ []) in
    ap (λ c. after_events (opened here ∷ []) (stored v c)) (stor_code v.session f)

pub abort : AbortAnswered
abort table root f room =
    let rest : List RowEvent = asks command.Abor ∷ [] in
    let is = ap (λ w. after_events (octets (codes "ab") ∷ rest) w) (begun table root f)
    ∙ ap (λ w. after_events rest (receives_octet w 98)) (a_comes (standing root) (table, root) active_said false (fits_room (table, root) 1000 (ascii (97 ∷ [])) room refl))
    ∙ ap (λ w. after_events rest w) (b_comes (standing root) (table, root) active_said false (fits_room (table, root) 1000 (ascii (97 ∷ 98 ∷ [])) room refl))
    ∙ aborts (standing root) (table, root) active_said (ends_well (table, root) defaults (Keeps.First 0) [] (codes "ab") f room refl refl) in
    (ap (λ w. w.owed) is, ap (λ w. w.session.table) is, ap wants is)

pub broken_upload : BrokenUploadKept
broken_upload table root f room =
    let is = ap (λ w. after_events (octets (120 ∷ 13 ∷ []) ∷ breaks ∷ []) w) (begun table root f)
    ∙ ap (λ w. after_events (breaks ∷ []) (receives_octet w 13)) (x_comes (standing root) (table, root) active_said false (fits_room (table, root) 1000 (ascii (120 ∷ [])) room refl))
    ∙ ap (λ w. after_events (breaks ∷ []) w) (return_comes (standing root) (table, root) active_said false (fits_room (table, root) 1000 (ascii (120 ∷ 13 ∷ [])) room refl))
    ∙ breaks_off (standing root) (table, root) active_said (ends_well (table, root) defaults (Keeps.First 0) [] (codes "x") f room refl refl) in
    (ap (λ w. w.owed) is, ap (λ w. w.session.table) is)

past_room : (place : Place) → room_at (part_at place) f_path ≡ 2 → is_over f_path (Keeps.First 0) (ascii (97 ∷ 98 ∷ 99 ∷ [])) (after place defaults false) ≡ true
past_room place room = rw room (either (nat_le 3 (file_limit (part_at place))))
  where
    either : (b : Bool) → is_some (or_else (whenever (not b) TooBig) (Some Full)) ≡ true
    either true = refl
    either false = refl

pub too_much : TooMuchRefused
too_much table root f room =
    let is = ap (λ w. after_events (octets (codes "abc") ∷ ends ∷ []) w) (begun table root f)
    ∙ ap (λ w. after_events (ends ∷ []) (receives_octet (receives_octet w 98) 99)) (a_comes (standing root) (table, root) active_said false (fits_room (table, root) 2 (ascii (97 ∷ [])) room refl))
    ∙ ap (λ w. after_events (ends ∷ []) (receives_octet w 99)) (b_comes (standing root) (table, root) active_said false (fits_room (table, root) 2 (ascii (97 ∷ 98 ∷ [])) room refl))
    ∙ ap (λ w. after_events (ends ∷ []) w) (c_comes (standing root) (table, root) active_said true (past_room (table, root) room))
    ∙ ends_past (standing root) (table, root) active_said in
    (ap (λ w. w.owed) is, ap (λ w. w.session.table) is)

-- TYPE I, PASV, the opening of the link and STOR, by the text of what is told
abbrev port_view : Table → Names → List ℕ → View
port_view table root six =
    let v : View = member table root (asks (command.Repr Kinds.Image) ∷ asks command.Pasv ∷ []) in
    owes (reply_octets (reply_of 227 (codes "Entering Passive Mode (" ++ (six ++ codes ")")))) (with_session (record v.session { connection = Data.Passive }) v)

abbrev passive_said : List ℕ
passive_said =
    said_to_member (codes "200 Type set" ∷ codes "227 Entering Passive Mode (127,0,0,1,7,138)" ∷ codes "150 Opening data connection" ∷ [])

begun_passive : (table : Table) (root : Names) → node_at (under table root) f_path ≡ Some (File [] 0)
    → member table root (asks (command.Repr Kinds.Image) ∷ asks command.Pasv ∷ port 1930 ∷ opened here ∷ asks (command.Stor (codes "f")) ∷ [])
    ≡ uploading (standing root) (table, root) image_settings passive_said (up (image []))
unfolding obeyed fits text_of resolved listening data_opened
begun_passive table root f =
    let v : View = after_events (opened here ∷ []) (port_view table root (codes "127,0,0,1,7,138")) in
    ap (λ six. after_events (opened here ∷ asks (command.Stor (codes "f")) ∷ []) (port_view table root six)) six_is
    ∙ ap (λ c. stored v c) (stor_code v.session f)

pub passive_upload : UploadInstalled
passive_upload table root f room =
    let rest : List RowEvent = octets (codes "c") ∷ ends ∷ [] in
    let is = ap (λ w. after_events (octets (codes "ab") ∷ rest) w) (begun_passive table root f)
    ∙ ap (λ w. after_events rest (receives_octet w 98)) (image_a (standing root) (table, root) passive_said false (fits_room (table, root) 1000 (image (97 ∷ [])) room refl))
    ∙ ap (λ w. after_events rest w) (image_b (standing root) (table, root) passive_said false (fits_room (table, root) 1000 (image (97 ∷ 98 ∷ [])) room refl))
    ∙ ap (λ w. after_events (ends ∷ []) w) (image_c (standing root) (table, root) passive_said false (fits_room (table, root) 1000 (image (97 ∷ 98 ∷ 99 ∷ [])) room refl))
    ∙ ends_whole (standing root) (table, root) passive_said (ends_well (table, root) image_settings (Keeps.First 0) [] (codes "abc") f room refl refl) in
    (ap (λ w. w.owed) is, ap (λ w. w.session.table) is, ap wants is)

-- ---- APPE with a marker

abbrev block_settings : Representation
block_settings = record { kind = Kinds.Image; structure = Structures.File; mode = Modes.Block }

abbrev blocks : List ℕ → Decoder
blocks w = decoder_of block_settings w

abbrev appending : Decoder → Bool → ServerLink Transfer
appending d over = if over then Data.Transferring Transfers.OverLimit else Data.Transferring (Transfers.Upload f_path (Keeps.All 3) d)

appe_code : (s : Session) → node_at (seen s) f_path ≡ Some (File (codes "abc") 0) → refused_to_hold s f_path ≡ None
unfolding fits text_of room_refusal
appe_code s f = rw f refl

abc_length : (table : Table) → node_at table f_path ≡ Some (File (codes "abc") 0) → length (octets_or_none table f_path) ≡ 3
unfolding octets_at
abc_length table f = rw f refl

abbrev appended : View → Option Refusal → ℕ → View
appended v code keep = after_events (opened here ∷ []) (started v (Transfers.Upload f_path (Keeps.All keep) (no_octets v.session.settings)) code)

abbrev block_said : List ℕ
block_said = said_to_member (codes "200 Type set" ∷ codes "200 Mode set" ∷ codes "200 Endpoint taken" ∷ codes "150 Opening data connection" ∷ [])

begun_append : (table : Table) (root : Names) → node_at (under table root) f_path ≡ Some (File (codes "abc") 0)
    → member table root (asks (command.Repr Kinds.Image) ∷ asks (command.Mode Modes.Block) ∷ asks (command.Port (at here)) ∷ asks (command.Appe (codes "f"))
    ∷ opened here ∷ []) ≡ uploading (standing root) (table, root) block_settings block_said (appending (blocks []) false)
unfolding obeyed fits text_of resolved data_opened
begun_append table root f =
    let v : View = member table root (asks (command.Repr Kinds.Image) ∷ asks (command.Mode Modes.Block) ∷ asks (command.Port (at here)) ∷ []) in
    ap (λ c. appended v c (length (octets_or_none (under table root) f_path))) (appe_code v.session f) ∙ ap (λ n. appended v None n) (abc_length (under table root) f)

block_comes : (context : Context) (place : Place) (said : List ℕ) (over : Bool) → is_over f_path (Keeps.All 3) (blocks (0 ∷ 0 ∷ 1 ∷ 100 ∷ [])) (after place block_settings false) ≡ over
    → receives (uploading context place block_settings said (appending (blocks []) false)) (0 ∷ 0 ∷ 1 ∷ 100 ∷ [])
    ≡ uploading context place block_settings said (appending (blocks (0 ∷ 0 ∷ 1 ∷ 100 ∷ [])) over)
unfolding receives_octet
block_comes context place said over is = ap (λ b. uploading context place block_settings said (appending (blocks (0 ∷ 0 ∷ 1 ∷ 100 ∷ [])) b)) is

marker_comes : (context : Context) (place : Place) (said : List ℕ)
    → (receives (uploading context place block_settings said (appending (blocks (0 ∷ 0 ∷ 1 ∷ 100 ∷ [])) false)) (16 ∷ 0 ∷ 1 ∷ 77 ∷ [])).owed
    ≡ said ++ reply_octets (reply_of 110 (codes "MARK M = " ++ decimal 4))
unfolding receives_octet
marker_comes context place said = refl

pub marker : MarkerAnswered
marker table root f room =
    let over : is_over f_path (Keeps.All 3) (blocks (0 ∷ 0 ∷ 1 ∷ 100 ∷ [])) (after (table, root) block_settings false) ≡ false =
    rw (within_limit (part_at (table, root)) f_path 4 1000 room refl) (rw room refl) in
    ap (λ w. (receives w (0 ∷ 0 ∷ 1 ∷ 100 ∷ 16 ∷ 0 ∷ 1 ∷ 77 ∷ [])).owed) (begun_append table root f)
    ∙ ap (λ w. (receives w (16 ∷ 0 ∷ 1 ∷ 77 ∷ [])).owed) (block_comes (standing root) (table, root) block_said false over)
    ∙ marker_comes (standing root) (table, root) block_said
    ∙ ap (λ n. block_said ++ reply_octets (reply_of 110 (codes "MARK M = " ++ n))) of_4

-- ---- ABOR past the room

aborts_past : (context : Context) (place : Place) (said : List ℕ)
    → after_events (asks command.Abor ∷ []) (uploading context place defaults said (Data.Transferring Transfers.OverLimit))
    ≡ owes (reply_octets (fixed_reply Texts.AbortDone)) (left context said (after place defaults true, Texts.TooMuch))
aborts_past context place said = refl

pub abort_past_room : AbortPastRoom
abort_past_room table root f room =
    let rest : List RowEvent = asks command.Abor ∷ [] in
    let is = ap (λ w. after_events (octets (codes "abc") ∷ rest) w) (begun table root f)
    ∙ ap (λ w. after_events rest (receives_octet (receives_octet w 98) 99)) (a_comes (standing root) (table, root) active_said false (fits_room (table, root) 2 (ascii (97 ∷ [])) room refl))
    ∙ ap (λ w. after_events rest (receives_octet w 99)) (b_comes (standing root) (table, root) active_said false (fits_room (table, root) 2 (ascii (97 ∷ 98 ∷ [])) room refl))
    ∙ ap (λ w. after_events rest w) (c_comes (standing root) (table, root) active_said true (past_room (table, root) room))
    ∙ aborts_past (standing root) (table, root) active_said in
    (ap (λ w. w.owed) is, ap (λ w. w.session.table) is)

-- ---- an end before the end of file

-- how an upload ends behind octets of the file that stands there, where it is put in
abbrev ends_behind : Context → Session → Keep → List ℕ → List ℕ → FixedReply → Ending
ends_behind context s keep old content text = (with_seen (installed (seen s) f_path (kept_of keep old ++ content) context.moment) s, text)

ends_early : (context : Context) (place : Place) (said : List ℕ) → end_refusal f_path (Keeps.All 3) (codes "d") (after place block_settings false) ≡ None
    → data_end (uploading context place block_settings said (appending (blocks (0 ∷ 0 ∷ 1 ∷ 100 ∷ [])) false))
    ≡ left context said (ending context (after place block_settings false) (Keeps.All 3) (codes "d") Texts.Broken None)
unfolding data_end
ends_early context place said is = ap (λ why. left context said (ending context (after place block_settings false) (Keeps.All 3) (codes "d") Texts.Broken why)) is

abc_octets : (table : Table) → node_at table f_path ≡ Some (File (codes "abc") 0) → octets_or_none table f_path ≡ codes "abc"
unfolding octets_at
abc_octets table f = rw f refl

pub early_end : EarlyEnd
early_end table root f room =
    let over : is_over f_path (Keeps.All 3) (blocks (0 ∷ 0 ∷ 1 ∷ 100 ∷ [])) (after (table, root) block_settings false) ≡ false =
    rw (within_limit (part_at (table, root)) f_path 4 1000 room refl) (rw room refl) in
    let is = ap (λ w. data_end (receives w (0 ∷ 0 ∷ 1 ∷ 100 ∷ []))) (begun_append table root f)
    ∙ ap (λ w. data_end w) (block_comes (standing root) (table, root) block_said false over)
    ∙ ends_early (standing root) (table, root) block_said (ends_well (table, root) block_settings (Keeps.All 3) (codes "abc") (codes "d") f room refl refl)
    ∙ ap (λ o. left (standing root) block_said (ends_behind (standing root) (after (table, root) block_settings false) (Keeps.All 3) o (codes "d") Texts.Broken))
    (abc_octets (under table root) f) in
    (ap (λ w. w.owed) is, ap (λ w. w.session.table) is)

-- ---- a fault of the wire

-- suspected errors, before anything came
pub faulty_upload : FaultyUpload
unfolding obeyed fits text_of resolved data_opened receives_octet
faulty_upload table root f =
    let v : View = member table root (asks (command.Mode Modes.Block) ∷ asks (command.Port (at here)) ∷ []) in
    let last : Option Refusal → View = λ c. after_events (opened here ∷ octets (32 ∷ []) ∷ []) (stored v c) in
    let code = stor_code v.session f in
    (ap (λ c. (last c).owed) code, ap (λ c. (last c).session.table) code, ap (λ c. wants (last c)) code, ap (λ c. may_receive (last c)) code)

-- ---- the end of the control connection

drops : (context : Context) (place : Place) (said : List ℕ)
    → control_end (uploading context place defaults said (up (ascii (97 ∷ 98 ∷ [])))) ≡ record (uploading context place defaults [] Data.Free) { session = record (uploads place defaults Data.Free true) { life = Lives.Cut } }
unfolding control_end
drops context place said = refl

pub dropped_upload : UploadDropped
dropped_upload table root f room =
    let is = ap (λ w. control_end (after_events (octets (codes "ab") ∷ []) w)) (begun table root f)
    ∙ ap (λ w. control_end (receives_octet w 98)) (a_comes (standing root) (table, root) active_said false (fits_room (table, root) 1000 (ascii (97 ∷ [])) room refl))
    ∙ ap control_end (b_comes (standing root) (table, root) active_said false (fits_room (table, root) 1000 (ascii (97 ∷ 98 ∷ [])) room refl))
    ∙ drops (standing root) (table, root) active_said in
    (ap (λ w. w.owed) is, ap (λ w. w.session.table) is, ap wants is, ap may_hear is)

-- ---- REST before STOR

-- behind the first octet of a file
abbrev behind_one : Decoder → Bool → ServerLink Transfer
behind_one d over = if over then Data.Transferring Transfers.OverLimit else Data.Transferring (Transfers.Upload f_path (Keeps.First 1) d)

first_place : (s : Session) → s.settings ≡ image_settings → node_at (seen s) f_path ≡ Some (File (codes "abc") 0) → place_of (Pendings.Restart 1) f_path s ≡ Some 1
unfolding octets_at place_in
first_place s kind f = rw kind (rw f refl)

-- the view behind STOR and the opening of the data connection, by its place and its code
abbrev stored_from : View → Option ℕ → Option Refusal → View
stored_from v place code =
    after_events (opened here ∷ []) (started v (Transfers.Upload f_path (Keeps.First (unwrap_or place 0)) (no_octets v.session.settings)) (or_refused (refused_name (misplaced place)) code))

abbrev restarted : View → List ℕ → View
restarted v number = owes (reply_octets (reply_of 350 (codes "Restarting at " ++ number))) (with_session (record v.session { pending = Pendings.Restart 1 }) v)

abbrev from_said : List ℕ
from_said =
    said_to_member (codes "200 Type set" ∷ codes "200 Endpoint taken" ∷ codes "350 Restarting at 1" ∷ codes "150 Opening data connection" ∷ [])

begun_from : (table : Table) (root : Names) → node_at (under table root) f_path ≡ Some (File (codes "abc") 0)
    → member table root (asks (command.Repr Kinds.Image) ∷ asks (command.Port (at here)) ∷ asks (command.Rest 1) ∷ asks (command.Stor (codes "f")) ∷ opened here ∷ [])
    ≡ uploading (standing root) (table, root) image_settings from_said (behind_one (image []) false)
unfolding obeyed fits text_of resolved data_opened
begun_from table root f =
    let e : View = member table root (asks (command.Repr Kinds.Image) ∷ asks (command.Port (at here)) ∷ []) in
    let told : View = restarted e (codes "1") in
    let v : View = with_session (record told.session { pending = Pendings.Nothing }) told in
    ap (λ n. after_events (asks (command.Stor (codes "f")) ∷ opened here ∷ []) (restarted e n)) of_1
    ∙ ap (λ p. stored_from v p (refused_to_hold v.session f_path)) (first_place v.session refl f)
    ∙ ap (λ c. stored_from v (Some 1) c) (appe_code v.session f)

z_comes : (context : Context) (place : Place) (said : List ℕ) (over : Bool) → is_over f_path (Keeps.First 1) (image (122 ∷ [])) (after place image_settings false) ≡ over
    → receives_octet (uploading context place image_settings said (behind_one (image []) false)) 122
    ≡ uploading context place image_settings said (behind_one (image (122 ∷ [])) over)
unfolding receives_octet
z_comes context place said over is = ap (λ b. uploading context place image_settings said (behind_one (image (122 ∷ [])) b)) is

ends_from : (context : Context) (place : Place) (said : List ℕ) → end_refusal f_path (Keeps.First 1) (codes "z") (after place image_settings false) ≡ None
    → data_end (uploading context place image_settings said (behind_one (image (122 ∷ [])) false))
    ≡ left context said (ending context (after place image_settings false) (Keeps.First 1) (codes "z") Texts.Complete None)
unfolding data_end
ends_from context place said is = ap (λ why. left context said (ending context (after place image_settings false) (Keeps.First 1) (codes "z") Texts.Complete why)) is

pub upload_from_place : UploadFromPlace
upload_from_place table root f room =
    let over : is_over f_path (Keeps.First 1) (image (122 ∷ [])) (after (table, root) image_settings false) ≡ false =
    rw (within_limit (part_at (table, root)) f_path 2 1000 room refl) (rw room refl) in
    let is = ap (λ w. data_end (receives w (codes "z"))) (begun_from table root f)
    ∙ ap (λ w. data_end w) (z_comes (standing root) (table, root) from_said false over)
    ∙ ends_from (standing root) (table, root) from_said (ends_well (table, root) image_settings (Keeps.First 1) (codes "abc") (codes "z") f room refl refl)
    ∙ ap (λ o. left (standing root) from_said (ends_behind (standing root) (after (table, root) image_settings false) (Keeps.First 1) o (codes "z") Texts.Complete))
    (abc_octets (under table root) f) in
    (ap (λ w. w.owed) is, ap (λ w. w.session.table) is)
