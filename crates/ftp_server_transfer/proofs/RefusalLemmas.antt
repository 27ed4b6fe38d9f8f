-- Why what came of an upload can't be put where it is to be, and what is in the map where it can.
use Rattle.std.proofs.Common.{◌≡◌, ℕ, ◌+◌, ◌≤◌, ◌<◌, ◌++◌, Bool, true, false, not, nat_le, List, length, take, Option, Some, None, is_some, refl, sym, ap, ◌∙◌, arith, length-append}
use Rattle.std.proofs.lemmas.Bool.{le-leb, lt-leb}
use Rattle.std.proofs.lemmas.List.{length-take-le}
use Rattle.std.specs.Prelude.{◌&&◌, Ok, if◌then◌else◌}
use Rattle.std.specs.Option.{option_map, unwrap_or}
use Rattle.ftp_path.specs.Path.{Names, fits}
use Rattle.ftp_tree.specs.Change.{Failures, IsSteady, NoStray}
use Rattle.ftp_tree.specs.Tree.{Table, node_at, octets_or_none, octets_refusal, room_at, room_refusal, under, whenever}
use Rattle.ftp_tree.specs.declared.fault.TreeFault.{TreeFault}
use Rattle.ftp_tree.specs.declared.fault.TreeFault.TheVariants.{BadOffset}
use Rattle.ftp_operation.specs.Rights.{may_put}
use Rattle.ftp_operation.specs.declared.rights.Rights.{Rights}
use Rattle.ftp_direct.specs.Direct.{barred, is_file, limited, or_refused, refused_name, refused_octets, refused_room}
use Rattle.ftp_direct.specs.Refusal.{name_refusal}
use Rattle.ftp_direct.specs.declared.refusal.Refusal.{Refusal}
use Rattle.ftp_wire.specs.Decoder.{Decoder}
use Rattle.ftp_server_model.specs.View.{Session}
use Rattle.ftp_server_model.specs.Keep.{kept_of, lacks}
use Rattle.ftp_server_model.specs.Machine.{end_refusal, ends_by, installs}
use Rattle.ftp_server_model.specs.Walk.{refusal_text}
use Rattle.ftp_server_model.specs.declared.session.Keep.{Keep}
use Rattle.ftp_server_model.specs.declared.reply.FixedReply.{FixedReply}
use Rattle.ftp_server_model.specs.declared.reply.FixedReply.TheVariants as Texts
use Rattle.ftp_server_replies.specs.ServerTransfer.{Ends}
use Rattle.ftp_server_transfer.proofs.LimitLemmas.{limits_tell}

-- ---- why it is refused

-- the first reason, by what is asked in turn: the account, the octets that are kept, the place, the limits
abbrev first : (may lacking : Bool) → Option TreeFault → Option TreeFault → Option FixedReply
first may lacking place limits =
    option_map refusal_text
    (or_refused (barred may) (or_refused (refused_name (whenever lacking BadOffset)) (or_refused (refused_room place) (refused_octets limits))))

-- the same of a part of the map
abbrev asked : Table → Rights → Names → Keep → ℕ → Option FixedReply
asked part rights path keep count =
    first (may_put rights (fits path && is_file (node_at part path))) (lacks keep (octets_or_none part path))
    (limited path (room_refusal part path)) (octets_refusal part path count)

-- it is the refusal of each session with this map, root and rights
pub of_session : (s : Session) (table : Table) (root : Names) (rights : Rights) (path : Names) (keep : Keep) (octets : List ℕ) (count kept : ℕ)
    (result : Option FixedReply)
    → s.table ≡ table → s.root ≡ root → s.rights ≡ rights → length octets ≡ count
    → length (kept_of keep (octets_or_none (under table root) path)) ≡ kept
    → result ≡ asked (under table root) rights path keep (kept + count) → result ≡ option_map refusal_text (end_refusal path keep octets s)
of_session s table root rights path keep octets count kept result same at may long kept_is is =
    let stands = octets_or_none (under table root) path in
    let whole : length (kept_of keep stands ++ octets) ≡ kept + count =
    length-append (kept_of keep stands) octets ∙ ap (λ n. n + length octets) kept_is ∙ ap (λ n. kept + n) long in
    let f : Table → Names → Rights → Option FixedReply = λ t r g. asked (under t r) g path keep (length (kept_of keep (octets_or_none (under t r) path) ++ octets)) in
    is ∙ ap (λ n. asked (under table root) rights path keep n) (sym whole)
    ∙ ap (λ t. f t root rights) (sym same) ∙ ap (λ r. f s.table r rights) (sym at) ∙ ap (λ g. f s.table s.root g) (sym may)

-- where the account may not, nothing else is asked
pub is_barred : (s : Session) (table : Table) (root : Names) (rights : Rights) (path : Names) (keep : Keep) (octets : List ℕ)
    → s.table ≡ table → s.root ≡ root → s.rights ≡ rights → false ≡ may_put rights (fits path && is_file (node_at (under table root) path))
    → Some Texts.NotAllowed ≡ option_map refusal_text (end_refusal path keep octets s)
is_barred s table root rights path keep octets same at may barring =
    let stands = kept_of keep (octets_or_none (under table root) path) in
    of_session s table root rights path keep octets (length octets) (length stands) (Some Texts.NotAllowed) same at may refl refl
    (ap (λ b. first b (lacks keep (octets_or_none (under table root) path)) (limited path (room_refusal (under table root) path))
    (octets_refusal (under table root) path (length stands + length octets))) barring)

-- fewer octets stand there than are kept
pub is_short : (s : Session) (table : Table) (root : Names) (rights : Rights) (path : Names) (keep : Keep) (octets : List ℕ)
    → s.table ≡ table → s.root ≡ root → s.rights ≡ rights → true ≡ may_put rights (fits path && is_file (node_at (under table root) path))
    → lacks keep (octets_or_none (under table root) path) ≡ true
    → Some Texts.NameRefused ≡ option_map refusal_text (end_refusal path keep octets s)
is_short s table root rights path keep octets same at may allowed short =
    let stands = kept_of keep (octets_or_none (under table root) path) in
    let place = limited path (room_refusal (under table root) path) in
    let limits = octets_refusal (under table root) path (length stands + length octets) in
    of_session s table root rights path keep octets (length octets) (length stands) (Some Texts.NameRefused) same at may refl refl
    (ap (λ b. first true b place limits) (sym short) ∙ ap (λ b. first b (lacks keep (octets_or_none (under table root) path)) place limits) allowed)

-- a path within the limits of paths is refused by what stands there alone
limited_is : (path : Names) (refusal : Option TreeFault) → fits path ≡ true → limited path refusal ≡ refusal
limited_is path refusal fit = rw fit refl

-- the tree takes no file there
pub has_no_place : (s : Session) (table : Table) (root : Names) (rights : Rights) (path : Names) (keep : Keep) (octets : List ℕ) (fault : TreeFault)
    → s.table ≡ table → s.root ≡ root → s.rights ≡ rights → true ≡ may_put rights (fits path && is_file (node_at (under table root) path))
    → lacks keep (octets_or_none (under table root) path) ≡ false → fits path ≡ true → room_refusal (under table root) path ≡ Some fault
    → Some (refusal_text (name_refusal fault)) ≡ option_map refusal_text (end_refusal path keep octets s)
has_no_place s table root rights path keep octets fault same at may allowed long fit refused =
    let stands = kept_of keep (octets_or_none (under table root) path) in
    let place = limited path (room_refusal (under table root) path) in
    let limits = octets_refusal (under table root) path (length stands + length octets) in
    let placed : place ≡ Some fault = limited_is path (room_refusal (under table root) path) fit ∙ refused in
    of_session s table root rights path keep octets (length octets) (length stands) (Some (refusal_text (name_refusal fault))) same at may refl refl
    (ap (λ p. first true false p limits) (sym placed) ∙ ap (λ b. first true b place limits) (sym long)
    ∙ ap (λ b. first b (lacks keep (octets_or_none (under table root) path)) place limits) allowed)

-- fewer stand there than are to be kept, or not
pub fewer : (keep : Keep) (stands : List ℕ) (kept count : ℕ) → lacks keep stands ≡ not (nat_le kept (length stands)) → count ≡ length stands → count < kept
    → lacks keep stands ≡ true
fewer keep stands kept count is counted less = is ∙ ap not (lt-leb kept (length stands) (omega (arith, counted, less)))

pub no_fewer : (keep : Keep) (stands : List ℕ) (kept count : ℕ) → lacks keep stands ≡ not (nat_le kept (length stands)) → count ≡ length stands → kept ≤ count
    → lacks keep stands ≡ false
no_fewer keep stands kept count is counted few = is ∙ ap not (le-leb kept (length stands) (omega (arith, counted, few)))

-- so many octets are kept of those that stand there, if no fewer do
kept_len : (keep : Keep) (stands : List ℕ) (kept : ℕ) → take kept stands ≡ kept_of keep stands → kept ≤ length stands → length (kept_of keep stands) ≡ kept
kept_len keep stands kept is few = ap length (sym is) ∙ length-take-le kept stands few

-- it is within the limits, or past them
by_limits : (limits : Option TreeFault) (past : Bool) → is_some limits ≡ past
    → (if past then Some Texts.TooMuch else None) ≡ first true false None limits
by_limits None true is = absurd (cc)
by_limits None false is = refl
by_limits (Some fault) true is = refl
by_limits (Some fault) false is = absurd (cc)

-- there is a place for it: the limits alone are asked
pub has_place : (s : Session) (table : Table) (root : Names) (rights : Rights) (path : Names) (keep : Keep) (octets : List ℕ) (count kept room : ℕ) (past : Bool)
    → s.table ≡ table → s.root ≡ root → s.rights ≡ rights → length octets ≡ count
    → true ≡ may_put rights (fits path && is_file (node_at (under table root) path))
    → take kept (octets_or_none (under table root) path) ≡ kept_of keep (octets_or_none (under table root) path)
    → kept ≤ length (octets_or_none (under table root) path)
    → lacks keep (octets_or_none (under table root) path) ≡ false → fits path ≡ true → room_refusal (under table root) path ≡ None
    → room ≡ room_at (under table root) path
    → past ≡ not (nat_le (kept + count) room) → (if past then Some Texts.TooMuch else None) ≡ option_map refusal_text (end_refusal path keep octets s)
has_place s table root rights path keep octets count kept room past same at may counted allowed is few long fit free room_is over =
    let part = under table root in
    let stands = octets_or_none part path in
    let place = limited path (room_refusal part path) in
    let limits = octets_refusal part path (kept + count) in
    of_session s table root rights path keep octets count kept (if past then Some Texts.TooMuch else None) same at may counted (kept_len keep stands kept is few)
    (by_limits limits past (limits_tell part path (kept + count) room room_is ∙ sym over)
    ∙ ap (λ p. first true false p limits) (sym (limited_is path (room_refusal part path) fit ∙ free)) ∙ ap (λ b. first true b place limits) (sym long)
    ∙ ap (λ b. first b (lacks keep stands) place limits) allowed)

-- ---- how it ends

some_is : (x y : FixedReply) → Some x ≡ Some y → x ≡ y
some_is x y is = ap (λ o. unwrap_or o x) is

-- where it is refused nothing changes
refused_here : (moment : ℕ) (path : Names) (keep : Keep) (octets : List ℕ) (text : FixedReply) (s : Session) (new : Table) (reply : FixedReply) (why : Option Refusal)
    → Some reply ≡ option_map refusal_text why → new ≡ s.table → (record s { table = new }, reply) ≡ ends_by why moment path keep octets text s
refused_here moment path keep octets text s new reply None is same = absurd (cc)
refused_here moment path keep octets text s new reply (Some why) is same =
    ap (λ t. (record s { table = t }, reply)) same ∙ ap (λ r. (s, r)) (some_is reply (refusal_text why) is)

pub refused_ends : (moment : ℕ) (path : Names) (keep : Keep) (d : Decoder) (text : FixedReply) (s : Session) (new : Table) (reply : FixedReply) (before after : Failures)
    → (NoStray before after → Some reply ≡ option_map refusal_text (end_refusal path keep d.content s)) → (NoStray before after → new ≡ s.table)
    → IsSteady before after → Ends (installs moment path keep d text s) s new (Ok reply) before after
refused_ends moment path keep d text s new reply before after is same steady =
    (λ stays. refused_here moment path keep d.content text s new reply (end_refusal path keep d.content s) (is stays) (same stays), steady)
