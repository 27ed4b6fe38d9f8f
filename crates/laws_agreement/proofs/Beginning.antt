-- A fair beginning is a login with no operation, from a sound state.
use Rattle.std.proofs.Common.{◌≡◌, inl, ℕ, ◌+◌, ◌≤◌, Bool, true, false, not, ◌&&◌, ◌||◌, List, [], ◌∷◌, ◌++◌, length, Option, Some, None, refl, sym, ap, subst, ◌∙◌, append-nil, arith, cond}
use Rattle.std.specs.Prelude.{IsTrue, IsSome, nat_le, is_none, is_some, if◌then◌else◌}
use Rattle.std.proofs.lemmas.List.Folds.{list_all-append}
use Rattle.std.specs.FinMap as fin
use Rattle.std.specs.FinMap.Entries.{find as find_entry}
use Rattle.std.specs.List.{find, list_all, list_any, sum_by}
use Rattle.std.specs.Option.{unwrap_or}
use Rattle.std.specs.Ordering.{eq_by_cmp}
use Rattle.std.proofs.lemmas.Bool.{and_parts, leb-true}
use Rattle.std.proofs.lemmas.List.Sums.{sum_by-cons}
use Rattle.std.proofs.lemmas.Slice.Eq.{bytes_eq-Decides}
use Rattle.ftp_command.specs.Argument.{IsName, IsPassword}
use Rattle.ftp_endpoint.specs.declared.host.Host.{Host}
use Rattle.ftp_endpoint.specs.declared.host.Host.TheVariants.{V4, V6}
use Rattle.ftp_ends.specs.Link.{is_v6}
use Rattle.ftp_ends.specs.Reply.{reply_octets}
use Rattle.ftp_path.specs.Login.{is_login_octet}
use Rattle.ftp_operation.specs.Account.{Account, has_user, are_distinct, are_apart, accounts_refusal, passes, knows, login_account, is_user, is_password}
use Rattle.ftp_operation.specs.declared.account.AccountsFault.TheVariants.{SameUser, NestedRoots}
use Rattle.ftp_secret.specs.declared.secret.Secret.{Secret}
use Rattle.ftp_path.specs.Path.{Names, fits, is_name, path_cmp, text_of}
use Rattle.ftp_tree.specs.Sound.{is_sound_entry, is_sound_node, last_second}
use Rattle.ftp_tree.specs.Map.{Node, Dir, File, octets_of, of_node, length_of}
use Rattle.ftp_tree.specs.Tree.{Table, IsTree, most_octets, node_at, octets_at, octets_in}
use Rattle.ftp_tree.specs.Map as maps
use Rattle.ftp_tree.proofs.LawLemmas.{get-node, under-stands}
use Rattle.ftp_tree.proofs.MapLemmas.{same}
use Rattle.ftp_tree.proofs.PartLemmas.{parts-trees}
use Rattle.ftp_direct.specs.Direct.{start as direct_start, is_directory, part}
use Rattle.ftp_server_model.specs.Held.{HasShortFiles}
use Rattle.ftp_server_model.specs.Login.{is_open, open_account}
use Rattle.ftp_server_model.specs.Machine.{Reading}
use Rattle.ftp_server_model.specs.Replies.{fixed_reply}
use Rattle.ftp_server_model.specs.View.{Accounts, first_session}
use Rattle.ftp_server_model.specs.declared.reply.ReplyKind.TheVariants as Replies
use Rattle.ftp_server_model.specs.declared.reply.FixedReply.TheVariants as Texts
use Rattle.ftp_server_model.proofs.RepliesWritten.{replies_are_written}
use Rattle.ftp_server_model.specs.Told.{is_path}
use Rattle.laws_world.specs.Claims.{AreRelated, Beginning, IsFair, state_of, world_of}
use Rattle.laws_dialogues.specs.Dialogue.{IsSound}
use Rattle.laws_dialogues.specs.Login.{Greets, Logging}
use Rattle.laws_dialogues.specs.Stage.{Answering, row_octets, AreWritten}
use Rattle.laws_agreement.specs.Follows.{Follows}
use Rattle.laws_agreement.proofs.Keeps.{row_anew}

-- what follows if a truth value is true, and also if it is false, holds
by_bool : {P : Type 0} (b : Bool) → (b ≡ true → P) → (b ≡ false → P) → P
by_bool true one other = one refl
by_bool false one other = other refl

-- ---- a name that needs no password leads to the account that a login with any password leads to

-- nobody has this name
no_open : (name : List ℕ) (accounts : Accounts) → list_any (has_user name) accounts ≡ false → find (is_open name) accounts ≡ None
no_open name [] none = refl
no_open name (account ∷ accounts) none =
    by_bool (has_user name account)
    (λ e. absurd (let f : true ≡ false = ap (λ b. b || list_any (has_user name) accounts) (sym e) ∙ none in cc))
    (λ e.
    let rest : list_any (has_user name) accounts ≡ false = ap (λ b. b || list_any (has_user name) accounts) (sym e) ∙ none in
    ap (λ b. cond (b && is_none account.pass) (Some account) (find (is_open name) accounts)) e ∙ no_open name accounts rest)

-- if no two accounts have one user name, the account that needs no password for a name is the one that any password opens
same_account : (name pass : List ℕ) (accounts : Accounts) (found : Account) → are_distinct accounts ≡ true → find (is_open name) accounts ≡ Some found
    → find (knows name pass) accounts ≡ Some found
same_account name pass [] found distinct is = absurd (cc)
same_account name pass (account ∷ accounts) found distinct is =
    let both = and_parts (not (list_any (has_user account.user) accounts)) (are_distinct accounts) distinct in
    by_bool (has_user name account) (λ e. by_pass account.pass refl e both.0) (λ e.
    let first : find (is_open name) accounts ≡ Some found = sym (ap (λ b. cond (b && is_none account.pass) (Some account) (find (is_open name) accounts)) e) ∙ is in
    ap (λ b. cond (b && passes account.pass pass) (Some account) (find (knows name pass) accounts)) e ∙ same_account name pass accounts found both.1 first)
  where
    not_true : (b : Bool) → not b ≡ true → b ≡ false
    not_true false e = refl
    not_true true e = absurd (cc)

    by_pass : (secret : Option Secret) → account.pass ≡ secret → has_user name account ≡ true → not (list_any (has_user account.user) accounts) ≡ true
        → find (knows name pass) (account ∷ accounts) ≡ Some found
    by_pass None none e apart =
        (λ i. cond (e i && passes (none i) pass) (Some account) (find (knows name pass) accounts))
        ∙ sym (λ i. cond (e i && is_none (none i)) (Some account) (find (is_open name) accounts)) ∙ is
    by_pass (Some secret) some e apart =
        let named : account.user ≡ name = (bytes_eq-Decides account.user name).0 e in
        let nobody : list_any (has_user name) accounts ≡ false = ap (λ u. list_any (has_user u) accounts) (sym named) ∙ not_true (list_any (has_user account.user) accounts) apart in
        absurd (let f : None ≡ Some found = sym (no_open name accounts nobody) ∙ (sym (λ i. cond (e i && is_none (some i)) (Some account) (find (is_open name) accounts)) ∙ is) in cc)

-- accounts that are not refused have no two of one user name
distinct_of : (accounts : Accounts) → accounts_refusal accounts ≡ None → are_distinct accounts ≡ true
distinct_of accounts none = by_bool (are_distinct accounts) (λ e. e) (λ e.
    absurd (let f : Some SameUser ≡ None = sym (ap (λ b. if not b then Some SameUser else (if not (are_apart accounts) then Some NestedRoots else None)) e) ∙ none in cc))

-- if the accounts are not refused, the account that USER alone opens is that of a login with any password
opens_as : (accounts : Accounts) (name pass : List ℕ) (account : Account) → accounts_refusal accounts ≡ None → open_account accounts name ≡ Some account
    → login_account accounts name pass ≡ Some account
unfolding login_account
opens_as accounts name pass account none is = same_account name pass accounts account (distinct_of accounts none) is

-- ---- names and passwords

-- a user of the type is a name that a command can carry
a_name : (user : List ℕ) → IsTrue (is_user user) → IsName user
a_name user is =
    let both = and_parts (nat_le 1 (length user) && nat_le (length user) 255) (list_all is_login_octet user) is in
    let within = and_parts (nat_le 1 (length user)) (nat_le (length user) 255) both.0 in
    (leb-true 1 (length user) within.0, (leb-true (length user) 255 within.1, both.1))

-- a password of the type is one that a command can carry
a_password : (pass : List ℕ) → IsTrue (is_password pass) → IsPassword pass
a_password pass is =
    let both = and_parts (nat_le (length pass) 255) (list_all is_login_octet pass) is in
    (leb-true (length pass) 255 both.0, both.1)

-- ---- the state at the start

-- the direct run starts with the table it is given, with or without an account
start_table : (table : Table) (found : Option Account) → (direct_start table found).table ≡ table
start_table table None = refl
start_table table (Some account) = refl

-- a file among sound entries has a moment no later than the last second
early_entry : (path : Names) (rows : List (Names × Node)) (octets : List ℕ) (moment : ℕ) → list_all is_sound_entry rows ≡ true → find_entry path_cmp path rows ≡ Some (File octets moment)
    → moment ≤ last_second
early_entry path [] octets moment all is = absurd (cc)
early_entry path (row ∷ rows) octets moment all is =
    let both = and_parts (is_sound_entry row) (list_all is_sound_entry rows) all in
    by_bool (eq_by_cmp path_cmp path row.0)
    (λ e. by_node row.1 (and_parts _ _ both.0).1 (sym (ap (λ b. cond b (Some row.1) (find_entry path_cmp path rows)) e) ∙ is))
    (λ e. early_entry path rows octets moment both.1 (sym (ap (λ b. cond b (Some row.1) (find_entry path_cmp path rows)) e) ∙ is))
  where
    by_node : (node : Node) → is_sound_node node ≡ true → Some node ≡ Some (File octets moment) → moment ≤ last_second
    by_node Dir sound e = absurd (cc)
    by_node (File other at) sound e = let same : at ≡ moment = cc in subst (λ m. m ≤ last_second) same (leb-true at last_second sound)

-- no file is longer than all of them together
short_entry : (path : Names) (rows : List (Names × Node)) (octets : List ℕ) (moment : ℕ) → find_entry path_cmp path rows ≡ Some (File octets moment)
    → length octets ≤ sum_by (λ entry. length_of entry.1) rows
short_entry path [] octets moment is = absurd (cc)
short_entry path (row ∷ rows) octets moment is =
    let all : sum_by (λ (e : Names × Node). length_of e.1) (row ∷ rows) ≡ length_of row.1 + sum_by (λ (e : Names × Node). length_of e.1) rows = sum_by-cons (λ (e : Names × Node). length_of e.1) row rows in
    by_bool (eq_by_cmp path_cmp path row.0)
    (λ e.
    let here : length_of row.1 ≡ length octets = by_node row.1 (sym (ap (λ b. cond b (Some row.1) (find_entry path_cmp path rows)) e) ∙ is) in
    let first : length octets ≤ sum_by (λ (e : Names × Node). length_of e.1) (row ∷ rows) = omega (arith, all, here) in
    first)
    (λ e.
    let rest = short_entry path rows octets moment (sym (ap (λ b. cond b (Some row.1) (find_entry path_cmp path rows)) e) ∙ is) in
    let later : length octets ≤ sum_by (λ (e : Names × Node). length_of e.1) (row ∷ rows) = omega (arith, all, rest) in
    later)
  where
    by_node : (node : Node) → Some node ≡ Some (File octets moment) → length_of node ≡ length octets
    by_node Dir e = absurd (cc)
    by_node (File other at) e = let same : other ≡ octets = cc in ap length same

-- in a table that has no more octets together than a limit may let it have, no file has more
pub few_are_short : (table : Table) → octets_in table ≤ most_octets → HasShortFiles table
unfolding octets_in maps.octets_in octets_at
few_are_short table few path = by_node (node_at table path) refl
  where
    by_node : (node : Option Node) → node_at table path ≡ node → length (unwrap_or (of_node octets_of node) []) ≤ most_octets
    by_node None is = omega arith
    by_node (Some Dir) is = omega arith
    by_node (Some (File octets moment)) is =
        let short = short_entry path (fin.entries table.map) octets moment (get-node table path ∙ is) in
        omega (arith, short, few)

-- nor has a file of a table of short files
short_file : (table : Table) (path : Names) (octets : List ℕ) (moment : ℕ) → HasShortFiles table → node_at table path ≡ Some (File octets moment) → length octets ≤ most_octets
unfolding octets_at
short_file table path octets moment short is = subst (λ (node : Option Node). length (unwrap_or (of_node octets_of node) []) ≤ most_octets) is (short path)

-- a path that has an entry among sound entries is a path of names
named_entry : (path : Names) (rows : List (Names × Node)) → list_all is_sound_entry rows ≡ true → IsSome (find_entry path_cmp path rows) → list_all is_name path ≡ true
named_entry path [] all some = absurd (cc)
named_entry path (row ∷ rows) all some =
    let both = and_parts (is_sound_entry row) (list_all is_sound_entry rows) all in
    by_bool (eq_by_cmp path_cmp path row.0)
    (λ e. ap (list_all is_name) (same path row.0 e) ∙ (and_parts (list_all is_name row.0) (is_sound_node row.1) both.0).0)
    (λ e. named_entry path rows both.1 (sym (ap (λ b. is_some (cond b (Some row.1) (find_entry path_cmp path rows))) e) ∙ some))

-- the root is a path
root_is_path : is_path [] ≡ true
unfolding fits text_of
root_is_path = refl

-- the direct run starts in a sound state from a tree of sound entries whose visible files are short
sound_start : (table : Table) (found : Option Account) → IsTree table → list_all is_sound_entry (fin.entries table.map) ≡ true → HasShortFiles (part (direct_start table found))
    → IsSound (direct_start table found)
sound_start table None tree all short = record {
  cwd = root_is_path;
  tree = λ known. absurd (cc);
  here = λ known. absurd (cc);
  names = λ path some. named_entry path (fin.entries table.map) all (ap is_some (get-node table path ∙ sym (under-stands table [] path)) ∙ some);
  files = λ path octets moment is. (
    early_entry path (fin.entries table.map) octets moment all (get-node table path ∙ sym (under-stands table [] path) ∙ is),
    short_file (part (direct_start table None)) path octets moment short is,
  );
}
sound_start table (Some account) tree all short = record {
  cwd = root_is_path;
  tree = λ known. parts-trees.taking table account.root tree (a_directory (node_at table account.root) known);
  here = λ known. (parts-trees.taking table account.root tree (a_directory (node_at table account.root) known)).root;
  names = λ path some.
      let whole = named_entry (account.root ++ path) (fin.entries table.map) all (ap is_some (get-node table (account.root ++ path) ∙ sym (under-stands table account.root path)) ∙ some) in
      (and_parts (list_all is_name account.root) (list_all is_name path) (sym (list_all-append is_name account.root path) ∙ whole)).1;
  files = λ path octets moment is. (
    early_entry (account.root ++ path) (fin.entries table.map) octets moment all (get-node table (account.root ++ path) ∙ sym (under-stands table account.root path) ∙ is),
    short_file (part (direct_start table (Some account))) path octets moment short is,
  );
}
  where
    a_directory : (node : Option Node) → is_directory node ≡ true → node ≡ Some Dir
    a_directory None is = absurd (cc)
    a_directory (Some Dir) is = refl
    a_directory (Some (File octets moment)) is = absurd (cc)

-- ---- the hosts

-- related hosts are both of IPv6 or both not
one_family : (one other : Host) → AreRelated one other → is_v6 one ≡ is_v6 other
one_family (V4 octets) (V4 others) related = refl
one_family (V4 octets) (V6 others) related = absurd related
one_family (V6 octets) (V4 others) related = absurd related
one_family (V6 octets) (V6 others) related = refl

-- ---- the world at the start

-- the world of a fair beginning follows the direct run with no operation begun
pub begins_follow : (read : Reading) (b : Beginning) → IsFair b → Follows read (state_of b) [] (world_of b)
begins_follow read b fair = record {
  unlinked = record { link = refl; to_server = refl; to_client = refl };
  untold = refl;
  phase = inl (
    record { control = refl; cutoff = refl },
    inl (record {
      now = state_of b;
      sound = sound_start b.table (login_account b.accounts b.user b.pass) fair.tree fair.entries fair.files;
      told = record { items = []; all = refl; hold = tt; now_is = refl };
      stands = record {
        base = world_of b;
        way = Answering (fixed_reply Texts.Ready ∷ []);
        cut = record { held = []; moving = []; owed = row_octets (fixed_reply Texts.Ready ∷ []) };
        is = λ i. record (world_of b) { far = record (world_of b).far { owed = sym (append-nil (reply_octets (fixed_reply Texts.Ready))) i } };
        fits = (written, row_anew (fixed_reply Texts.Ready ∷ []) written);
        here = inl (logging, refl);
      };
    }),
  );
}
  where
    written : AreWritten (fixed_reply Texts.Ready ∷ [])
    written = (replies_are_written (first_session b.table) (Replies.Fixed Texts.Ready) (fixed_reply Texts.Ready) tt refl, tt)

    table_is : (state_of b).table ≡ b.table
    table_is = start_table b.table (login_account b.accounts b.user b.pass)

    logging : Logging (state_of b) (Answering (fixed_reply Texts.Ready ∷ [])) (world_of b).near (world_of b).far
    logging = record {
      place = Greets;
      way_is = refl;
      logs = record {
        standing = refl;
        connection = refl;
        closing = refl;
        run = refl;
        user = a_name b.user fair.user;
        pass = a_password b.pass fair.pass;
        far = record { aside = refl; closing = refl; life = refl };
        settings = refl;
        facts = refl;
        table = sym table_is;
        access = refl;
        meets = record { peer = refl; here = refl; typed = fair.far_typed; own = fair.near_typed; family = one_family b.near_host b.far_host fair.hosts; all_ways = refl };
        leads_to = ap (λ table. direct_start table (login_account b.accounts b.user b.pass)) (sym table_is);
        opens = λ account found. opens_as b.accounts b.user b.pass account fair.accounts found;
      };
    }
