-- What is asked for by a listing of entries, of names or as text.
use Rattle.std.proofs.Common.{◌≡◌, ℕ, Bool, true, false, not, ◌&&◌, ◌==◌, List, [], ◌∷◌, Option, None, Some, refl, sym, ap, ◌∙◌, ne_eqb}
use Rattle.std.specs.Prelude.{if◌then◌else◌}
use Rattle.std.specs.Option.{option_map}
use Rattle.std.proofs.lemmas.Bool.{and_parts}
use Rattle.ftp_command.specs.Argument.{hyphen}
use Rattle.ftp_command.specs.Line.{IfGiven, IsListed}
use Rattle.ftp_wire.specs.Decoder.{decoder_of, ended}
use Rattle.ftp_wire.proofs.WireLemmas.{wire_gives_file}
use Rattle.ftp_facts.specs.Listing.{entries_value, names_value}
use Rattle.ftp_operation.specs.Answer.{Said, Entries, Names as NameList, Octets}
use Rattle.ftp_operation.specs.Operation.{can_be_sent, is_option, is_optional_text, may_be_listed}
use Rattle.ftp_operation.specs.declared.op.How.{How}
use Rattle.ftp_operation.specs.declared.op.ListVerb.{ListVerb}
use Rattle.ftp_operation.specs.declared.op.ListVerb.TheVariants as Verbs
use Rattle.ftp_operation.specs.declared.op.Op.{Op}
use Rattle.ftp_operation.specs.declared.op.Op.TheVariants as Ops
use Rattle.ftp_settings.specs.declared.representation.Representation.{Representation}
use Rattle.ftp_path.specs.Path.{fits}
use Rattle.ftp_tree.specs.Map.{Node, Dir, File}
use Rattle.ftp_tree.specs.Tree.{directory_refusal, node_at}
use Rattle.ftp_tree.specs.declared.fault.TreeFault.TheVariants as Faults
use Rattle.ftp_direct.specs.Direct.{State, is_file, named_or_here, part, refusal, refused_text, refused_there}
use Rattle.ftp_direct.specs.Listing.{lines_for}
use Rattle.ftp_client_model.specs.Octets.{content_answer, cut_answer}
use Rattle.ftp_client_model.specs.Plan.{listing_settings, optional}
use Rattle.ftp_client_model.specs.View.{Receiving}
use Rattle.ftp_server_model.specs.Ask.{or_empty}
use Rattle.ftp_server_model.specs.Listing.{entry_lines, list_lines, listing_wire, name_lines}
use Rattle.ftp_server_model.specs.Transfer.{transfer_starts}
use Rattle.ftp_server_model.specs.View.{direct_of, seen}
use Rattle.ftp_server_model.specs.declared.session.Transfer.TheVariants as Transfers
use Rattle.laws_world.specs.Outcome.{listing_text_by}
use Rattle.laws_dialogues.specs.Dialogue.{IsSound}
use Rattle.laws_dialogues.specs.Fetches.{HasAnswer, HasRow, IsAsk, list_ask, listing_ask, names_ask, text_ask}
use Rattle.laws_dialogues.proofs.Telling.{is_sent, stated}
use Rattle.laws_dialogues.proofs.ListingTexts.{IsGiven, entries-back, names-back, text_parts}

-- a text that may be left out is sent as it is
same_text : (text : List ℕ) → or_empty (optional text) ≡ text
same_text [] = refl
same_text (c ∷ text) = refl

-- ---- how a command is sent, and what the server does

-- a text that is sent would not be taken for an option
no_option : (c : ℕ) (text : List ℕ) → not (is_option (c ∷ text)) ≡ true → (c == hyphen) ≡ false
no_option c text is = ne_eqb c hyphen (λ e. absurd (let f : false ≡ true = ap (λ c. not (is_option (c ∷ text))) (sym e) ∙ is in cc))

-- the text of a listing by LIST or NLST that can be sent is empty, or is sent and not taken for an option
listed_stated : (text : List ℕ) → (is_optional_text text && not (is_option text)) ≡ true → IfGiven IsListed (optional text)
listed_stated [] can = tt
listed_stated (c ∷ text) can =
    let both = and_parts (is_optional_text (c ∷ text)) (not (is_option (c ∷ text))) can in
    (is_sent c text both.0, no_option c text both.1)

-- the server reads the command of a listing that can be sent, and acts on it so
row : (op : Op (List ℕ)) (verb : ListVerb) (text : List ℕ) (how : How) (said : State → Said) → may_be_listed verb text ≡ true → HasRow (listing_ask op verb text how said)
row op Verbs.Mlsd text how said can = record {
  typed = tt;
  stated = stated text can;
  other = refl;
  few = λ at is. absurd (cc);
  acts = λ context s set facts.
      ap (λ t. transfer_starts (refusal (direct_of s) (Ops.List t how)) (Transfers.Listing (listing_wire s.settings.mode (entry_lines s.facts (seen s) (named_or_here (direct_of s) t)))) s) (same_text text)
      ∙ (λ i. transfer_starts (refusal (direct_of s) (Ops.List text how)) (Transfers.Listing (listing_wire (set i).mode (entry_lines (facts i) (seen s) (named_or_here (direct_of s) text)))) s);
}
row op Verbs.List text how said can = record {
  typed = tt;
  stated = listed_stated text can;
  other = refl;
  few = λ at is. absurd (cc);
  acts = λ context s set facts.
      ap (λ t. transfer_starts (refusal (direct_of s) (Ops.Names t how)) (Transfers.Listing (listing_wire s.settings.mode (list_lines (seen s) (named_or_here (direct_of s) t)))) s) (same_text text)
      ∙ (λ i. transfer_starts (refusal (direct_of s) (Ops.Names text how)) (Transfers.Listing (listing_wire (set i).mode (list_lines (seen s) (named_or_here (direct_of s) text)))) s);
}
row op Verbs.Nlst text how said can = record {
  typed = tt;
  stated = listed_stated text can;
  other = refl;
  few = λ at is. absurd (cc);
  acts = λ context s set facts.
      ap (λ t. transfer_starts (refusal (direct_of s) (Ops.Names t how)) (Transfers.Listing (listing_wire s.settings.mode (name_lines (seen s) (named_or_here (direct_of s) t) t))) s) (same_text text)
      ∙ (λ i. transfer_starts (refusal (direct_of s) (Ops.Names text how)) (Transfers.Listing (listing_wire (set i).mode (name_lines (seen s) (named_or_here (direct_of s) text) text))) s);
}

-- ---- entries

-- a listing of entries that can be sent is refused or answered so, and the client reads that answer out of the octets
list_answer : (text : List ℕ) (how : How) → can_be_sent (Ops.List text how) ≡ true → HasAnswer (list_ask text how)
list_answer text how can = record {
  refused = λ state placed. refl;
  done_so = λ state moment. refl;
  whole = λ state mark sound known none.
      let settings : Representation = listing_settings how.representation.mode in
      let octets : List ℕ = listing_text_by Verbs.Mlsd state text in
      let gives = wire_gives_file settings octets in
      let d = decoder_of settings (listing_wire how.representation.mode (lines_for Verbs.Mlsd (part state) (named_or_here state text) text)) in
      ap (λ (b : Bool). if b then content_answer (Ops.List text how) (ended d).content else cut_answer (Ops.List text how) (Receiving d mark)) gives.whole
      ∙ ap (λ content. option_map Entries (entries_value content)) gives.content ∙ ap (option_map Entries) (entries-back state (named_or_here state text) sound);
  filled = λ state came sound none front filled. absurd (cc);
  no_upload = λ state. refl;
  sent_so = λ state none. record { start = 0; octets = listing_text_by Verbs.Mlsd state text; down = refl; text = refl };
}

-- all that is so of a listing of entries
pub list_is_ask : (text : List ℕ) (how : How) → can_be_sent (Ops.List text how) ≡ true → IsAsk (list_ask text how)
list_is_ask text how can = record {
  plan = record { how_is = refl; asks = refl; offset_is = refl; own = refl; flow = refl };
  row = row (Ops.List text how) Verbs.Mlsd text how _ can;
  refuses = record { can = can; refused = λ state why placed is. is; unplaced = λ state at why is some. absurd (cc) };
  way = list_answer text how can;
}

-- ---- names

-- the text of a listing of names that can be sent is empty, or one that a path may be
names_given : (text : List ℕ) (how : How) → can_be_sent (Ops.Names text how) ≡ true → IsGiven text
names_given [] how can = tt
names_given (c ∷ text) how can = text_parts (c ∷ text) (is_sent c text (and_parts (is_optional_text (c ∷ text)) (not (is_option (c ∷ text))) can).0)

-- what is listed as a directory is no file
dir_listed : (fit : Bool) (node : Option Node) → refused_there (if fit then directory_refusal node else Some Faults.TooBig) ≡ None → is_file node ≡ false
dir_listed true None none = absurd (cc)
dir_listed true (Some Dir) none = refl
dir_listed true (Some (File octets moment)) none = absurd (cc)
dir_listed false node none = absurd (cc)

-- where a listing of names without a text is not refused, no file stands at the current directory
here_no_file : (state : State) (text : List ℕ) → refused_text Verbs.Nlst state text ≡ None → text ≡ []
    → is_file (node_at (part state) (named_or_here state text)) ≡ false
here_no_file state [] none empty = dir_listed (fits state.cwd) (node_at (part state) state.cwd) none
here_no_file state (c ∷ text) none empty = absurd (cc)

-- a listing of names that can be sent is refused or answered so, and the client reads that answer out of the octets
names_answer : (text : List ℕ) (how : How) → can_be_sent (Ops.Names text how) ≡ true → HasAnswer (names_ask text how)
names_answer text how can = record {
  refused = λ state placed. refl;
  done_so = λ state moment. refl;
  whole = λ state mark sound known none.
      let settings : Representation = listing_settings how.representation.mode in
      let octets : List ℕ = listing_text_by Verbs.Nlst state text in
      let gives = wire_gives_file settings octets in
      let d = decoder_of settings (listing_wire how.representation.mode (lines_for Verbs.Nlst (part state) (named_or_here state text) text)) in
      ap (λ (b : Bool). if b then content_answer (Ops.Names text how) (ended d).content else cut_answer (Ops.Names text how) (Receiving d mark)) gives.whole
      ∙ ap (λ content. option_map NameList (names_value content)) gives.content
      ∙ ap (option_map NameList) (names-back state (named_or_here state text) text sound (names_given text how can) (here_no_file state text none));
  filled = λ state came sound none front filled. absurd (cc);
  no_upload = λ state. refl;
  sent_so = λ state none. record { start = 0; octets = listing_text_by Verbs.Nlst state text; down = refl; text = refl };
}

-- all that is so of a listing of names
pub names_is_ask : (text : List ℕ) (how : How) → can_be_sent (Ops.Names text how) ≡ true → IsAsk (names_ask text how)
names_is_ask text how can = record {
  plan = record { how_is = refl; asks = refl; offset_is = refl; own = refl; flow = refl };
  row = row (Ops.Names text how) Verbs.Nlst text how _ can;
  refuses = record { can = can; refused = λ state why placed is. is; unplaced = λ state at why is some. absurd (cc) };
  way = names_answer text how can;
}

-- ---- text

-- the text of a listing that can be sent is refused or answered so, and is all that the octets say
text_answer : (verb : ListVerb) (text : List ℕ) (how : How) → HasAnswer (text_ask verb text how)
text_answer verb text how = record {
  refused = λ state placed. refl;
  done_so = λ state moment. refl;
  whole = λ state mark sound known none.
      let settings : Representation = listing_settings how.representation.mode in
      let octets : List ℕ = listing_text_by verb state text in
      let gives = wire_gives_file settings octets in
      let d = decoder_of settings (listing_wire how.representation.mode (lines_for verb (part state) (named_or_here state text) text)) in
      ap (λ (b : Bool). if b then content_answer (Ops.Text verb text how) (ended d).content else cut_answer (Ops.Text verb text how) (Receiving d mark)) gives.whole
      ∙ ap (λ content. Some (Octets content)) gives.content;
  filled = λ state came sound none front filled. absurd (cc);
  no_upload = λ state. refl;
  sent_so = λ state none. record { start = 0; octets = listing_text_by verb state text; down = refl; text = refl };
}

-- all that is so of the text of a listing
pub text_is_ask : (verb : ListVerb) (text : List ℕ) (how : How) → can_be_sent (Ops.Text verb text how) ≡ true → IsAsk (text_ask verb text how)
text_is_ask verb text how can = record {
  plan = record { how_is = refl; asks = refl; offset_is = refl; own = refl; flow = refl };
  row = row (Ops.Text verb text how) verb text how _ can;
  refuses = record { can = can; refused = λ state why placed is. is; unplaced = λ state at why is some. absurd (cc) };
  way = text_answer verb text how;
}
