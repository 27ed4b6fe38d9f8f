-- The server of an upload: the octets that it takes, and what it makes of the link's end and of a break.
use Rattle.std.proofs.Common.{◌≡◌, ◌⊎◌, inl, inr, ℕ, ◌+◌, ◌<◌, ◌≤◌, ◌^◌, Bool, true, false, not, nat_le, List, [], ◌∷◌, ◌++◌, length, Option, Some, None, refl, sym, ap, subst, ◌∙◌, arith, append-nil, append_assoc}
use Rattle.std.specs.Prelude.{if◌then◌else◌}
use Rattle.std.specs.Option.{is_some}
use Rattle.std.proofs.lemmas.Bool.{le-leb, leb-true}
use Rattle.ftp_ends.specs.Reply.{reply_octets}
use Rattle.ftp_mode.specs.Said.{Said, says, marker}
use Rattle.ftp_path.specs.Path.{Names}
use Rattle.ftp_reply.specs.Values.{is_marker}
use Rattle.ftp_tree.specs.Tree.{Table, file_limit, installed, octets_or_none, octets_refusal, or_else, room_at, whenever}
use Rattle.ftp_tree.specs.declared.fault.TreeFault.{TreeFault}
use Rattle.ftp_tree.specs.declared.fault.TreeFault.TheVariants as Faults
use Rattle.ftp_wire.specs.Decoder.{Decoder, with_sign, with_all, read_on, octet_says, decoded, decoded_octet, ended, fault_of, is_whole}
use Rattle.ftp_direct.specs.Direct.{State, barred_put, changed, or_refused, part, put_refusal, refused_name, refused_octets}
use Rattle.ftp_direct.specs.declared.refusal.Refusal.{Refusal}
use Rattle.ftp_client_model.specs.View.{View as Near}
use Rattle.ftp_server_model.specs.Calls as far
use Rattle.ftp_server_model.specs.Calls.{takes_all, takes_octet}
use Rattle.ftp_server_model.specs.Keep.{kept_count, kept_of, lacks, is_overtaken}
use Rattle.ftp_server_model.specs.Machine.{Ending, at_break, concluded, end_refusal, ends_by, is_over, later, put_in, breaks_off}
use Rattle.ftp_server_model.specs.Replies.{fixed_reply}
use Rattle.ftp_server_model.specs.View.{View as Far, Session, Transfer}
use Rattle.ftp_server_model.specs.declared.reply.FixedReply.{FixedReply}
use Rattle.ftp_server_model.specs.declared.reply.FixedReply.TheVariants as Texts
use Rattle.ftp_server_model.specs.declared.session.Keep.{Keep}
use Rattle.ftp_server_model.specs.declared.session.Pending.TheVariants as Pendings
use Rattle.ftp_server_model.specs.declared.session.ServerLink.{ServerLink as FarConnection}
use Rattle.ftp_server_model.specs.declared.session.ServerLink.TheVariants as FarData
use Rattle.ftp_server_model.specs.declared.session.Transfer.TheVariants as Transfers
use Rattle.laws_dialogues.specs.Fetches.{Rise, IsSteadySession, end_why, kept, linked, excess_of, stored}
use Rattle.laws_world.specs.Outcome.{mmmm_in, reached}
use Rattle.laws_dialogues.specs.Stage.{row_octets, still}
use Rattle.laws_dialogues.specs.Uploads.{AreNotes, Note, last_held, note_replies, note_reply}
use Rattle.laws_dialogues.proofs.Fetching.{same_direct}
use Rattle.laws_dialogues.proofs.Notes.{last_held-append, notes_both}
use Rattle.laws_dialogues.proofs.Sound.{by_bool}
use Rattle.laws_dialogues.proofs.Texts.{ReadsFar, decoded_grows}
use Rattle.laws_dialogues.proofs.Wires.{IsMarked, IsSigns, grows, reached_none}
use Rattle.laws_agreement.specs.Rising.{held}
use Rattle.laws_agreement.proofs.FetchLink.{far_linked}

-- ---- limits

-- within both limits nothing is too many
few_clear : (table : Table) (path : Names) (count : ℕ) → nat_le count (file_limit table) ≡ true → nat_le count (room_at table path) ≡ true → octets_refusal table path count ≡ None
few_clear table path count one other =
    ap (λ (b : Bool). or_else (whenever (not b) Faults.TooBig) (whenever (not (nat_le count (room_at table path))) Faults.Full)) one
    ∙ ap (λ (b : Bool). whenever (not b) Faults.Full) other

-- where so many are too many, more are
pub too_many_more : (table : Table) (path : Names) (few many : ℕ) → few ≤ many → is_some (octets_refusal table path few) ≡ true → is_some (octets_refusal table path many) ≡ true
too_many_more table path few many le some =
    by_bool (nat_le many (file_limit table))
    (λ small.
    by_bool (nat_le many (room_at table path))
    (λ fits.
    let one : nat_le few (file_limit table) ≡ true = le-leb few (file_limit table) (omega (arith, le, leb-true many (file_limit table) small)) in
    let other : nat_le few (room_at table path) ≡ true = le-leb few (room_at table path) (omega (arith, le, leb-true many (room_at table path) fits)) in
    absurd (let e : false ≡ true = sym (ap is_some (few_clear table path few one other)) ∙ some in cc))
    (λ full.
    ap (λ (b : Bool). is_some (or_else (whenever (not b) Faults.TooBig) (whenever (not (nat_le many (room_at table path))) Faults.Full))) small
    ∙ ap (λ (b : Bool). is_some (whenever (not b) Faults.Full)) full))
    (λ big. ap (λ (b : Bool). is_some (or_else (whenever (not b) Faults.TooBig) (whenever (not (nat_le many (room_at table path))) Faults.Full))) big)

-- what is not too many can be said
clear_few : (table : Table) (path : Names) (count : ℕ) → is_some (octets_refusal table path count) ≡ false → count < 10 ^ 18
clear_few table path count none =
    by_bool (nat_le count (file_limit table)) (λ e. omega (arith, leb-true count (file_limit table) e))
    (λ e. absurd (let f : true ≡ false =
    sym (ap (λ (b : Bool). is_some (or_else (whenever (not b) Faults.TooBig) (whenever (not (nat_le count (room_at table path))) Faults.Full))) e) ∙ none in cc))

-- very many are too many
pub many_over : (table : Table) (path : Names) (count : ℕ) → 10 ^ 18 ≤ count → is_some (octets_refusal table path count) ≡ true
many_over table path count many =
    by_bool (nat_le count (file_limit table)) (λ e. absurd (omega (arith, many, leb-true count (file_limit table) e)))
    (λ e. ap (λ (b : Bool). is_some (or_else (whenever (not b) Faults.TooBig) (whenever (not (nat_le count (room_at table path))) Faults.Full))) e)

-- ---- the server

-- with this data connection
abbrev pub upload_far : FarConnection Transfer → Far → Far
upload_far connection f = far_linked (linked connection false Pendings.Nothing f.session) f

-- and with this map behind it
abbrev pub stored_far : Table → Far → Far
stored_far table f = far_linked (linked FarData.Free false Pendings.Nothing (record f.session { table = table })) f

module _ (state : State) (rise : Rise) (n : Near) (f : Far) (steady : IsSteadySession state (kept n f)) (known : state.known ≡ true) where
  abbrev path : Names
  path = rise.path state

  abbrev keep : Keep
  keep = rise.keep state

  abbrev session_with : FarConnection Transfer → Session
  session_with connection = linked connection false Pendings.Nothing f.session

  -- a limit is passed in the session where it is in the state
  over_is : (d : Decoder) (connection : FarConnection Transfer) → is_over path keep d (session_with connection) ≡ is_some (excess_of rise state (length d.content))
  over_is d connection = ap (λ s. is_some (octets_refusal (part s) path (kept_count keep + length d.content))) (same_direct state n f steady known)

  -- what is put in the session is what is stored in the state
  put_is : (content : List ℕ) → rise.moment ≡ f.context.moment
      → put_in f.context.moment path keep content (session_with FarData.Free) ≡ record (session_with FarData.Free) { table = (stored rise state content).table }
  put_is content timed =
      ap (λ (s : State). record (session_with FarData.Free) { table = (changed s (installed (part s) path (kept_of keep (octets_or_none (part s) path) ++ content) f.context.moment)).table })
      (same_direct state n f steady known)
      ∙ ap (λ moment. record (session_with FarData.Free) { table = (changed state (installed (part state) path (kept_of keep (octets_or_none (part state) path) ++ content) moment)).table }) (sym timed)

  -- the server behind it is steady in what is stored
  pub stored_steady : (content : List ℕ) → IsSteadySession (stored rise state content) (kept n (stored_far (stored rise state content).table f))
  stored_steady content = record {
    peer = steady.peer;
    here = steady.here;
    typed = steady.typed;
    own = steady.own;
    family = steady.family;
    all_ways = steady.all_ways;
    table = refl;
    access = steady.access;
    root = steady.root;
    rights = steady.rights;
    cwd = steady.cwd;
    settings = steady.settings;
    facts = steady.facts;
  }

  -- ---- octets

  -- it takes octets, past a limit or not, and owes these
  abbrev pub taking_at : Bool → Decoder → List ℕ → Far
  taking_at past d owed = record (still (upload_far (held past path keep d) f)) { owed = owed }

  -- the server, past a limit before or not, has taken what makes this decoder, past a limit or not, and has answered markers; the last number that it
  -- says follows so on one that was said before
  pub record Taken (before : Bool) (v : Far) (owed : List ℕ) (d : Decoder) (says_last : Option ℕ → Option ℕ) : Type 0 where
    pub past : Bool
    pub notes : List Note
    pub is : v ≡ taking_at past d (owed ++ row_octets (note_replies notes))
    pub since : past ≡ false → before ≡ false
    pub over : past ≡ true → is_some (excess_of rise state (length d.content)) ≡ true
    pub few : past ≡ false → kept_count keep + length d.content < 10 ^ 18
    pub fine : AreNotes notes
    pub last : (mark : Option ℕ) → past ≡ false → last_held mark notes ≡ says_last mark

  -- a call that does the same takes them so too, and they say the same last number
  taken_as : {before : Bool} {v w : Far} {owed : List ℕ} {d : Decoder} {says other : Option ℕ → Option ℕ} → Taken before w owed d says → v ≡ w
      → ((mark : Option ℕ) → says mark ≡ other mark) → Taken before v owed d other
  taken_as t same last = record {
    past = t.past;
    notes = t.notes;
    is = same ∙ t.is;
    since = t.since;
    over = t.over;
    few = t.few;
    fine = t.fine;
    last = λ mark e. t.last mark e ∙ last mark;
  }

  -- past a limit nothing changes
  past_stays : (d : Decoder) (owed : List ℕ) (said : List Said) → takes_all said (taking_at true d owed) ≡ taking_at true d owed
  past_stays d owed [] = refl
  past_stays d owed (one ∷ more) = past_stays d owed more

  -- nothing more is owed where no marker came
  none_owed : (past : Bool) (d : Decoder) (owed : List ℕ) → taking_at past d owed ≡ taking_at past d (owed ++ row_octets (note_replies []))
  none_owed past d owed = ap (taking_at past d) (sym (append-nil owed))

  -- signs are taken
  signs_taken : (owed : List ℕ) (d : Decoder) (said : List Said) → IsSigns said → kept_count keep + length d.content < 10 ^ 18
      → Taken false (takes_all said (taking_at false d owed)) owed (with_all d said) (λ mark. mark)
  signs_taken owed d [] signs few =
      record { past = false; notes = []; is = none_owed false d owed; since = λ e. refl; over = λ e. absurd (cc); few = λ e. few; fine = tt; last = λ mark e. refl }
  signs_taken owed d (marker text ∷ more) signs few = absurd signs
  signs_taken owed d (says sign ∷ more) signs few =
      by_bool (is_some (excess_of rise state (length (with_sign d sign).content))) past
      (λ e. on (signs_taken owed (with_sign d sign) more signs (clear_few (part state) path (kept_count keep + length (with_sign d sign).content) e)) e)
    where
      step : (b : Bool) → is_some (excess_of rise state (length (with_sign d sign).content)) ≡ b
          → takes_all (says sign ∷ more) (taking_at false d owed) ≡ takes_all more (taking_at b (with_sign d sign) owed)
      step true e =
          ap (λ (b : Bool). takes_all more (record (still (upload_far (if b then FarData.Transferring Transfers.OverLimit else FarData.Transferring (Transfers.Upload path keep (with_sign d sign))) f)) { owed = owed }))
          (over_is (with_sign d sign) (held false path keep d) ∙ e)
      step false e =
          ap (λ (b : Bool). takes_all more (record (still (upload_far (if b then FarData.Transferring Transfers.OverLimit else FarData.Transferring (Transfers.Upload path keep (with_sign d sign))) f)) { owed = owed }))
          (over_is (with_sign d sign) (held false path keep d) ∙ e)

      past : is_some (excess_of rise state (length (with_sign d sign).content)) ≡ true
          → Taken false (takes_all (says sign ∷ more) (taking_at false d owed)) owed (with_all d (says sign ∷ more)) (λ mark. mark)
      past e = record {
        past = true;
        notes = [];
        is = step true e ∙ past_stays (with_sign d sign) owed more ∙ none_owed true (with_all d (says sign ∷ more)) owed;
        since = λ no_more. refl;
        over = λ yes. too_many_more (part state) path (kept_count keep + length (with_sign d sign).content) (kept_count keep + length (with_all (with_sign d sign) more).content)
            (omega (arith, grows (with_sign d sign) more)) e;
        few = λ no_more. absurd (cc);
        fine = tt;
        last = λ mark no_more. refl;
      }

      on : Taken false (takes_all more (taking_at false (with_sign d sign) owed)) owed (with_all (with_sign d sign) more) (λ mark. mark)
          → is_some (excess_of rise state (length (with_sign d sign).content)) ≡ false
          → Taken false (takes_all (says sign ∷ more) (taking_at false d owed)) owed (with_all d (says sign ∷ more)) (λ mark. mark)
      on t e = taken_as t (step false e) (λ mark. refl)

  -- a marker is answered by the octets held, and then signs are taken
  marker_taken : (owed : List ℕ) (d : Decoder) (text : List ℕ) (more : List Said) → is_marker text ≡ true → IsSigns more → kept_count keep + length d.content < 10 ^ 18
      → Taken false (takes_all (marker text ∷ more) (taking_at false d owed)) owed (with_all d (marker text ∷ more)) (λ mark. Some (kept_count keep + length d.content))
  marker_taken owed d text more marks signs few =
      let note : Note = record { theirs = text; held = kept_count keep + length d.content } in
      let t = signs_taken (owed ++ reply_octets (note_reply note)) d more signs few in
      record {
        past = t.past;
        notes = note ∷ t.notes;
        is = t.is ∙ ap (taking_at t.past (with_all d more)) (append_assoc owed (reply_octets (note_reply note)) (row_octets (note_replies t.notes)));
        since = t.since;
        over = t.over;
        few = t.few;
        fine = ((marks, few), t.fine);
        last = λ mark e. t.last (Some note.held) e;
      }

  -- all that an octet says is taken
  said_taken : (owed : List ℕ) (d : Decoder) (said : List Said) → IsSigns said ⊎ IsMarked said → kept_count keep + length d.content < 10 ^ 18
      → Taken false (takes_all said (taking_at false d owed)) owed (with_all d said) (λ mark. reached (kept_count keep + length d.content) mark said)
  said_taken owed d said (inl signs) few =
      taken_as (signs_taken owed d said signs few) refl (λ mark. sym (reached_none (kept_count keep + length d.content) mark said signs))
  said_taken owed d said (inr marked) few =
      subst (λ said. Taken false (takes_all said (taking_at false d owed)) owed (with_all d said) (λ mark. reached (kept_count keep + length d.content) mark said)) (sym marked.is)
      (marker_taken owed d marked.text marked.more marked.fine marked.signs few)

  -- an octet is taken
  octet_taken : (owed : List ℕ) (past : Bool) (d : Decoder) (octet : ℕ) → (past ≡ true → is_some (excess_of rise state (length d.content)) ≡ true) → (past ≡ false → kept_count keep + length d.content < 10 ^ 18)
      → fault_of (read_on d octet) ≡ None → IsSigns (octet_says d octet) ⊎ IsMarked (octet_says d octet)
      → Taken past (far.receives_octet (taking_at past d owed) octet) owed (decoded_octet d octet) (λ mark. reached (kept_count keep + length d.content) mark (octet_says d octet))
  unfolding far.receives_octet
  octet_taken owed false d octet over few none said =
      let t = said_taken owed (read_on d octet) (octet_says d octet) said (few refl) in
      record {
        past = t.past;
        notes = t.notes;
        is = ap (λ fault. later (takes_octet fault path keep (read_on d octet) (octet_says d octet) (taking_at false d owed))) none ∙ ap later t.is;
        since = t.since;
        over = t.over;
        few = t.few;
        fine = t.fine;
        last = t.last;
      }
  octet_taken owed true d octet over few none said = record {
    past = true;
    notes = [];
    is = none_owed true d owed;
    since = λ e. e;
    over = λ yes. too_many_more (part state) path (kept_count keep + length d.content) (kept_count keep + length (decoded_octet d octet).content) (omega (arith, grows (read_on d octet) (octet_says d octet))) (over refl);
    few = λ e. absurd (cc);
    fine = tt;
    last = λ mark e. absurd (cc);
  }

  -- the octets of two rows of answers
  answers_octets : (owed : List ℕ) (xs ys : List Note) → (owed ++ row_octets (note_replies xs)) ++ row_octets (note_replies ys) ≡ owed ++ row_octets (note_replies (xs ++ ys))
  answers_octets owed xs ys = append_assoc owed (row_octets (note_replies xs)) (row_octets (note_replies ys)) ∙ ap (λ l. owed ++ l) (both xs)
    where
      both : (xs : List Note) → row_octets (note_replies xs) ++ row_octets (note_replies ys) ≡ row_octets (note_replies (xs ++ ys))
      both [] = refl
      both (x ∷ xs) = append_assoc (reply_octets (note_reply x)) (row_octets (note_replies xs)) (row_octets (note_replies ys)) ∙ ap (λ l. reply_octets (note_reply x) ++ l) (both xs)

  -- past a limit octets are dropped
  octets_dropped : (d : Decoder) (owed octets : List ℕ) → far.receives (taking_at true d owed) octets ≡ taking_at true (decoded d octets) owed
  unfolding far.receives_octet
  octets_dropped d owed [] = refl
  octets_dropped d owed (octet ∷ octets) = octets_dropped (decoded_octet d octet) owed octets

  -- and a limit is passed still
  still_over : (d : Decoder) (octets : List ℕ) → is_some (excess_of rise state (length d.content)) ≡ true → is_some (excess_of rise state (length (decoded d octets).content)) ≡ true
  still_over d octets some = too_many_more (part state) path (kept_count keep + length d.content) (kept_count keep + length (decoded d octets).content) (omega (arith, decoded_grows d octets)) some

  -- what is read well once an octet was taken, where no limit was passed with it
  read_on_far : (count : ℕ) (next : Decoder) (octets : List ℕ) → count < 10 ^ 18 → length next.content ≤ count → (10 ^ 18 ≤ length next.content) ⊎ ReadsFar next octets → ReadsFar next octets
  read_on_far count next octets few within (inl many) = absurd (omega (arith, few, within, many))
  read_on_far count next octets few within (inr reads) = reads

  -- octets are taken
  pub octets_taken : (owed : List ℕ) (past : Bool) (d : Decoder) (octets : List ℕ) → (past ≡ true → is_some (excess_of rise state (length d.content)) ≡ true)
      → (past ≡ false → kept_count keep + length d.content < 10 ^ 18) → (past ≡ false → ReadsFar d octets)
      → Taken past (far.receives (taking_at past d owed) octets) owed (decoded d octets) (λ mark. mmmm_in (kept_count keep) d mark octets)
  octets_taken owed true d octets over few reads = record {
    past = true;
    notes = [];
    is = octets_dropped d owed octets ∙ none_owed true (decoded d octets) owed;
    since = λ e. e;
    over = λ e. still_over d octets (over refl);
    few = λ e. absurd (cc);
    fine = tt;
    last = λ mark e. absurd (cc);
  }
  octets_taken owed false d [] over few reads =
      record { past = false; notes = []; is = none_owed false d owed; since = λ e. e; over = over; few = few; fine = tt; last = λ mark e. refl }
  octets_taken owed false d (octet ∷ octets) over few reads =
      let well = reads refl in
      let one = octet_taken owed false d octet over few well.0 well.1 in
      let t = octets_taken (owed ++ row_octets (note_replies one.notes)) one.past (decoded_octet d octet) octets one.over one.few
      (λ e. read_on_far (kept_count keep + length (decoded_octet d octet).content) (decoded_octet d octet) octets (one.few e) (omega arith) well.2) in
      record {
        past = t.past;
        notes = one.notes ++ t.notes;
        is = ap (λ v. far.receives v octets) one.is ∙ t.is ∙ ap (taking_at t.past (decoded d (octet ∷ octets))) (answers_octets owed one.notes t.notes);
        since = λ e. one.since (t.since e);
        over = t.over;
        few = t.few;
        fine = notes_both one.notes t.notes one.fine t.fine;
        last = λ mark e. last_held-append mark one.notes t.notes ∙ ap (λ m. last_held m t.notes) (one.last mark (t.since e)) ∙ t.last (reached (kept_count keep + length d.content) mark (octet_says d octet)) e;
      }

  -- ---- the end and a break

  -- it is refused for its octets alone
  abbrev pub EndsSo : Type 0
  EndsSo = (content : List ℕ) → end_why rise state content ≡ refused_octets (excess_of rise state (length content))

  -- why the server refuses it at its end is said of its session as of the state
  end_is : (content : List ℕ) → end_refusal path keep content (session_with FarData.Free) ≡ end_why rise state content
  end_is content =
      ap (λ s. or_refused (barred_put s path)
      (or_refused (refused_name (whenever (lacks keep (octets_or_none (part s) path)) Faults.BadOffset))
      (put_refusal s path (length (kept_of keep (octets_or_none (part s) path) ++ content))))) (same_direct state n f steady known)

  -- what came is installed and answered so, or is too much
  abbrev ending_by : Bool → List ℕ → FixedReply → Ending
  ending_by b content text = if b then (session_with FarData.Free, Texts.TooMuch) else (put_in f.context.moment path keep content (session_with FarData.Free), text)

  -- it ends by this reason, in a session that has no data connection any more
  abbrev ends_for : Option Refusal → List ℕ → FixedReply → Ending
  ends_for why content text = ends_by why f.context.moment path keep content text (session_with FarData.Free)

  abbrev why_is : List ℕ → Option Refusal
  why_is content = end_refusal path keep content (session_with FarData.Free)

  -- it ends so
  ending_is : EndsSo → (b : Bool) (content : List ℕ) (text : FixedReply) → is_some (excess_of rise state (length content)) ≡ b
      → ends_for (why_is content) content text ≡ ending_by b content text
  ending_is so b content text is = ap (λ why. ends_for why content text) (end_is content ∙ so content) ∙ by_fault (excess_of rise state (length content)) b is
    where
      by_fault : (fault : Option TreeFault) (b : Bool) → is_some fault ≡ b → ends_for (refused_octets fault) content text ≡ ending_by b content text
      by_fault None true is = absurd (cc)
      by_fault None false is = refl
      by_fault (Some fault) true is = refl
      by_fault (Some fault) false is = absurd (cc)

  -- the server behind it
  abbrev pub far_by : Bool → List ℕ → Far
  far_by true content = upload_far FarData.Free f
  far_by false content = stored_far (stored rise state content).table f

  -- its last reply
  abbrev pub text_by : Bool → FixedReply → FixedReply
  text_by true text = Texts.TooMuch
  text_by false text = text

  -- it is concluded so
  ends_with : (b : Bool) (content : List ℕ) (text : FixedReply) (connection : FarConnection Transfer) (owed : List ℕ) → rise.moment ≡ f.context.moment
      → concluded (ending_by b content text) (record (still (upload_far connection f)) { owed = owed })
      ≡ record (still (far_by b content)) { owed = owed ++ reply_octets (fixed_reply (text_by b text)) }
  ends_with true content text connection owed timed = refl
  ends_with false content text connection owed timed =
      ap (λ s. record (still (far_linked s f)) { owed = owed ++ reply_octets (fixed_reply text) }) (put_is content timed)

  -- a break: what came is installed, where no limit is passed
  pub upload_breaks : EndsSo → is_overtaken keep ≡ false → (past b : Bool) (d : Decoder) (owed : List ℕ) → rise.moment ≡ f.context.moment → (past ≡ true → b ≡ true) → is_some (excess_of rise state (length d.content)) ≡ b
      → far.data_fault (record (still (upload_far (held past path keep d) f)) { owed = owed })
      ≡ record (still (far_by b d.content)) { owed = owed ++ reply_octets (fixed_reply (text_by b Texts.Broken)) }
  unfolding far.data_fault
  upload_breaks so own true b d owed timed past is = ap (λ b. record (still (far_by b d.content)) { owed = owed ++ reply_octets (fixed_reply (text_by b Texts.Broken)) }) (sym (past refl))
  upload_breaks so own false b d owed timed past is =
      ap (λ (late : Bool). concluded (breaks_off late f.context.moment path keep d (session_with FarData.Free)) (record (still (upload_far (held false path keep d) f)) { owed = owed }))
      own
      ∙ ap (λ ending. concluded ending (record (still (upload_far (held false path keep d) f)) { owed = owed })) (ending_is so b d.content Texts.Broken is)
      ∙ ends_with b d.content Texts.Broken (held false path keep d) owed timed

  -- the client's close behind the whole text: the file is installed, where no limit is passed
  pub upload_ends : EndsSo → (past b : Bool) (d : Decoder) (content owed : List ℕ) → rise.moment ≡ f.context.moment → (past ≡ false → (is_whole d ≡ true) × ((ended d).content ≡ content))
      → (past ≡ true → b ≡ true) → is_some (excess_of rise state (length content)) ≡ b
      → far.data_end (record (still (upload_far (held past path keep d) f)) { owed = owed })
      ≡ record (still (far_by b content)) { owed = owed ++ reply_octets (fixed_reply (text_by b Texts.Complete)) }
  unfolding far.data_end
  upload_ends so true b d content owed timed whole past is =
      ap (λ b. record (still (far_by b content)) { owed = owed ++ reply_octets (fixed_reply (text_by b Texts.Complete)) }) (sym (past refl))
  upload_ends so false b d content owed timed whole past is =
      let v : Far = taking_at false d owed in
      let all = whole refl in
      ap (λ (w : Bool). concluded (if w then ends_for (why_is (ended d).content) (ended d).content Texts.Complete
      else at_break f.context.moment (Transfers.Upload path keep d) (session_with FarData.Free)) v) all.0
      ∙ ap (λ l. concluded (ends_for (why_is l) l Texts.Complete) v) all.1
      ∙ ap (λ ending. concluded ending v) (ending_is so b content Texts.Complete is)
      ∙ ends_with b content Texts.Complete (held false path keep d) owed timed
