-- A dialogue from its start to its end.
use Rattle.std.proofs.Common.{◌≡◌, ℕ, ◌≤◌, ◌∙◌, ◌||◌, inl, inr, Bool, true, false, not, Option, List, [], ◌++◌, length, refl, sym, ap, subst, Result, Ok, Err, arith, append-nil}
use Rattle.std.specs.Prelude.{IsErr, if◌then◌else◌}
use Rattle.std.proofs.KnownBytes.{Appends-trans, Keeps-refl, Consumes-nil, Consumes-trans, Consumes-kept}
use Rattle.std.specs.Io.KnownBytes.{Appends, Consumes, IsAtEnd, Keeps}
use Rattle.ftp_ports.proofs.Fronts.{AppendsFront-none}
use Rattle.ftp_ports.specs.declared.pieces.Failed.{Failed}
use Rattle.ftp_server_model.specs.Machine.{IsReading, Reading}
use Rattle.ftp_server_model.specs.View.{View}
use Rattle.tool_dialogue.proofs.FreeLemmas.{said_is}
use Rattle.tool_dialogue.proofs.TalkLemmas.{talks-append}
use Rattle.tool_dialogue.specs.Converses.{BreaksBy, BreaksOff, Converses, Ends, EndsOff, EndsWell, Reads}
use Rattle.tool_dialogue.specs.Dialogue.{begun, dialogue, greeted_talk, is_over, is_refusal, runs, said, dialogue_status, talk_of, talks, dialogue_transcript}
use Rattle.tool_dialogue.specs.Exchange.{BreaksIn, OctetsAreAnswered}
use Rattle.tool_dialogue.specs.Free.{IsReadyForLine}
use Rattle.tool_dialogue.specs.Short.{BreaksInShort, BreaksShort, ConversesShort, IsAnsweredShort, ReadsShort, Talks}
use Rattle.tool_dialogue.proofs.ShortLemmas.{Talks-append}

-- so far: these octets were read, and the greeting and the answers to all of them were written; where no memory was refused as ever, and else as `Short` says
pub record Follows (before after old new : Option (List ℕ)) (v : View) (refused calm : Bool) : Type 0 where
  pub octets : List ℕ
  pub read : Consumes before after octets
  pub text : List ℕ
  pub wrote : Appends old new text
  pub free : IsReadyForLine v
  pub running : runs v ≡ true
  pub stands : calm ≡ true → (read : Reading) → IsReading read → talk_of v text refused ≡ dialogue read octets
  pub talks : (read : Reading) → IsReading read → Talks read greeted_talk octets (talk_of v text refused)

-- what was written is the transcript
text_is : (read : Reading) (octets text : List ℕ) (v : View) (refused : Bool) → talk_of v text refused ≡ dialogue read octets → dialogue_transcript read octets ≡ text
text_is read octets text v refused stands = ap (λ t. t.text) (sym stands)

goes_on : (read : Reading) (octets text : List ℕ) (v : View) (refused : Bool) → talk_of v text refused ≡ dialogue read octets → is_over read octets ≡ not (runs v)
goes_on read octets text v refused stands = ap (λ t. not (runs t.view)) (sym stands)

status_is : (read : Reading) (octets text : List ℕ) (v : View) (refused : Bool) → talk_of v text refused ≡ dialogue read octets → (if refused then 1 else 0) ≡ dialogue_status read octets
status_is read octets text v refused stands = ap (λ t. if t.refused then 1 else 0) stands

-- it broke off
pub ends_failed : (most : ℕ) (before after old new : Option (List ℕ)) (outcome : Result Bool Failed) → IsErr outcome → EndsOff most before after old new → Ends most before after old new outcome
ends_failed most before after old new (Ok refused) failed off = absurd (let e : false ≡ true = failed in cc)
ends_failed most before after old new (Err e) failed off = off

-- where nothing was read or written
pub ends_unread : (most : ℕ) (before old : Option (List ℕ)) → EndsOff most before before old old
ends_unread most before old = inl (λ read reading. inl (Keeps-refl before, AppendsFront-none old (dialogue_transcript read [])))

-- as ever where no memory was refused, and else as `Short` says
off_by : (most : ℕ) (before after old new : Option (List ℕ)) (calm : Bool) → (calm ≡ true → BreaksOff most before after old new) → BreaksShort most before after old new
    → EndsOff most before after old new
off_by most before after old new true as_ever short = inl (as_ever refl)
off_by most before after old new false as_ever short = inr short

-- nothing more is said by `or` with false
or_false : (b : Bool) → (b || false) ≡ b
or_false true = refl
or_false false = refl

-- and with true it is true
or_true : (b : Bool) → (b || true) ≡ true
or_true true = refl
or_true false = refl

-- the same of a dialogue that ended well
well_by : (most : ℕ) (before after old new : Option (List ℕ)) (refused calm told : Bool) → told ≡ (refused || not calm)
    → (calm ≡ true → Converses most before after old new (if refused then 1 else 0)) → ConversesShort most before after old new 1
    → EndsWell most before after old new (if told then 1 else 0)
well_by most before after old new refused true told is as_ever short =
    inl (subst (λ b. Converses most before after old new (if b then 1 else 0)) (sym (is ∙ or_false refused)) (as_ever refl))
well_by most before after old new refused false told is as_ever short =
    inr (subst (λ b. ConversesShort most before after old new (if b then 1 else 0)) (sym (is ∙ or_true refused)) short)

-- ---- the greeting

pub greeting : (read : Reading) → dialogue_transcript read [] ≡ begun.owed
unfolding greeted_talk
greeting read = refl

begun_free : IsReadyForLine (said begun)
begun_free = subst IsReadyForLine (sym (said_is begun refl)) (record { waiting = refl; owed = refl; rests = λ running. refl })

begun_runs : runs (said begun) ≡ true
begun_runs = ap runs (said_is begun refl)

greeted_is : talk_of (said begun) begun.owed (is_refusal begun.owed) ≡ greeted_talk
unfolding greeted_talk
greeted_is = refl

-- behind the greeting
pub begins : (input old new : Option (List ℕ)) (v w : View) (text : List ℕ) (refused : Bool) → v ≡ begun → w ≡ said v → text ≡ v.owed → refused ≡ is_refusal v.owed
    → Appends old new text → (calm : Bool) → Follows input input old new w refused calm
begins input old new v w text refused from says texts refuses wrote calm =
    let is : w ≡ said begun = says ∙ ap said from in
    let all : text ≡ begun.owed = texts ∙ ap (λ v. v.owed) from in
    let refusal : refused ≡ is_refusal begun.owed = refuses ∙ ap (λ v. is_refusal v.owed) from in
    record {
      octets = [];
      read = Consumes-nil input;
      text = text;
      wrote = wrote;
      free = subst IsReadyForLine (sym is) begun_free;
      running = ap runs is ∙ begun_runs;
      stands = λ still read reading. rw is (rw all (rw refusal greeted_is));
      talks = λ read reading. rw is (rw all (rw refusal greeted_is));
    }

-- ---- a piece

-- the dialogue behind one piece more
more_is : (read : Reading) (octets piece text more : List ℕ) (v w : View) (was is : Bool) → talk_of v text was ≡ dialogue read octets
    → talk_of w (text ++ more) is ≡ talks read (talk_of v text was) piece → talk_of w (text ++ more) is ≡ dialogue read (octets ++ piece)
more_is read octets piece text more v w was is stands answers =
    answers ∙ ap (λ t. talks read t piece) stands ∙ sym (talks-append read greeted_talk octets piece)

-- a piece more was read and answered
pub follows_on : (before mid after old now later : Option (List ℕ)) (piece more : List ℕ) (v w : View) (was is calm still : Bool) → Follows before mid old now v was calm
    → Consumes mid after piece → (still ≡ true → OctetsAreAnswered piece v was more w is) → IsAnsweredShort piece v was more w is → (still ≡ true → calm ≡ true)
    → Appends now later more → IsReadyForLine w → runs w ≡ true → Follows before after old later w is still
follows_on before mid after old now later piece more v w was is calm still follows given answers short kept wrote free running = record {
  octets = follows.octets ++ piece;
  read = Consumes-trans before mid after follows.octets piece follows.read given;
  text = follows.text ++ more;
  wrote = Appends-trans old now later follows.text more follows.wrote wrote;
  free = free;
  running = running;
  stands = λ so read reading.
      more_is read follows.octets piece follows.text more v w was is (follows.stands (kept so) read reading) (answers so read reading follows.text);
  talks = λ read reading.
      Talks-append read greeted_talk (talk_of v follows.text was) (talk_of w (follows.text ++ more) is) follows.octets piece (follows.talks read reading)
      (short read reading follows.text);
}

-- all before a piece, and the piece
reads_on : (read : Reading) (most : ℕ) (before mid after old now : Option (List ℕ)) (piece : List ℕ) (v : View) (was calm : Bool) → calm ≡ true → IsReading read
    → (follows : Follows before mid old now v was calm) → Consumes mid after piece → length piece ≤ most → Reads read most before after
reads_on read most before mid after old now piece v was calm so reading follows given few = record {
  front = follows.octets;
  piece = piece;
  few = few;
  runs = goes_on read follows.octets follows.text v was (follows.stands so read reading) ∙ ap not follows.running;
  given = Consumes-trans before mid after follows.octets piece follows.read given;
}

-- the same where memory may have been refused
reads_short : (read : Reading) (most : ℕ) (before mid after old now : Option (List ℕ)) (piece : List ℕ) (v : View) (was calm : Bool) → IsReading read
    → (follows : Follows before mid old now v was calm) → Consumes mid after piece → length piece ≤ most → ReadsShort read most before after
reads_short read most before mid after old now piece v was calm reading follows given few = record {
  front = follows.octets;
  piece = piece;
  few = few;
  talk = talk_of v follows.text was;
  talks = follows.talks read reading;
  running = follows.running;
  given = Consumes-trans before mid after follows.octets piece follows.read given;
}

-- QUIT was heard, and no memory was refused
over_calm : (most : ℕ) (before mid after old now later : Option (List ℕ)) (piece more : List ℕ) (v w : View) (was is calm : Bool) → calm ≡ true
    → Follows before mid old now v was calm → Consumes mid after piece → length piece ≤ most → OctetsAreAnswered piece v was more w is → Appends now later more → runs w ≡ false
    → Converses most before after old later (if is then 1 else 0)
unfolding reads_on
over_calm most before mid after old now later piece more v w was is calm so follows given few answers wrote over = λ read reading.
    let talk = more_is read follows.octets piece follows.text more v w was is (follows.stands so read reading) (answers read reading follows.text) in
    let all = follows.octets ++ piece in
    record {
      reads = reads_on read most before mid after old now piece v was calm so reading follows given few;
      whole = inl (goes_on read all (follows.text ++ more) w is talk ∙ ap not over);
      wrote = subst (λ l. Appends old later l) (sym (text_is read all (follows.text ++ more) w is talk))
          (Appends-trans old now later follows.text more follows.wrote wrote);
      says = status_is read all (follows.text ++ more) w is talk;
    }

-- QUIT was heard
pub ends_over : (most : ℕ) (before mid after old now later : Option (List ℕ)) (piece more : List ℕ) (v w : View) (was is calm still told : Bool)
    → Follows before mid old now v was calm → Consumes mid after piece → length piece ≤ most → (still ≡ true → OctetsAreAnswered piece v was more w is)
    → IsAnsweredShort piece v was more w is → (still ≡ true → calm ≡ true) → Appends now later more → runs w ≡ false → told ≡ (is || not still)
    → EndsWell most before after old later (if told then 1 else 0)
unfolding reads_short
ends_over most before mid after old now later piece more v w was is calm still told follows given few answers short kept wrote over tells =
    well_by most before after old later is still told tells
    (λ so. over_calm most before mid after old now later piece more v w was is calm (kept so) follows given few (answers so) wrote over)
    (λ read reading. record {
      reads = reads_short read most before mid after old now piece v was calm reading follows given few;
      last = talk_of w (follows.text ++ more) is;
      answers = short read reading follows.text;
      whole = inl over;
      wrote = Appends-trans old now later follows.text more follows.wrote wrote;
      says = refl;
    })

-- the input ended, and no memory was refused
at_end_calm : (most : ℕ) (before mid after old now : Option (List ℕ)) (v : View) (was calm : Bool) → calm ≡ true → Follows before mid old now v was calm
    → Consumes mid after [] → IsAtEnd after → Converses most before after old now (if was then 1 else 0)
unfolding reads_on
at_end_calm most before mid after old now v was calm so follows nothing ended = λ read reading.
    let talk = follows.stands so read reading ∙ ap (dialogue read) (sym (append-nil follows.octets)) in
    record {
      reads = reads_on read most before mid after old now [] v was calm so reading follows nothing (omega arith);
      whole = inr ended;
      wrote = subst (λ l. Appends old now l) (sym (text_is read (follows.octets ++ []) follows.text v was talk)) follows.wrote;
      says = status_is read (follows.octets ++ []) follows.text v was talk;
    }

-- the input ended
pub ends_at_end : (most : ℕ) (before mid after old now : Option (List ℕ)) (piece : List ℕ) (v : View) (was calm told : Bool) → Follows before mid old now v was calm
    → Consumes mid after piece → piece ≡ [] → IsAtEnd after → told ≡ (was || not calm) → EndsWell most before after old now (if told then 1 else 0)
unfolding reads_short
ends_at_end most before mid after old now piece v was calm told follows given none ended tells =
    let nothing = subst (λ l. Consumes mid after l) none given in
    well_by most before after old now was calm told tells (λ so. at_end_calm most before mid after old now v was calm so follows nothing ended)
    (λ read reading. record {
      reads = reads_short read most before mid after old now [] v was calm reading follows nothing (omega arith);
      last = talk_of v follows.text was;
      answers = refl;
      whole = inr ended;
      wrote = follows.wrote;
      says = refl;
    })

-- a read failed, or there were too many turns, and no memory was refused
between_calm : (most : ℕ) (before mid after old now : Option (List ℕ)) (v : View) (was calm : Bool) → calm ≡ true → Follows before mid old now v was calm
    → Keeps mid after → BreaksOff most before after old now
between_calm most before mid after old now v was calm so follows kept = λ read reading.
    let stands = follows.stands so read reading in
    let text = text_is read follows.octets follows.text v was stands in
    inr (record {
      reads = record {
        front = follows.octets;
        piece = [];
        few = omega arith;
        runs = goes_on read follows.octets follows.text v was stands ∙ ap not follows.running;
        given = subst (λ l. Consumes before after l) (sym (append-nil follows.octets)) (Consumes-kept before mid after follows.octets follows.read kept);
      };
      mid = now;
      answered = subst (λ l. Appends old now l) (sym text) follows.wrote;
      rest = [];
      whole = ap (dialogue_transcript read) (append-nil follows.octets) ∙ sym (append-nil (dialogue_transcript read follows.octets));
      wrote = AppendsFront-none now [];
    })

-- a read failed, or there were too many turns
pub breaks_between : (most : ℕ) (before mid after old now : Option (List ℕ)) (v : View) (was calm : Bool) → Follows before mid old now v was calm → Keeps mid after
    → EndsOff most before after old now
breaks_between most before mid after old now v was calm follows kept =
    off_by most before after old now calm (λ so. between_calm most before mid after old now v was calm so follows kept)
    (λ read reading. record {
      reads = record {
        front = follows.octets;
        piece = [];
        few = omega arith;
        talk = talk_of v follows.text was;
        talks = follows.talks read reading;
        running = follows.running;
        given = subst (λ l. Consumes before after l) (sym (append-nil follows.octets)) (Consumes-kept before mid after follows.octets follows.read kept);
      };
      mid = now;
      answered = follows.wrote;
      last = talk_of v follows.text was;
      answers = refl;
      rest = [];
      whole = sym (append-nil follows.text);
      wrote = AppendsFront-none now [];
    })

-- the answers to a piece broke off, and no memory was refused
in_calm : (read : Reading) (most : ℕ) (before mid after old now later : Option (List ℕ)) (piece : List ℕ) (v : View) (was calm : Bool) → calm ≡ true → IsReading read
    → (follows : Follows before mid old now v was calm) → Consumes mid after piece → length piece ≤ most → BreaksIn read piece v was follows.text now later
    → BreaksBy read most before after old later
unfolding reads_on
in_calm read most before mid after old now later piece v was calm so reading follows given few breaks =
    let stands = follows.stands so read reading in
    let text = text_is read follows.octets follows.text v was stands in
    inr (record {
      reads = reads_on read most before mid after old now piece v was calm so reading follows given few;
      mid = now;
      answered = subst (λ l. Appends old now l) (sym text) follows.wrote;
      rest = breaks.rest;
      whole =
          ap (λ t. t.text) (talks-append read greeted_talk follows.octets piece) ∙ ap (λ t. (talks read t piece).text) (sym stands)
          ∙ breaks.whole ∙ ap (λ l. l ++ breaks.rest) (sym text);
      wrote = breaks.wrote;
    })

-- the answers to a piece broke off
pub breaks_in : (most : ℕ) (before mid after old now later : Option (List ℕ)) (piece : List ℕ) (v : View) (was calm still : Bool)
    → (follows : Follows before mid old now v was calm) → Consumes mid after piece → length piece ≤ most
    → (still ≡ true → (read : Reading) → IsReading read → (before : List ℕ) → BreaksIn read piece v was before now later)
    → ((read : Reading) → IsReading read → (before : List ℕ) → BreaksInShort read piece v was before now later) → (still ≡ true → calm ≡ true)
    → EndsOff most before after old later
unfolding reads_short
breaks_in most before mid after old now later piece v was calm still follows given few breaks short kept =
    off_by most before after old later still
    (λ so read reading. in_calm read most before mid after old now later piece v was calm (kept so) reading follows given few (breaks so read reading follows.text))
    (λ read reading. let broke = short read reading follows.text in record {
      reads = reads_short read most before mid after old now piece v was calm reading follows given few;
      mid = now;
      answered = follows.wrote;
      last = broke.last;
      answers = broke.answers;
      rest = broke.rest;
      whole = broke.whole;
      wrote = broke.wrote;
    })

-- how it ended, where that is known
pub ends_as : (most few : ℕ) (before after old new : Option (List ℕ)) (outcome : Result Bool Failed) (refused which : Bool) → outcome ≡ Ok refused → refused ≡ which
    → most ≡ few → Ends most before after old new outcome → EndsWell few before after old new (if which then 1 else 0)
ends_as most few before after old new outcome refused which is same asked ends =
    let well : EndsWell most before after old new (if refused then 1 else 0) = subst (λ r. Ends most before after old new r) is ends in
    subst (λ n. EndsWell n before after old new (if which then 1 else 0)) asked
    (subst (λ b. EndsWell most before after old new (if b then 1 else 0)) same well)

-- the same where it broke off
pub off_as : (most few : ℕ) (before after old new : Option (List ℕ)) (outcome : Result Bool Failed) (failed : Failed) → outcome ≡ Err failed → most ≡ few
    → Ends most before after old new outcome → EndsOff few before after old new
off_as most few before after old new outcome failed is asked ends =
    let off : EndsOff most before after old new = subst (λ r. Ends most before after old new r) is ends in
    subst (λ n. EndsOff n before after old new) asked off
