-- Octets of a wire that are heard piece by piece.
use Rattle.std.proofs.Common.{◌≡◌, ℕ, ◌∙◌, List, [], ◌∷◌, ◌++◌, length, take, drop, map, refl, sym, ap, subst, arith, Bool, append_assoc, append-nil, inl, inr}
use Rattle.std.proofs.Math.Seq.{take-length}
use Rattle.std.proofs.lemmas.List.{take-append-drop}
use Rattle.ftp_pieces.specs.Machine.{after, gives}
use Rattle.ftp_repr.specs.Signs.{octet}
use Rattle.ftp_repr.specs.Content.{content}
use Rattle.ftp_repr.specs.Receiving.{fresh, receiving}
use Rattle.ftp_repr.specs.Received.{ReceivesSigns, receiver_form, taking_at_stage}
use Rattle.ftp_repr.proofs.ContentLemmas.{gives-receiving}
use Rattle.ftp_pieces.proofs.MachineLemmas.{after-append, gives-append}
use Rattle.ftp_mode.specs.declared.deframer.Deframer.{Deframer}
use Rattle.ftp_mode.specs.declared.fault.FrameFault.{FrameFault}
use Rattle.ftp_mode.specs.declared.step.Part.TheVariants.{Need}
use Rattle.ftp_mode.specs.declared.step.Step.{Step}
use Rattle.ftp_mode.specs.Said.{Said, says, marker, file_signs, octets_said}
use Rattle.ftp_mode.specs.Reading.{Reading, IsGoing, failed, reader, start}
use Rattle.ftp_mode.specs.Deframing.{reading, owed, part_said, last_marker, Hears, Fails}
use Rattle.ftp_mode.proofs.ReaderRuns.{failed_after, failed_gives}
use Rattle.ftp_settings.specs.Representation.{form_of}
use Rattle.tool_codec.specs.Receiving.{read_by, said_by, StandsAfter, FaultyAfter}
use Rattle.ftp_settings.specs.declared.representation.Representation.{Representation}
use Rattle.tool_codec.specs.declared.receiving.Receiving.{Receiving}

-- SIGNS

pub file-append : (a b : List Said) → file_signs (a ++ b) ≡ file_signs a ++ file_signs b
file-append [] b = refl
file-append (says x ∷ a) b = ap (λ l. x ∷ l) (file-append a b)
file-append (marker text ∷ a) b = file-append a b

pub file-octets : (xs : List ℕ) → file_signs (octets_said xs) ≡ map octet xs
file-octets [] = refl
file-octets (c ∷ xs) = ap (λ l. octet c ∷ l) (file-octets xs)

left_none : (a b : List Said) → a ++ b ≡ [] → a ≡ []
left_none [] b e = refl
left_none (x ∷ a) b e = absurd (cc)

right_none : (a b : List Said) → a ++ b ≡ [] → b ≡ []
right_none [] b e = e
right_none (x ∷ a) b e = absurd (cc)

-- BETWEEN TWO STEPS

-- what was said was received, but for the ends that are owed
pub record Hearing {A : Type 0} (r : Representation) (wire written : List ℕ) (now : Receiving A) : Type 0 where
  pub said : List Said
  pub state : reading now.deframer ≡ read_by r wire
  pub says : said ++ owed now.deframer ≡ said_by r wire
  pub form : receiver_form now.receiver ≡ form_of r
  pub taken : taking_at_stage now.receiver ≡ after (receiving (form_of r)) fresh (file_signs said)
  pub settled : written ++ now.settled.items ≡ gives (receiving (form_of r)) fresh (file_signs said)

pub hearing_of : {A : Type 0} (r : Representation) (wire written : List ℕ) (now : Receiving A) → StandsAfter r wire written now → Hearing r wire written now
hearing_of r wire written now stands = record {
  said = said_by r wire;
  state = stands.state;
  says = ap (λ l. said_by r wire ++ l) stands.owes ∙ append-nil (said_by r wire);
  form = stands.form;
  taken = stands.taken;
  settled = stands.settled ∙ sym (gives-receiving (form_of r) (file_signs (said_by r wire)));
}

pub stands_of : {A : Type 0} (r : Representation) (wire written : List ℕ) (now : Receiving A)
    → Hearing r wire written now → owed now.deframer ≡ [] → IsGoing (read_by r wire) → StandsAfter r wire written now
stands_of r wire written now hearing owes going =
    let same : hearing.said ≡ said_by r wire =
    sym (append-nil hearing.said) ∙ ap (λ l. hearing.said ++ l) (sym owes) ∙ hearing.says in
    record {
      going = going;
      state = hearing.state;
      owes = owes;
      form = hearing.form;
      taken = hearing.taken ∙ ap (λ l. after (receiving (form_of r)) fresh (file_signs l)) same;
      settled = hearing.settled ∙ gives-receiving (form_of r) (file_signs hearing.said) ∙ ap (λ l. content (form_of r) (file_signs l)) same;
    }

-- a step takes octets, and what they say is received
pub hear_step : {A : Type 0} (r : Representation) (wire written piece : List ℕ) (old new : Receiving A) (mid : Deframer) (step : Step)
    → Hearing r wire written old → Hears old.deframer piece step mid → new.deframer ≡ mid
    → ReceivesSigns old.receiver (file_signs (part_said step.part (last_marker mid))) new.receiver old.settled.items new.settled.items
    → Hearing r (wire ++ take step.taken piece) written new
hear_step r wire written piece old new mid step hearing hears same receives =
    let s = start r.mode r.structure in
    let f = form_of r in
    let xs = take step.taken piece in
    let part = part_said step.part (last_marker mid) in
    let more = file_signs part in
    let before = gives (receiving f) fresh (file_signs hearing.said) in
    record {
      said = hearing.said ++ part;
      state = ap reading same ∙ hears.state ∙ ap (λ t. after reader t xs) hearing.state ∙ sym (after-append reader s wire xs);
      says = append_assoc hearing.said part (owed new.deframer)
          ∙ ap (λ d. hearing.said ++ (part ++ owed d)) same
          ∙ ap (λ l. hearing.said ++ l) hears.says
          ∙ sym (append_assoc hearing.said (owed old.deframer) (gives reader (reading old.deframer) xs))
          ∙ ap (λ l. l ++ gives reader (reading old.deframer) xs) hearing.says
          ∙ ap (λ t. said_by r wire ++ gives reader t xs) hearing.state
          ∙ sym (gives-append reader s wire xs);
      form = receives.form ∙ hearing.form;
      taken = receives.state
          ∙ ap (λ g. after (receiving g) (taking_at_stage old.receiver) more) hearing.form
          ∙ ap (λ t. after (receiving f) t more) hearing.taken
          ∙ sym (after-append (receiving f) fresh (file_signs hearing.said) more)
          ∙ ap (after (receiving f) fresh) (sym (file-append hearing.said part));
      settled = ap (λ l. written ++ l) receives.added
          ∙ sym (append_assoc written old.settled.items (gives (receiving (receiver_form old.receiver)) (taking_at_stage old.receiver) more))
          ∙ ap (λ l. l ++ gives (receiving (receiver_form old.receiver)) (taking_at_stage old.receiver) more) hearing.settled
          ∙ ap (λ g. before ++ gives (receiving g) (taking_at_stage old.receiver) more) hearing.form
          ∙ ap (λ t. before ++ gives (receiving f) t more) hearing.taken
          ∙ sym (gives-append (receiving f) fresh (file_signs hearing.said) more)
          ∙ ap (gives (receiving f) fresh) (sym (file-append hearing.said part));
    }

-- a part is no more than what is needed only where all octets were taken
need_all : (piece : List ℕ) (old mid : Deframer) (step : Step) → Hears old piece step mid → step.part ≡ Need → (step.taken ≡ length piece) × (owed mid ≡ [])
need_all piece old mid step hears need = elim hears.some [
  | inl some ↦ absurd (let none = ap (λ p. length (part_said p (last_marker mid))) need in omega (arith, some, none))
  | inr all ↦ (all.1, all.2)
]

-- the whole piece was taken
pub hear_all : {A : Type 0} (r : Representation) (wire written piece : List ℕ) (old new : Receiving A) (mid : Deframer) (step : Step)
    → Hearing r wire written old → Hears old.deframer piece step mid → new.deframer ≡ mid
    → ReceivesSigns old.receiver (file_signs (part_said step.part (last_marker mid))) new.receiver old.settled.items new.settled.items
    → step.part ≡ Need → StandsAfter r (wire ++ piece) written new
hear_all {A} r wire written piece old new mid step hearing hears same receives need =
    let next = hear_step r wire written piece old new mid step hearing hears same receives in
    let all = need_all piece old.deframer mid step hears need in
    let xs = take step.taken piece in
    let whole : xs ≡ piece = ap (λ n. take n piece) all.0 ∙ take-length piece in
    let quiet : owed old.deframer ++ gives reader (reading old.deframer) xs ≡ [] =
    sym hears.says ∙ ap (λ p. part_said p (last_marker mid) ++ owed mid) need ∙ all.1 in
    let going : IsGoing (reading mid) = hears.fine (left_none _ _ quiet) in
    let P : Reading → Type 0 = λ t. IsGoing t in
    subst (λ l. StandsAfter r (wire ++ l) written new) whole
    (stands_of r (wire ++ xs) written new next (ap owed same ∙ all.1) (subst P (sym (ap reading same) ∙ next.state) going))

-- an octet of the piece stands in no text
pub hear_fault : {A : Type 0} (r : Representation) (wire written piece : List ℕ) (ended : Bool) (old new : Receiving A) (taken : ℕ) (fault : FrameFault)
    → Hearing r wire written old → Fails old.deframer piece taken fault new.deframer → new.settled.items ≡ old.settled.items
    → FaultyAfter r (wire ++ piece) written ended fault new
hear_fault r wire written piece ended old new taken fault hearing fails same =
    let s = start r.mode r.structure in
    let f = form_of r in
    let t = take taken piece in
    let d = drop taken piece in
    let cut : t ++ d ≡ piece = take-append-drop taken piece in
    let at : after reader (reading old.deframer) t ≡ failed fault = sym fails.state ∙ fails.fails in
    let owes : owed old.deframer ≡ [] = left_none _ _ fails.quiet in
    let nothing : gives reader (reading old.deframer) piece ≡ [] =
    ap (gives reader (reading old.deframer)) (sym cut) ∙ gives-append reader (reading old.deframer) t d
    ∙ ap (λ l. l ++ gives reader (after reader (reading old.deframer) t) d) (right_none _ _ fails.quiet)
    ∙ ap (λ z. gives reader z d) at ∙ failed_gives fault d in
    let said : said_by r (wire ++ piece) ≡ hearing.said =
    gives-append reader s wire piece ∙ ap (λ z. said_by r wire ++ gives reader z piece) (sym hearing.state)
    ∙ ap (λ l. said_by r wire ++ l) nothing ∙ append-nil (said_by r wire)
    ∙ sym hearing.says ∙ ap (λ l. hearing.said ++ l) owes ∙ append-nil hearing.said in
    record {
      stops = inl (after-append reader s wire piece ∙ ap (λ z. after reader z piece) (sym hearing.state)
          ∙ ap (after reader (reading old.deframer)) (sym cut) ∙ after-append reader (reading old.deframer) t d
          ∙ ap (λ z. after reader z d) at ∙ failed_after fault d);
      settled = ap (λ l. written ++ l) same ∙ hearing.settled ∙ gives-receiving f (file_signs hearing.said)
          ∙ ap (λ l. content f (file_signs l)) (sym said);
    }
