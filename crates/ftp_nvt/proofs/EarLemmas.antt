-- What an ear has heard, step by step.
use Rattle.std.proofs.Common.{◌≡◌, ◌≢◌, ◌==◌, ◌⊎◌, inl, inr, false, ne_eqb, ℕ, ◌+◌, List, [], ◌∷◌, ◌++◌, map, refl, ap, sym, subst, ◌∙◌, append_assoc, append-nil, take, drop, take-add}
use Rattle.std.specs.List.{flat_map}
use Rattle.ftp_nvt.specs.Lines.{NvtEvent, owed, IsNoneOf, lines_added, events_behind, events}
use Rattle.ftp_nvt.specs.Telnet.{TelnetUnit, data_octet, option, is_verb, place_from, units_from, place_behind, unit_ended, bare_of, owed_of, bare}
use Rattle.ftp_nvt.specs.LineBuffer.{CanHaveRead, Reads}
use Rattle.ftp_nvt.specs.Ear.{limit_of, HasHeard, Hears}
use Rattle.ftp_nvt.specs.declared.telnet.TelnetState.{TelnetState}
use Rattle.ftp_nvt.specs.declared.telnet.TelnetState.TheVariants as At
use Rattle.ftp_nvt.specs.declared.line.LineBuffer.{LineBuffer}
use Rattle.ftp_nvt.specs.declared.ear.Ear.{Ear}
use Rattle.ftp_nvt.proofs.BufferLemmas.{Reads-nil}
use Rattle.ftp_nvt.proofs.CutLemmas.{decided}
use Rattle.ftp_nvt.proofs.TelnetLemmas.{place-append, bare-append, units_from-data, place_from-data, bare-data, units_from-inside, place_from-inside}
use Rattle.ftp_nvt.proofs.LineLemmas.{lines_added-is, events_behind-data, events_behind-quiet, events-append}

-- what an ear heard in two pieces, it heard in one
pub Hears-trans : {A : Type 0} (a b c : Ear A) (xs ys : List ℕ) (first second : List NvtEvent) → Hears a xs first b → Hears b ys second c → Hears a (xs ++ ys) (first ++ second) c
Hears-trans a b c xs ys first second before later = record {
  limit = later.limit ∙ before.limit;
  heard = λ octets h. subst (λ l. HasHeard c l) (append_assoc octets xs ys) (later.heard (octets ++ xs) (before.heard octets h));
  said = λ octets h.
      ap (events (limit_of a)) (sym (append_assoc octets xs ys))
      ∙ ap (λ n. events n (octets ++ xs ++ ys)) (sym before.limit)
      ∙ later.said (octets ++ xs) (before.heard octets h)
      ∙ ap (λ n. events n (octets ++ xs) ++ second) before.limit
      ∙ ap (λ l. l ++ second) (before.said octets h)
      ∙ append_assoc (events (limit_of a) octets) first second;
}

-- what an ear heard of a piece's front and of its rest
pub Hears-rest : {A : Type 0} (a b c : Ear A) (piece rest : List ℕ) (taken more : ℕ) (first second : List NvtEvent) → rest ≡ drop taken piece
    → Hears a (take taken piece) first b → Hears b (take more rest) second c → Hears a (take (taken + more) piece) (first ++ second) c
Hears-rest a b c piece rest taken more first second is before later =
    let P : List ℕ → Type 0 = λ l. Hears a l (first ++ second) c in
    let Q : List ℕ → Type 0 = λ l. Hears b (take more l) second c in
    subst P (sym (take-add taken more piece)) (Hears-trans a b c (take taken piece) (take more (drop taken piece)) first second before (subst Q is later))

-- events told in equal words
pub Hears-as : {A : Type 0} (old new : Ear A) (taken : List ℕ) (added told : List NvtEvent) → told ≡ added → Hears old taken added new → Hears old taken told new
Hears-as old new taken added told is hears = let P : List NvtEvent → Type 0 = λ l. Hears old taken l new in subst P (sym is) hears

-- octets that end these units, of which the line read the bare octets
pub units_hear : {A : Type 0} (old new : Ear A) (taken : List ℕ) (us : List TelnetUnit) (added said : List NvtEvent)
    → place_from old.place taken ≡ new.place → units_from old.place taken ≡ us → Reads old.line (flat_map bare_of us) said new.line
    → ((before : List ℕ) → lines_added old.line.limit before (flat_map bare_of us) ≡ said → events_behind old.line.limit before us ≡ added) → Hears old taken added new
units_hear old new taken us added said leads ends reads adds = record {
  limit = reads.limit;
  heard = λ octets h.
      let bare_is : bare (octets ++ taken) ≡ bare octets ++ flat_map bare_of us =
      bare-append octets taken ∙ ap (λ p. bare octets ++ flat_map bare_of (units_from p taken)) (sym h.place) ∙ ap (λ l. bare octets ++ flat_map bare_of l) ends in
      record {
        place = sym leads ∙ ap (λ p. place_from p taken) h.place ∙ sym (place-append octets taken);
        line = subst (λ l. CanHaveRead new.line l) (sym bare_is) (reads.has_read (bare octets) h.line);
      };
  said = λ octets h.
      events-append (limit_of old) octets taken
      ∙ ap (λ p. events (limit_of old) octets ++ events_behind (limit_of old) (bare octets) (units_from p taken)) (sym h.place)
      ∙ ap (λ l. events (limit_of old) octets ++ events_behind (limit_of old) (bare octets) l) ends
      ∙ ap (λ l. events (limit_of old) octets ++ l)
      (adds (bare octets) (lines_added-is (limit_of old) (bare octets) (flat_map bare_of us) said (reads.said (bare octets) h.line)));
}

-- octets without IAC between units
pub data_hears : {A : Type 0} (old new : Ear A) (taken : List ℕ) (added : List NvtEvent) → old.place ≡ At.Between → new.place ≡ old.place → IsNoneOf 255 taken
    → Reads old.line taken added new.line → Hears old taken added new
data_hears old new taken added is same lacks reads =
    units_hear old new taken (map data_octet taken) added added
    (ap (λ p. place_from p taken) is ∙ place_from-data taken lacks ∙ sym is ∙ sym same)
    (ap (λ p. units_from p taken) is ∙ units_from-data taken lacks)
    (let P : List ℕ → Type 0 = λ l. Reads old.line l added new.line in subst P (sym (bare-data taken)) reads)
    (λ before grown. events_behind-data old.line.limit before taken ∙ ap (lines_added old.line.limit before) (sym (bare-data taken)) ∙ grown)

-- octets without IAC in a subnegotiation
pub inside_hears : {A : Type 0} (ear : Ear A) (taken : List ℕ) → ear.place ≡ At.Inside → IsNoneOf 255 taken → Hears ear taken [] ear
inside_hears ear taken is lacks =
    units_hear ear ear taken [] [] [] (ap (λ p. place_from p taken) is ∙ place_from-inside taken lacks ∙ sym is)
    (ap (λ p. units_from p taken) is ∙ units_from-inside taken lacks) (Reads-nil ear.line) (λ before grown. refl)

-- one octet
pub octet_hears : {A : Type 0} (old new : Ear A) (octet : ℕ) (us : List TelnetUnit) (added said : List NvtEvent)
    → new.place ≡ place_behind old.place octet → unit_ended old.place octet ≡ us → Reads old.line (flat_map bare_of us) said new.line
    → ((before : List ℕ) → lines_added old.line.limit before (flat_map bare_of us) ≡ said → events_behind old.line.limit before us ≡ added) → Hears old (octet ∷ []) added new
octet_hears old new octet us added said leads ends reads adds =
    units_hear old new (octet ∷ []) us added said (sym leads) (append-nil (unit_ended old.place octet) ∙ ends) reads adds

-- an octet that ends no unit, or one that says nothing
pub quiet_hears : {A : Type 0} (old new : Ear A) (octet : ℕ) → new.place ≡ place_behind old.place octet → new.line ≡ old.line
    → flat_map bare_of (unit_ended old.place octet) ≡ [] → flat_map owed_of (unit_ended old.place octet) ≡ [] → Hears old (octet ∷ []) [] new
quiet_hears old new octet leads same bare_none owed_none =
    octet_hears old new octet (unit_ended old.place octet) [] [] leads refl
    (let P : List ℕ → Type 0 = λ l. Reads old.line l [] new.line in
    let Q : LineBuffer _ → Type 0 = λ l. Reads old.line [] [] l in
    subst P (sym bare_none) (subst Q (sym same) (Reads-nil old.line)))
    (λ before grown. events_behind-quiet old.line.limit before (unit_ended old.place octet) bare_none owed_none)

-- the second octet of a doubled 255
pub doubled_hears : {A : Type 0} (old new : Ear A) (octet : ℕ) (added : List NvtEvent) → old.place ≡ At.Command → octet ≡ 255 → new.place ≡ place_behind old.place octet
    → Reads old.line (255 ∷ []) added new.line → Hears old (octet ∷ []) added new
doubled_hears old new octet added is same leads reads =
    octet_hears old new octet (data_octet 255 ∷ []) added added leads (ap (λ p. unit_ended p octet) is ∙ ap (unit_ended At.Command) same) reads
    (λ before grown. events_behind-data old.line.limit before (255 ∷ []) ∙ grown)

-- the option behind a verb
pub option_hears : {A : Type 0} (old new : Ear A) (verb octet : ℕ) (added : List NvtEvent) → old.place ≡ At.Option verb → new.place ≡ place_behind old.place octet
    → new.line ≡ old.line → added ≡ map owed (owed_of (option verb octet)) → Hears old (octet ∷ []) added new
option_hears old new verb octet added is leads same answers =
    octet_hears old new octet (option verb octet ∷ []) added [] leads (ap (λ p. unit_ended p octet) is)
    (let Q : LineBuffer _ → Type 0 = λ l. Reads old.line [] [] l in subst Q (sym same) (Reads-nil old.line))
    (λ before grown. ap (λ l. l ++ map owed (owed_of (option verb octet)) ++ []) grown ∙ append-nil (map owed (owed_of (option verb octet))) ∙ sym answers)

-- an octet that gives no bare octet and no answer at this place
abbrev IsQuiet : TelnetState → ℕ → Type 0
IsQuiet at octet = (flat_map bare_of (unit_ended at octet) ≡ []) × (flat_map owed_of (unit_ended at octet) ≡ [])

quiet_command : (octet : ℕ) → (octet == 255) ≡ false → IsQuiet At.Command octet
quiet_command octet e =
    rw e (elim (decided (octet == 250)) [
      | inl f ↦ rw f (refl, refl)
      | inr f ↦ rw f (elim (decided (is_verb octet)) [
        | inl v ↦ rw v (refl, refl)
        | inr v ↦ rw v (refl, refl)
      ])
    ])

quiet_end : (octet : ℕ) → IsQuiet At.InsideCommand octet
quiet_end octet =
    elim (decided (octet == 240)) [
      | inl e ↦ rw e (refl, refl)
      | inr e ↦ rw e (refl, refl)
    ]

quiet_start : (octet : ℕ) → octet ≡ 255 → IsQuiet At.Between octet
quiet_start octet is = let P : ℕ → Type 0 = λ o. IsQuiet At.Between o in subst P (sym is) (refl, refl)

quiet_at : {A : Type 0} (old new : Ear A) (octet : ℕ) (at : TelnetState) → old.place ≡ at → IsQuiet at octet → new.place ≡ place_behind old.place octet → new.line ≡ old.line
    → Hears old (octet ∷ []) [] new
quiet_at old new octet at is quiet leads same =
    quiet_hears old new octet leads same (ap (λ p. flat_map bare_of (unit_ended p octet)) is ∙ quiet.0) (ap (λ p. flat_map owed_of (unit_ended p octet)) is ∙ quiet.1)

-- an octet behind IAC that is no IAC
pub command_hears : {A : Type 0} (old new : Ear A) (octet : ℕ) → old.place ≡ At.Command → octet ≢ 255 → new.place ≡ place_behind old.place octet → new.line ≡ old.line
    → Hears old (octet ∷ []) [] new
command_hears old new octet is not leads same = quiet_at old new octet At.Command is (quiet_command octet (ne_eqb octet 255 not)) leads same

-- an IAC between units, or an octet of a subnegotiation
pub other_hears : {A : Type 0} (old new : Ear A) (octet : ℕ) → ((old.place ≡ At.Between) → octet ≡ 255)
    → (old.place ≡ At.Between) ⊎ ((old.place ≡ At.Inside) ⊎ (old.place ≡ At.InsideCommand)) → new.place ≡ place_behind old.place octet → new.line ≡ old.line
    → Hears old (octet ∷ []) [] new
other_hears old new octet start (inl is) leads same = quiet_at old new octet At.Between is (quiet_start octet (start is)) leads same
other_hears old new octet start (inr (inl is)) leads same = quiet_at old new octet At.Inside is (refl, refl) leads same
other_hears old new octet start (inr (inr is)) leads same = quiet_at old new octet At.InsideCommand is (quiet_end octet) leads same
