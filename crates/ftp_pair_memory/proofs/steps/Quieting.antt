-- Actions beside a control connection in memory: its reader and writer tell which ways they are, and no read found an end.
use Rattle.std.proofs.Common.{◌≡◌, ℕ, Bool, true, false, true≢false, List, [], ◌∷◌, ◌++◌, Option, Some, None, refl, sym, ap, subst, ◌∙◌, append_assoc}
use Rattle.std.proofs.Common.{arith, get_or, length, length-append}
use Rattle.std.specs.Io.KnownBytes.{Appends, Consumes, IsAtEnd}
use Rattle.ftp_ports.specs.Actions.{Action, Done, Ended, Heard, Led, Other, Read, Said, Stand, read_in, said_in}
use Rattle.ftp_ports.specs.Side.{Side}
use Rattle.ftp_ports.specs.Unheard.{Source}
use Rattle.ftp_ports.proofs.Totals.{sums}
use Rattle.ftp_pair_memory.specs.steps.Speaking.{Speaks}
use Rattle.ftp_pair_memory.specs.streams.Plain.{quiet}

-- ---- lists

-- the tail of a list
rest_of : List ℕ → List ℕ
rest_of [] = []
rest_of (x ∷ xs) = xs

-- two lists with one more behind them
last_same : (xs ys : List ℕ) (a b : ℕ) → xs ++ (a ∷ []) ≡ ys ++ (b ∷ []) → (xs ≡ ys) × (a ≡ b)
unfolding rest_of
last_same [] [] a b e = (refl, ap (λ l. get_or l 0 0) e)
last_same [] (y ∷ ys) a b e = absurd (omega (arith, ap length e, length-append ys (b ∷ [])))
last_same (x ∷ xs) [] a b e = absurd (omega (arith, ap length e, length-append xs (a ∷ [])))
last_same (x ∷ xs) (y ∷ ys) a b e =
    let rest = last_same xs ys a b (ap rest_of e) in
    (ap (λ z. z ∷ xs) (ap (λ l. get_or l 0 0) e) ∙ ap (λ l. y ∷ l) rest.0, rest.1)

-- one with another behind it is not empty
not_empty : (xs : List ℕ) (a : ℕ) → xs ++ (a ∷ []) ≡ [] → ⊥
not_empty xs a e = omega (arith, ap length e, length-append xs (a ∷ []))

-- ---- what is left to be read

-- what is left is known, and where an end was found that is nothing
Fits : Source → Type 0
Fits source = (octets : List ℕ) × (source.octets ≡ Some octets) × (source.ended ≡ true → octets ≡ [])

-- what was consumed of known octets leaves known ones
consumed : (old new : Option (List ℕ)) (octets some : List ℕ) → old ≡ Some some → Consumes old new octets
    → (rest : List ℕ) × (new ≡ Some rest) × (some ≡ octets ++ rest)
consumed old new octets some is did = by new (subst (λ o. Consumes o new octets) is did)
  where
    by : (now : Option (List ℕ)) → Consumes (Some some) now octets → (rest : List ℕ) × (now ≡ Some rest) × (some ≡ octets ++ rest)
    by None did = absurd did
    by (Some rest) did = (rest, refl, did)

-- where some is left, none was found
stays_open : (source : Source) (octets : List ℕ) (name : ℕ) → source.octets ≡ Some (octets ++ (name ∷ [])) → Fits source → source.ended ≡ false
unfolding Fits
stays_open source octets name is fits = by source.ended refl
  where
    unwrapped : Option (List ℕ) → List ℕ
    unwrapped None = []
    unwrapped (Some list) = list

    by : (ended : Bool) → source.ended ≡ ended → source.ended ≡ false
    by false e = e
    by true e = absurd (not_empty octets name (ap unwrapped (sym is ∙ fits.1) ∙ fits.2 e))

module _ {side : Side} where
  -- ---- what a reader and a writer tell is let go

  hush : Stand side → Stand side
  hush stand = record { owner = stand.owner; left = record { octets = None; ended = stand.left.ended }; unheard = stand.unheard; written = None }

  hushed_one : (action : Action side) (old new : Stand side) → Done action old new → Done action (hush old) (hush new)
  unfolding hush
  hushed_one (Heard octets) old new done = record {
    hears = done.hears;
    next = done.next;
    left = ap (λ (s : Source). record { octets = None; ended = s.ended }) done.left;
    written = refl;
  }
  hushed_one (Said octets) old new done = record {
    gives = done.gives;
    wrote = tt;
    left = ap (λ (s : Source). record { octets = None; ended = s.ended }) done.left;
    unheard = done.unheard;
  }
  hushed_one (Read octets) old new done = record {
    due = done.due;
    owner = done.owner;
    heard = done.heard;
    read = tt;
    ended = done.ended;
    unheard = done.unheard;
    written = refl;
  }
  hushed_one Ended old new done = record {
    due = done.due;
    heard = done.heard;
    read = tt;
    last = tt;
    ended = done.ended;
    cut = done.cut;
    unheard = done.unheard;
    written = refl;
  }
  hushed_one (Other call) old new done = (done.0, ap hush done.1)

  hushed : (actions : List (Action side)) (old new : Stand side) → Led actions old new → Led actions (hush old) (hush new)
  unfolding hush
  hushed [] old new led = ap hush led
  hushed (action ∷ before) old new led = (hush led.0, hushed before old led.0 led.1, hushed_one action led.0 new led.2)

  -- ---- no read found an end

  fits_one : (action : Action side) (old new : Stand side) → Done action old new → Fits old.left → Fits new.left
  unfolding Fits
  fits_one (Heard octets) old new done fits = subst Fits (sym done.left) fits
  fits_one (Said octets) old new done fits = subst Fits (sym done.left) fits
  fits_one (Read octets) old new done fits =
      let rest = consumed old.left.octets new.left.octets octets fits.0 fits.1 done.read in
      (rest.0, rest.1, λ ended. behind octets rest.0 (sym rest.2 ∙ fits.2 (sym done.ended ∙ ended)))
    where
      behind : (front rest : List ℕ) → front ++ rest ≡ [] → rest ≡ []
      behind [] rest e = e
      behind (x ∷ front) rest e = absurd (omega (arith, ap length e))
  fits_one Ended old new done fits =
      let rest = consumed old.left.octets new.left.octets [] fits.0 fits.1 done.read in
      (rest.0, rest.1, λ ended. subst IsAtEnd rest.1 done.last)
  fits_one (Other call) old new done fits = subst (λ (s : Stand side). Fits s.left) (sym done.1) fits

  fits_on : (actions : List (Action side)) (old new : Stand side) → Led actions old new → Fits old.left → Fits new.left
  fits_on [] old new led fits = subst (λ (s : Stand side). Fits s.left) (sym led) fits
  fits_on (action ∷ before) old new led fits = fits_one action led.0 new led.2 (fits_on before old led.0 led.1 fits)

  -- ---- both

  -- What two stands tell: which octets had come and been written, and what lies in both ways as they are given back, if they are the same ways
  pub record Tells (old new : Stand side) (came left before after : List ℕ) : Type 0 where
    pub left_there : List ℕ
    pub after_there : List ℕ
    pub reader : ℕ
    pub reader_now : ℕ
    pub writer : ℕ
    pub writer_now : ℕ
    pub came_is : old.left.octets ≡ Some (came ++ (reader ∷ []))
    pub is_open : old.left.ended ≡ false
    pub left_is : new.left.octets ≡ Some (left_there ++ (reader_now ∷ []))
    pub before_is : old.written ≡ Some (writer ∷ before)
    pub after_is : new.written ≡ Some (writer_now ∷ after_there)
    pub none : old.unheard ≡ []
    pub left_back : reader ≡ reader_now → left ≡ left_there
    pub after_back : writer ≡ writer_now → after ≡ after_there

  is_quiet : (stand : Stand side) → stand.left.ended ≡ false → stand.unheard ≡ [] → hush stand ≡ quiet stand.owner
  unfolding hush
  is_quiet stand ended none =
      let by_end : Bool → Stand side = λ b. record { owner = stand.owner; left = record { octets = None; ended = b }; unheard = stand.unheard; written = None } in
      let by_rest : List ℕ → Stand side = λ l. record { owner = stand.owner; left = record { octets = None; ended = false }; unheard = l; written = None } in
      ap by_end ended ∙ ap by_rest none

  -- So actions between them read the front of what had come, and said what lies behind what had been written
  pub speaks_by : (actions : List (Action side)) (old new : Stand side) (came left before after : List ℕ) → Led actions old new → Tells old new came left before after
      → new.unheard ≡ [] → Speaks actions old.owner new.owner came left before after
  unfolding hush Fits rest_of
  speaks_by actions old new came left before after led tells none_now =
      let all = sums actions old new led in
      let there = tells.left_there in
      let reads : came ++ (tells.reader ∷ []) ≡ read_in actions ++ (there ++ (tells.reader_now ∷ [])) =
      subst (λ n. Consumes (Some (came ++ (tells.reader ∷ []))) n (read_in actions)) tells.left_is
      (subst (λ o. Consumes o new.left.octets (read_in actions)) tells.came_is all.read) in
      let wrote : tells.writer_now ∷ tells.after_there ≡ (tells.writer ∷ before) ++ said_in actions =
      subst (λ n. Appends (Some (tells.writer ∷ before)) n (said_in actions)) tells.after_is
      (subst (λ o. Appends o new.written (said_in actions)) tells.before_is all.wrote) in
      let same = last_same came (read_in actions ++ there) tells.reader tells.reader_now (reads ∙ sym (append_assoc (read_in actions) there (tells.reader_now ∷ []))) in
      let fits : Fits old.left = (came ++ (tells.reader ∷ []), tells.came_is, λ e. absurd (true≢false (sym e ∙ tells.is_open))) in
      let ended = stays_open new.left there tells.reader_now tells.left_is (fits_on actions old new led fits) in
      let writer : tells.writer ≡ tells.writer_now = sym (ap (λ l. get_or l 0 0) wrote) in
      record {
        led = subst (λ s. Led actions s (quiet new.owner)) (is_quiet old tells.is_open tells.none)
            (subst (λ s. Led actions (hush old) s) (is_quiet new ended none_now) (hushed actions old new led));
        read = same.0 ∙ ap (λ l. read_in actions ++ l) (sym (tells.left_back same.1));
        wrote = tells.after_back writer ∙ ap rest_of wrote;
      }
