-- Octets in pages: what is put into the last page, what a cut leaves, and where an octet stands.
use Rattle.std.proofs.Common.{ℕ, zero, suc, ◌+◌, ◌*◌, ◌<◌, ◌≤◌, ◌≡◌, List, [], ◌∷◌, ◌++◌, length, take, drop, get_or, set, min, sym, ap, ◌∙◌, arith, append_assoc, length-append, Vec}
use Rattle.std.specs.List.{concat}
use Rattle.std.proofs.lemmas.List.{append-nil, take-append-le, drop-append-le, length-take, take_all}
use Rattle.std.proofs.Math.Seq.{take-append-add, drop-append-add}
use Rattle.ftp_tree_memory.specs.pages.Pages.{IsPaged, HasRoom, page_octets}

-- a full page before others
paged-cons : (page : List ℕ) (pages : List (List ℕ)) → length page ≡ 4096 → IsPaged pages → IsPaged (page ∷ pages)
paged-cons page [] full paged = omega arith
paged-cons page (next ∷ pages) full paged = (full, paged)

module _ {A : Type 0} where
  -- the last page is the one that has room, or none has
  pub room-at : (xs : List (Vec ℕ A)) (at : ℕ) (page : Vec ℕ A) → length xs ≡ suc at → page ≡ get_or xs at page → HasRoom (page_octets xs) → length page.items < 4096
  room-at [] at page count there room = absurd room
  room-at (x ∷ []) zero page count there room = let same : length page.items ≡ length x.items = ap (λ (p : Vec ℕ A). length p.items) there in omega arith
  room-at (x ∷ []) (suc at) page count there room = absurd (omega arith)
  room-at (x ∷ y ∷ xs) zero page count there room = absurd (omega arith)
  room-at (x ∷ y ∷ xs) (suc at) page count there room = room-at (y ∷ xs) at page (omega arith) there room

  pub at-room : (xs : List (Vec ℕ A)) (at : ℕ) (page : Vec ℕ A) → length xs ≡ suc at → page ≡ get_or xs at page → length page.items < 4096 → HasRoom (page_octets xs)
  at-room [] at page count there room = absurd (omega arith)
  at-room (x ∷ []) zero page count there room = let same : length page.items ≡ length x.items = ap (λ (p : Vec ℕ A). length p.items) there in omega arith
  at-room (x ∷ []) (suc at) page count there room = absurd (omega arith)
  at-room (x ∷ y ∷ xs) zero page count there room = absurd (omega arith)
  at-room (x ∷ y ∷ xs) (suc at) page count there room = at-room (y ∷ xs) at page (omega arith) there room

  pub some-room : (xs : List (Vec ℕ A)) → HasRoom (page_octets xs) → 0 < length xs
  some-room [] room = absurd room
  some-room (x ∷ xs) room = omega arith

  -- a new page behind full ones
  pub record IsOpened (old new : List (Vec ℕ A)) : Type 0 where
    pub paged : IsPaged (page_octets new)
    pub room : HasRoom (page_octets new)
    pub octets : concat (page_octets new) ≡ concat (page_octets old)

  pub opened : (xs : List (Vec ℕ A)) (page : Vec ℕ A) → IsPaged (page_octets xs) → (HasRoom (page_octets xs) → ⊥) → page.items ≡ [] → IsOpened xs (xs ++ page ∷ [])
  opened [] page paged full none =
      let empty : length page.items ≡ 0 = ap length none in
      record { paged = omega arith; room = omega arith; octets = append-nil page.items ∙ none }
  opened (x ∷ []) page paged full none =
      let empty : length page.items ≡ 0 = ap length none in
      let whole : length x.items ≡ 4096 = omega (arith, full) in
      record { paged = (whole, omega arith); room = omega arith; octets = ap (λ l. x.items ++ l) (append-nil page.items ∙ none) }
  opened (x ∷ y ∷ xs) page paged full none =
      let rest = opened (y ∷ xs) page paged.1 full none in
      record { paged = (paged.0, rest.paged); room = rest.room; octets = ap (λ l. x.items ++ l) rest.octets }

  -- octets that go into the last page
  pub record IsFilled (old new : List (Vec ℕ A)) (more : List ℕ) : Type 0 where
    pub paged : IsPaged (page_octets new)
    pub octets : concat (page_octets new) ≡ concat (page_octets old) ++ more

  pub filled : (xs : List (Vec ℕ A)) (at : ℕ) (page new : Vec ℕ A) (more : List ℕ) → length xs ≡ suc at → page ≡ get_or xs at page → IsPaged (page_octets xs) → new.items ≡ page.items ++ more
      → length page.items + length more ≤ 4096 → IsFilled xs (set xs at new) more
  filled [] at page new more count there paged put fits = absurd (omega arith)
  filled (x ∷ []) zero page new more count there paged put fits =
      let whole : length new.items ≡ length page.items + length more = ap length put ∙ length-append page.items more in
      record {
        paged = omega arith;
        octets = append-nil new.items ∙ put ∙ ap (λ (p : Vec ℕ A). p.items ++ more) there ∙ ap (λ l. l ++ more) (sym (append-nil x.items));
      }
  filled (x ∷ []) (suc at) page new more count there paged put fits = absurd (omega arith)
  filled (x ∷ y ∷ xs) zero page new more count there paged put fits = absurd (omega arith)
  filled (x ∷ y ∷ xs) (suc at) page new more count there paged put fits =
      let rest = filled (y ∷ xs) at page new more (omega arith) there paged.1 put fits in
      record {
        paged = paged-cons x.items (page_octets (set (y ∷ xs) at new)) paged.0 rest.paged;
        octets = ap (λ l. x.items ++ l) rest.octets ∙ sym (append_assoc x.items (concat (page_octets (y ∷ xs))) more);
      }

  -- how many octets there are at most
  pub paged-le : (xs : List (Vec ℕ A)) → IsPaged (page_octets xs) → length (concat (page_octets xs)) ≤ 4096 * length xs
  paged-le [] paged = omega arith
  paged-le (x ∷ []) paged = let whole = length-append x.items [] in omega (arith, whole)
  paged-le (x ∷ y ∷ xs) paged = let whole = length-append x.items (concat (page_octets (y ∷ xs))) in omega (arith, whole, paged-le (y ∷ xs) paged.1, paged.0)

  -- the pages up to the one in which a cut is made
  pub record IsCut (new : List (Vec ℕ A)) (octets : List ℕ) : Type 0 where
    pub paged : IsPaged (page_octets new)
    pub is : concat (page_octets new) ≡ octets

  pub cut-at : (xs : List (Vec ℕ A)) (k r : ℕ) (page new : Vec ℕ A) → k < length xs → page ≡ get_or xs k page → IsPaged (page_octets xs) → new.items ≡ take r page.items → r < 4096
      → 4096 * k + r ≤ length (concat (page_octets xs)) → IsCut (set (take (suc k) xs) k new) (take (4096 * k + r) (concat (page_octets xs)))
  cut-at [] k r page new within there paged cut low most = absurd (omega arith)
  cut-at (x ∷ []) zero r page new within there paged cut low most =
      let whole = length-append x.items [] in
      let front : take (4096 * 0 + r) (x.items ++ []) ≡ take r x.items = ap (λ n. take n (x.items ++ [])) (omega arith) ∙ take-append-le r x.items [] (omega (arith, whole)) in
      let short : length new.items ≡ min r (length page.items) = ap length cut ∙ length-take r page.items in
      record {
        paged = omega arith;
        is = append-nil new.items ∙ cut ∙ ap (λ (p : Vec ℕ A). take r p.items) there ∙ sym front;
      }
  cut-at (x ∷ []) (suc k) r page new within there paged cut low most = absurd (omega arith)
  cut-at (x ∷ y ∷ xs) zero r page new within there paged cut low most =
      let rest = concat (page_octets (y ∷ xs)) in
      let front : take (4096 * 0 + r) (x.items ++ rest) ≡ take r x.items = ap (λ n. take n (x.items ++ rest)) (omega arith) ∙ take-append-le r x.items rest (omega (arith, paged.0)) in
      let short : length new.items ≡ min r (length page.items) = ap length cut ∙ length-take r page.items in
      record {
        paged = omega arith;
        is = append-nil new.items ∙ cut ∙ ap (λ (p : Vec ℕ A). take r p.items) there ∙ sym front;
      }
  cut-at (x ∷ y ∷ xs) (suc k) r page new within there paged cut low most =
      let rest = concat (page_octets (y ∷ xs)) in
      let whole = length-append x.items rest in
      let more = cut-at (y ∷ xs) k r page new (omega arith) there paged.1 cut low (omega (arith, whole, paged.0)) in
      let front : take (4096 * suc k + r) (x.items ++ rest) ≡ x.items ++ take (4096 * k + r) rest =
      ap (λ n. take n (x.items ++ rest)) (omega (arith, paged.0)) ∙ take-append-add x.items rest (4096 * k + r) in
      record {
        paged = paged-cons x.items (page_octets (set (take (suc k) (y ∷ xs)) k new)) paged.0 more.paged;
        is = ap (λ l. x.items ++ l) more.is ∙ sym front;
      }

  pub cut-behind : (xs : List (Vec ℕ A)) (k r : ℕ) → length xs ≤ k → IsPaged (page_octets xs) → 4096 * k + r ≤ length (concat (page_octets xs)) → concat (page_octets xs) ≡ take (4096 * k + r) (concat (page_octets xs))
  cut-behind xs k r behind paged most = sym (take_all (4096 * k + r) (concat (page_octets xs)) (omega (arith, paged-le xs paged)))

  -- where an octet stands
  pub piece-at : (xs : List (Vec ℕ A)) (k r : ℕ) (page : Vec ℕ A) → k < length xs → page ≡ get_or xs k page → IsPaged (page_octets xs) → r ≤ length page.items
      → drop (4096 * k + r) (concat (page_octets xs)) ≡ drop r page.items ++ concat (page_octets (drop (suc k) xs))
  piece-at [] k r page within there paged most = absurd (omega arith)
  piece-at (x ∷ xs) zero r page within there paged most =
      let same : length page.items ≡ length x.items = ap (λ (p : Vec ℕ A). length p.items) there in
      let rest = concat (page_octets xs) in
      ap (λ n. drop n (x.items ++ rest)) (omega arith) ∙ drop-append-le r x.items rest (omega arith) ∙ ap (λ (p : Vec ℕ A). drop r p.items ++ rest) (sym there)
  piece-at (x ∷ []) (suc k) r page within there paged most = absurd (omega arith)
  piece-at (x ∷ y ∷ xs) (suc k) r page within there paged most =
      let rest = concat (page_octets (y ∷ xs)) in
      ap (λ n. drop n (x.items ++ rest)) (omega (arith, paged.0)) ∙ drop-append-add x.items rest (4096 * k + r) ∙ piece-at (y ∷ xs) k r page (omega arith) there paged.1 most

  pub past-page : (xs : List (Vec ℕ A)) (k r : ℕ) (page : Vec ℕ A) → k < length xs → page ≡ get_or xs k page → IsPaged (page_octets xs) → length page.items ≤ r → r < 4096
      → length (concat (page_octets xs)) ≤ 4096 * k + r
  past-page [] k r page within there paged most low = absurd (omega arith)
  past-page (x ∷ []) zero r page within there paged most low =
      let same : length page.items ≡ length x.items = ap (λ (p : Vec ℕ A). length p.items) there in
      let whole = length-append x.items [] in omega (arith, whole)
  past-page (x ∷ []) (suc k) r page within there paged most low = absurd (omega arith)
  past-page (x ∷ y ∷ xs) zero r page within there paged most low =
      let same : length page.items ≡ length x.items = ap (λ (p : Vec ℕ A). length p.items) there in absurd (omega (arith, paged.0))
  past-page (x ∷ y ∷ xs) (suc k) r page within there paged most low =
      let whole = length-append x.items (concat (page_octets (y ∷ xs))) in
      omega (arith, whole, past-page (y ∷ xs) k r page (omega arith) there paged.1 most low, paged.0)

  -- a piece is of one page
  pub piece-front : (xs : List (Vec ℕ A)) (k r n : ℕ) (page : Vec ℕ A) → k < length xs → page ≡ get_or xs k page → IsPaged (page_octets xs) → r ≤ length page.items → n ≤ length (drop r page.items)
      → take n (drop (4096 * k + r) (concat (page_octets xs))) ≡ take n (drop r page.items)
  piece-front xs k r n page within there paged most few =
      ap (take n) (piece-at xs k r page within there paged most) ∙ take-append-le n (drop r page.items) (concat (page_octets (drop (suc k) xs))) few
