-- Marks, and what becomes of a link that has them.
use Rattle.std.proofs.Common.{◌≡◌, length, Bool, true, false, List, [], ◌∷◌, ◌++◌, map, refl, sym, ap, ◌∙◌}
use Rattle.std.proofs.lemmas.List.{length-map, map-append}
use Rattle.laws_world.specs.Events.{broken_by, refused_by, lends_none}
use Rattle.laws_world.specs.World.{World, Mark, Link, Gone, Opened, ClosedByNear, ClosedByFar, gone, marked_last, with_mark}

-- the last of some has one mark more
marked_behind : (mark : Mark) (front : List (List Mark)) (last : List Mark) → marked_last mark (front ++ last ∷ []) ≡ front ++ (last ++ mark ∷ []) ∷ []
marked_behind mark [] last = refl
marked_behind mark (one ∷ []) last = refl
marked_behind mark (one ∷ two ∷ front) last = ap (λ l. one ∷ l) (marked_behind mark (two ∷ front) last)

-- the last of some was taken out, and came back with one mark more
pub marks_last : {S R : Type 0} (is : S → Mark) (items : R → List S) (old new front : List R) (mark : S) (last more : R) → old ≡ front ++ last ∷ [] → new ≡ front ++ more ∷ []
    → items more ≡ items last ++ mark ∷ [] → map (λ r. map is (items r)) new ≡ marked_last (is mark) (map (λ r. map is (items r)) old)
marks_last {R = R} is items old new front mark last more old_is new_is more_is =
    let f : R → List Mark = λ r. map is (items r) in
    ap (map f) new_is ∙ map-append f front (more ∷ []) ∙ ap (λ l. map f front ++ l ∷ []) (ap (map is) more_is ∙ map-append is (items last) (mark ∷ []))
    ∙ sym (ap (λ l. marked_last (is mark) (map f l)) old_is ∙ ap (marked_last (is mark)) (map-append f front (last ∷ [])) ∙ marked_behind (is mark) (map f front) (f last))

-- the last of some was taken out, and came back
pub marks_none : {S R : Type 0} (is : S → Mark) (items : R → List S) (old new front : List R) (last more : R) → old ≡ front ++ last ∷ [] → new ≡ front ++ more ∷ []
    → items more ≡ items last → map (λ r. map is (items r)) new ≡ map (λ r. map is (items r)) old
marks_none {R = R} is items old new front last more old_is new_is more_is =
    let f : R → List Mark = λ r. map is (items r) in
    ap (map f) new_is ∙ map-append f front (more ∷ []) ∙ ap (λ l. map f front ++ map is l ∷ []) more_is ∙ sym (ap (map f) old_is ∙ map-append f front (last ∷ []))

-- a mark may be made before a link is lost
pub break_marked : (mark : Mark) (w : World) → gone (broken_by w.link (lends_none (with_mark mark w))) ≡ with_mark mark (gone (broken_by w.link (lends_none w)))
break_marked mark w = by w.link
  where
    by : (link : Link) → gone (broken_by link (lends_none (with_mark mark w))) ≡ with_mark mark (gone (broken_by link (lends_none w)))
    by Gone = refl
    by Opened = refl
    by ClosedByNear = refl
    by ClosedByFar = refl

-- or before it is refused
pub refuse_marked : (mark : Mark) (b : Bool) (w : World) → refused_by b (lends_none (with_mark mark w)) ≡ with_mark mark (refused_by b (lends_none w))
refuse_marked mark true w = refl
refuse_marked mark false w = refl

-- a list has as many items as what they are mapped to
pub length_map : {S R : Type 0} (f : S → R) (l : List S) → length (map f l) ≡ length l
length_map f l = length-map l f
