use Rattle.std.proofs.Common.{◌∷◌, [], ◌++◌, Some, refl, sym, ap, ◌∙◌}
use Rattle.ftp_pair_memory.proofs.steps.Coursing.{near_turned}
use Rattle.ftp_pair_memory.proofs.steps.turns.near_turn.Goals as goal

pub returns : goal.returns
returns g c =
    let now = c.drive_some-turned.new.control in
    near_turned _ _ _ _ c.drive_some-turned.result c.near_course.result c.has_unheard-is_heard.result _ _ _ _ c.drive_some-turned.ensures.made c.near_course.ensures
    (record {
      left_there = now.reader.way.now.items;
      after_there = now.writer.way.now.items;
      reader = c.new.result.way.ghost_name;
      reader_now = now.reader.way.ghost_name;
      writer = c.new-2.result.way.ghost_name;
      writer_now = now.writer.way.ghost_name;
      came_is = c.new-control.ensures.left ∙ ap (λ v. Some (v.items ++ (c.new.result.way.ghost_name ∷ []))) c.new.ensures.now;
      is_open = c.new-control.ensures.open;
      left_is = refl;
      before_is = c.new-control.ensures.written ∙ ap (λ v. Some (c.new-2.result.way.ghost_name ∷ v.items)) c.new-2.ensures.now;
      after_is = refl;
      none = c.new-control.ensures.unheard;
      left_back = λ same. ap (λ v. v.items) (c.came-1.given.1 (sym c.new.ensures.same ∙ same));
      after_back = λ same. ap (λ v. v.items) (c.goes-1.given.1 (sym c.new-2.ensures.same ∙ same));
    })
    c.has_unheard-is_heard.ensures.none c.has_unheard-is_heard.ensures.some
