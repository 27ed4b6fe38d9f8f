use Rattle.std.proofs.Common.{◌≡◌, ◌++◌, ◌∙◌, OnOk, ap, subst, sym}
use Rattle.tool_listing.specs.entries.Json.{modified_member, stamp_member, stamped}
use Rattle.tool_listing.proofs.entries.json.put_modified.Goals as goal

pub returns-in-Some : goal.returns-in-Some
returns-in-Some c =
    let stamp = subst (λ stamp. OnOk c.put_stamp.result (c.put_stamp.new.out.items ≡ c.args.out.now.items ++ stamp_member stamp))
    (c.stamped.ensures ∙ ap stamped c.moment_text.ensures.digits) c.put_stamp.ensures in
    subst (λ modified. OnOk c.put_stamp.result (c.put_stamp.new.out.items ≡ c.args.out.now.items ++ modified_member modified)) (sym c.in-Some.is) stamp
