-- What is asked of a server ahead of its turn (own choice).
use Rattle.std.specs.Prelude.{ℕ, Option, Some, None, if◌then◌else◌}
use Rattle.tool_listing.specs.declared.entries.item.ItemFacts.{ItemFacts}
use Rattle.tool_mirror_plan.specs.declared.actions.CopyDirection.{CopyDirection}
use Rattle.tool_mirror_plan.specs.declared.actions.CopyDirection.TheVariants as Ways
use Rattle.tool_mirror.specs.declared.prefetch.requests.Prefetch.{Prefetch}
use Rattle.tool_mirror.specs.declared.prefetch.requests.Prefetch.TheVariants as Asks
use Rattle.tool_mirror.specs.declared.queue.entry.QueuedAction.{QueuedAction}
use Rattle.tool_mirror.specs.declared.queue.entry.QueuedAction.TheVariants as Queued
use Rattle.tool_mirror.specs.declared.request.Doing.{Doing}
use Rattle.tool_mirror.specs.declared.request.Doing.TheVariants as Doings
use Rattle.tool_mirror.specs.Transfer.{is_drawn, is_large}

-- for a file that is sent: that it is, unless it is large
abbrev pub sent_ahead : Option ℕ → Option Prefetch
sent_ahead size = if is_large size then None else (if is_drawn size then Some Asks.Upload else Some Asks.HeldUpload)

-- for a file that is copied: where that is done, its octets, or that it is sent
abbrev pub copied_ahead : ItemFacts → CopyDirection → Doing → Option Prefetch
copied_ahead facts way Doings.Nothing = None
copied_ahead facts Ways.Down Doings.All = Some (Asks.Download facts)
copied_ahead facts Ways.Up Doings.All = sent_ahead facts.size

-- for an action: of a directory its entries, where it is the server's and stands; of one that is made there nothing
abbrev pub prefetch_of : QueuedAction → CopyDirection → Doing → Option Prefetch
prefetch_of (Queued.Copy facts) way doing = copied_ahead facts way doing
prefetch_of (Queued.Compare facts) way doing = if is_large facts.size then None else Some (Asks.Compared facts)
prefetch_of Queued.MakeDir Ways.Down doing = Some Asks.Listing
prefetch_of Queued.MakeDir Ways.Up doing = None
prefetch_of Queued.Enter way doing = Some Asks.Listing
prefetch_of action way doing = None
