-- Link by link.
use Rattle.std.proofs.Common.{rules}
use Rattle.packed.proofs.Links.{each_link}
use Rattle.sessions.specs.Sessions.{absent_session}
use Rattle.packed.specs.Packed.{packed_session, no_session}
use Rattle.packed.proofs.pack.pack_links.Goals as goal

pub returns : goal.returns
returns c = each_link packed_session absent_session no_session c.map.ensures.items (λ x y p q k. search rules)
