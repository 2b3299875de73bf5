-- The two ways of the definition: full, room.
use mathlib.Core.Path.{ap, ◌∙◌}
use lib.ListN.{drop}
use Rattle.laws.proofs.Padded.{take_padded}
use Rattle.request_guard.specs.Guard.{remembered, salts, salt_limit, no_salt}
use Rattle.request_guard.proofs.Laws.{remembering_full, remembering_room}
use Rattle.request_guard.proofs.SpentSalts.remember.Goals as goal

pub returns-then-self : goal.returns-then-self
returns-then-self c =
    let ss = c.args.self in
    c.push.ensures ∙ rw (c.without_oldest.ensures, take_padded salt_limit no_salt (drop 1 (remembered ss)))
    (ap salts (remembering_full ss c.args.salt c.requires c.if-self.true))

pub returns : goal.returns
returns c =
    c.push-2.ensures ∙ ap salts
    (remembering_room c.args.self c.args.salt c.requires c.if-self.false)
