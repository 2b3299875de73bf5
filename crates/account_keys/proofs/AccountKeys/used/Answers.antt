-- A held key left out makes room.
use mathlib.Core.Path.{sym, ◌∙◌}
use Rattle.account_keys.proofs.Without.{room_without}
use Rattle.account_keys.proofs.AccountKeys.used.Goals as goal

pub push-requires : goal.push-requires
push-requires c =
    rw c.without.ensures
    (room_without c.args.self c.args.key c.requires (sym c.holds.ensures ∙ c.if-not-holds.false))
