-- Each test asks whether the bytes are one record that is neither whole nor too long.
use mathlib.Core.Path.{◌≡◌}
use lib.ListN.{length}
use borrow.Author.Rules.{rules}
use Rattle.reassembly.proofs.ReadAgain.{again_byte, again_cut, again_long, again_over, again_whole}
use Rattle.reassembly.proofs.Unfinished.bytes_again.Goals as goal
use Rattle.reassembly.proofs.Unfinished.bytes_again.Goals.{then-size-gt-LENGTH_MAX-via-then-size-gt-LENGTH_MAX as too_long, then-size-gt-LENGTH_MAX-via-else-size-gt-LENGTH_MAX+then-size-count as whole}

pub returns-then-count-gt-HELD_MAX : goal.returns-then-count-gt-HELD_MAX
returns-then-count-gt-HELD_MAX c =
    again_over c.args.self c.requires c.if-count-gt-HELD_MAX.true

pub returns-then-count-lt2 : goal.returns-then-count-lt2
returns-then-count-lt2 c =
    let h : length c.args.self.bytes ≡ 1026 = search rules in
    again_byte c.args.self c.requires c.if-count-gt-HELD_MAX.false h c.if-count-lt2.true c.rest.ensures

pub returns-then-size-gt-LENGTH_MAX : goal.returns-then-size-gt-LENGTH_MAX
returns-then-size-gt-LENGTH_MAX c =
    let h : length c.args.self.bytes ≡ 1026 = search rules in
    elim c.then-size-gt-LENGTH_MAX.branch [
      | too_long w ↦ again_long c.args.self c.requires c.if-count-gt-HELD_MAX.false h c.if-count-lt2.false c.size-size.ensures.0 w.if-size-gt-LENGTH_MAX.true
      | whole w ↦ again_whole c.args.self c.requires c.if-count-gt-HELD_MAX.false h c.if-count-lt2.false c.size-size.ensures.0 w.if-size-count.true
    ]

pub returns : goal.returns
returns c =
    let h : length c.args.self.bytes ≡ 1026 = search rules in
    again_cut c.args.self c.requires c.if-count-gt-HELD_MAX.false h c.if-count-lt2.false c.size-size.ensures.0 c.if-size-gt-LENGTH_MAX.false c.if-size-count.false c.rest-2.ensures
