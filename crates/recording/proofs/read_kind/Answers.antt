-- Each arm is a case of the definition.
use mathlib.Core.Path.{◌∙◌}
use borrow.Author.Rules.{rules}
use lib.ListN.{get_or}
use Rattle.recording.proofs.KindsRead.{read_short, read_long, read_other_version, read_by_byte, kind_decoded}
use Rattle.recording.proofs.read_kind.Goals as goal

pub returns-in-1 : goal.returns-in-1
returns-in-1 c =
    let r = c.args.«record».now in
    c.unwrap_or.ensures ∙ kind_decoded (get_or r 1 0) _ c.try_from.ensures
    ∙ read_by_byte r c.in-1.len_at_least c.if-record-le-BODY_MAX.true (search rules)

pub returns-in_default : goal.returns-in_default
returns-in_default c = read_short _ c.in_default.len_below

pub returns-in_default-2 : goal.returns-in_default-2
returns-in_default-2 c = read_long _ c.in-1.len_at_least c.if-record-le-BODY_MAX.false

pub returns-in_default-3 : goal.returns-in_default-3
returns-in_default-3 c = read_other_version _ c.in_default.len_at_least (search rules)
