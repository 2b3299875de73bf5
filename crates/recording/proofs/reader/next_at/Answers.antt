-- Each arm says how much of the recording is left: nothing, one byte of a length field, the field and what is behind it.
use Rattle.recording.proofs.NextAt.{next_none, next_end, next_cut_length, next_cut, next_record}
use Rattle.recording.proofs.reader.next_at.Goals as goal

pub returns-in_default : goal.returns-in_default
returns-in_default c = next_none c.args.recording.now c.args.at c.in_default.ensures.lookup.0

pub returns-in-empty : goal.returns-in-empty
returns-in-empty c = next_end c.args.recording.now c.args.at c.in-Some.ensures.lookup.0 c.in-empty.len_below

pub returns-in-len1 : goal.returns-in-len1
returns-in-len1 c =
    next_cut_length c.args.recording.now c.args.at c.in-Some.ensures.lookup.0 c.in-len1.len_at_least c.in-len1.len_below

pub returns-then-rest-length : goal.returns-then-rest-length
returns-then-rest-length c =
    next_cut c.args.recording.now c.args.at c.in-Some.ensures.lookup.0 c.in-len2-up.len_at_least c.size-length.ensures.0
    c.if-rest-length.true

pub returns-else-rest-length : goal.returns-else-rest-length
returns-else-rest-length c =
    next_record c.args.recording.now c.args.at c.in-Some.ensures.lookup.0 c.in-len2-up.len_at_least c.size-length.ensures.0
    c.if-rest-length.false
