-- Header and keys together are the text, and what follows stays.
use Rattle.account_keys.specs.Keys.{held}
use Rattle.account_keys.proofs.Laws.{count_held}
use Rattle.account_keys.proofs.StoredList.{writing_no_room, writing_stored}
use Rattle.account_keys.proofs.AccountKeys.write.Goals as goal

pub returns-then-out-rest : goal.returns-then-out-rest
returns-then-out-rest c =
    let ks = c.args.self in
    let both = writing_no_room (held ks) c.requires.sized ks.count (count_held ks c.requires.canonical) c.args.out.now
    c.if-out-rest.true in
    record { value = both.0; out_after = both.1 }

pub returns : goal.returns
returns c =
    let ks = c.args.self in
    let both = writing_stored (held ks) c.requires.sized ks.count (count_held ks c.requires.canonical) c.args.out.now
    c.if-out-rest.false c.to_be_bytes.ensures c.copy_from_slice.ensures.after c.write_keys.ensures in
    record { value = both.0; out_after = both.1 }
