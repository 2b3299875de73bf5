-- A character begins, or the byte lies outside the range that is to come, or within it.
use mathlib.Core.Path.{sym, ◌∙◌}
use Rattle.names.specs.Utf8.{◌to◌, continues}
use Rattle.names.proofs.Continues.{within_range, before_range, past_range, continues_none, continues_outside, continues_within}
use Rattle.names.proofs.utf8.Expected.after.Goals as goal
use Rattle.names.proofs.utf8.Expected.after.Goals.{then-byte-self-via-then-byte-self, then-byte-self-via-else-byte-self+then-self-byte}

pub returns-then-self-eq0 : goal.returns-then-self-eq0
returns-then-self-eq0 c l =
    let a = c.args in
    continues_none (a.self.low to a.self.high) a.byte l c.if-self-eq0.true ∙ c.begun.ensures (λ rest. continues rest l)

pub returns-then-byte-self : goal.returns-then-byte-self
returns-then-byte-self c l =
    let a = c.args in
    let range = a.self.low to a.self.high in
    continues_outside range a.byte l a.self.more c.if-self-eq0.false (
    elim c.then-byte-self.branch [
      | then-byte-self-via-then-byte-self w ↦ before_range range a.byte w.if-byte-self.true
      | then-byte-self-via-else-byte-self+then-self-byte w ↦ past_range range a.byte w.if-self-byte.true
    ]
    )

pub returns : goal.returns
returns c l =
    let a = c.args in
    let range = a.self.low to a.self.high in
    continues_within range a.byte l a.self.more c.if-self-eq0.false
    (within_range range a.byte c.if-byte-self.false c.if-self-byte.false)
    ∙ sym (rw c.tails.ensures)
