-- The part ends before the record, or the record in the part.
use mathlib.Core.Path.{◌≡◌, ap, ◌∙◌}
use Prim.Native.Nat.{◌+◌, ◌-◌}
use native.Mathlib.Omega.{arith}
use lib.ListN.{length, take, drop}
use Rattle.laws.proofs.Lists.{take_drop_rest}
use Rattle.reassembly.proofs.Cases.{fill_ended, fill_open}
use Rattle.reassembly.specs.Parts.{longer}
use Rattle.reassembly.specs.declared.Found.TheVariants.{Nothing, Held}
use Rattle.reassembly.proofs.Unfinished.fill.Goals as goal

pub returns-then-part-at : goal.returns-then-part-at
returns-then-part-at c =
    let a = c.args in
    (λ i. record { next = (c.with.ensures ∙ ap (longer a.self) (take_drop_rest a.at a.part.now)) i; at = length a.part.now; found = Nothing })
    ∙ fill_open a.self a.size a.part.now a.at c.requires.0 c.requires.1 c.if-part-at.true

pub returns : goal.returns
returns c =
    let a = c.args in
    let wanted = 2 + a.size - a.self.count in
    let width : a.at + wanted - a.at ≡ wanted = omega arith in
    (λ i. record { next = (c.with-2.ensures ∙ ap (λ n. longer a.self (take n (drop a.at a.part.now))) width) i; at = a.at + wanted; found = Held (2 + a.size) })
    ∙ fill_ended a.self a.size a.part.now a.at c.requires.0 c.requires.1 c.if-part-at.false
