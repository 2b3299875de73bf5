-- One salt more is in use, cleaned.
use mathlib.Core.Path.{◌≡◌, sym, ap, ◌∙◌}
use Prim.Native.Nat.{◌<◌}
use native.Mathlib.Omega.{arith}
use lib.ListN.{length, get_or, length-take}
use lib.Seq.{get_or-take}
use borrow.Author.Rules.{rules}
use Rattle.laws.specs.Lists.{padded}
use Rattle.laws.specs.Tabulate.{tabulate}
use Rattle.laws.proofs.Padded.{set_padded_tabulate}
use Rattle.request_guard.specs.Guard.{salt_limit, no_salt, cleaned_salt}
use Rattle.request_guard.proofs.Laws.{absent_salt, cleaned_read, count_in_use, used_within}
use Rattle.request_guard.proofs.SpentSalts.in_use.Goals as goal

pub cleaned-requires : goal.cleaned-requires
cleaned-requires c =
    let ss = c.args.self in
    let h : c.loop-i.i < ss.count = omega (arith, length-take ss.count ss.salts) in
    rw (get_or-take ss.count ss.salts c.loop-i.i absent_salt h) (used_within ss c.requires.1 c.loop-i.i h)

pub loop-i-preserved : goal.loop-i-preserved
loop-i-preserved c =
    let ss = c.args.self in
    let i = c.loop-i.i in
    let h : i < ss.count = omega (arith, length-take ss.count ss.salts) in
    set_padded_tabulate salt_limit no_salt (λ k. cleaned_salt (get_or ss.salts k no_salt)) i c.loop-i.invariant
    (omega (arith, c.requires.0))
    (c.cleaned.ensures ∙ ap cleaned_salt (get_or-take ss.count ss.salts i absent_salt h) ∙ cleaned_read ss.salts i)

pub returns : goal.returns
returns c =
    let ss = c.args.self in
    let long : length ss.salts ≡ salt_limit = search rules in
    let all : c.loop-i.i ≡ ss.count = omega (arith, length-take ss.count ss.salts, c.requires.0) in
    λ j. record {
      salts = (c.loop-i.invariant
          ∙ ap (λ n. padded salt_limit no_salt (tabulate n (λ k. cleaned_salt (get_or ss.salts k no_salt)))) all) j;
      count = sym (count_in_use ss) j;
    }
