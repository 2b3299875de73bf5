-- With its second byte the length field says whether the record is skipped or read on.
use mathlib.Core.Path.{◌≡◌, refl, ap, subst, sym, ◌∙◌}
use mathlib.Core.List.{List}
use Prim.Native.Nat.{ℕ, ◌+◌, ◌-◌}
use native.Mathlib.Omega.{arith}
use lib.ListN.{take, drop, get_or}
use Rattle.reassembly.proofs.Cases.{one_filling, one_more, one_skips}
use Rattle.reassembly.specs.Parts.{Filling, longer, taken}
use Rattle.reassembly.specs.declared.Unfinished.{Unfinished}
use Rattle.reassembly.proofs.Unfinished.with_length.Goals as goal

-- the slice is one byte long

begun : (u : Unfinished) (bs : List ℕ) (at : ℕ) {v : Unfinished} → v ≡ longer u (take (at + 1 - at) (drop at bs))
    → v ≡ longer u (take 1 (drop at bs))
begun u bs at e =
    let width : at + 1 - at ≡ 1 = omega arith in e ∙ ap (λ n. longer u (take n (drop at bs))) width

pub returns-then-size-gt-LENGTH_MAX : goal.returns-then-size-gt-LENGTH_MAX
returns-then-size-gt-LENGTH_MAX c =
    let a = c.args in
    c.skip_on.ensures
    ∙ one_skips a.self a.part.now a.at c.requires.0 c.requires.1 c.requires.2 refl refl c.size-size.ensures.0 c.if-size-gt-LENGTH_MAX.true

pub fill-requires : goal.fill-requires
fill-requires c =
    let a = c.args in (
      subst (λ (u : Unfinished). Filling u c.size-size.result) (sym (begun a.self a.part.now a.at c.with-begun.ensures))
          (one_filling a.self a.part.now a.at c.requires.0 c.requires.1 c.requires.2 refl refl c.size-size.ensures.0 c.if-size-gt-LENGTH_MAX.false),
      omega (arith, c.requires.2),
    )

pub returns : goal.returns
returns c =
    let a = c.args in
    c.fill.ensures
    ∙ ap (λ (u : Unfinished). taken u a.part.now (a.at + 1)) (begun a.self a.part.now a.at c.with-begun.ensures)
    ∙ one_more a.self a.part.now a.at c.requires.0 c.requires.1 c.requires.2 {high = get_or a.self.bytes 0 0} refl refl refl
