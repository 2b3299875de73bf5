-- A key that is refused spoils the list; another one is held.
use mathlib.Core.List.{List}
use mathlib.Core.Path.{ap, sym, ◌∙◌, refl}
use Prim.Native.Nat.{ℕ, ◌+◌}
use native.Mathlib.Omega.{arith}
use lib.ListN.{get_or}
use Rattle.account_keys.specs.Keys.{owned}
use Rattle.account_keys.specs.StoredList.{keys_in}
use Rattle.account_keys.proofs.StoredList.{among_keys_in, kept_keys_in, reading_refused, owned_wrong_first, owned_twice, owned_next}
use Rattle.account_keys.proofs.read_keys.Goals as goal
use Rattle.account_keys.proofs.read_keys.Goals.{then-key-ne4-via-then-key-ne4, then-key-ne4-via-else-key-ne4+then-among}

pub loop-i-init : goal.loop-i-init
unfolding keys_in owned
loop-i-init c = (c.none-keys.ensures, refl)

pub returns-then-key-ne4 : goal.returns-then-key-ne4
returns-then-key-ne4 c =
    let src = c.args.src.now in
    let i = c.loop-i.i in
    sym (reading_refused src (i + 1) c.args.n (omega arith) (
    elim c.then-key-ne4.branch [
      | then-key-ne4-via-then-key-ne4 w ↦ owned_wrong_first src i (λ e. w.if-key-ne4.true (ap (λ (l : List ℕ). get_or l 0 0) c.part.ensures ∙ e))
      | then-key-ne4-via-else-key-ne4+then-among w ↦ owned_twice src i
          (sym (among_keys_in src i c.loop-i.invariant.0 c.part.ensures w.among.ensures) ∙ w.if-among.true)
    ]))

pub loop-i-preserved : goal.loop-i-preserved
loop-i-preserved c =
    let src = c.args.src.now in
    let i = c.loop-i.i in
    let keys = c.loop-i.invariant.0 in (
      kept_keys_in src i keys c.part.ensures (omega (arith, c.requires.0)),
      owned_next src i c.loop-i.invariant.1 (sym (ap (λ (l : List ℕ). get_or l 0 0) c.part.ensures) ∙ c.if-key-ne4.false)
          (sym (among_keys_in src i keys c.part.ensures c.among.ensures) ∙ c.if-among.false),
    )
