-- The bytes in use are copied, and zeros stand behind them.
use mathlib.Core.Path.{◌≡◌, ap, ◌∙◌}
use Rattle.std.proofs.Common.{ℕ, List, ◌++◌, length, drop}
use lib.ListN.{replicate}
use borrow.Author.Rules.{rules}
use Rattle.request_guard.specs.Guard.{salt_room}
use Rattle.request_guard.proofs.Laws.{cleaned_front}
use Rattle.request_guard.proofs.Salt.cleaned.Goals as goal

pub returns : goal.returns
returns c =
    let s = c.args.self in
    let long : length s.bytes ≡ salt_room = search rules in
    λ i. record {
      length = s.length;
      bytes = (ap (λ (l : List ℕ). l ++ drop s.length (replicate salt_room 0)) c.copy_from_slice.ensures.after
          ∙ cleaned_front s long c.requires) i;
    }
