-- The parts of the text are put one behind the other; their most bytes add up to 83.
use mathlib.Core.List.{List, ◌++◌}
use Prim.Native.Nat.{ℕ, ◌≤◌}
use native.Mathlib.Omega.{arith}
use lib.ListN.{length}
use Rattle.replay_text.specs.Ascii.{ascii}
use Rattle.replay_text.specs.Text.{decimal, space, text}
use Rattle.replay_text.proofs.Laws.{put_first, put_more, joined}
use Rattle.replay_text.proofs.put_line.Goals as goal

pub returns : goal.returns
unfolding text
returns c =
    let a = c.args in
    let l = a.line in
    let kind : List ℕ = c.kind_name.result.now in
    let answer : ℕ = c.from.result in
    let room : a.at ≤ length a.out.now = omega (arith, c.requires) in
    let to_number = put_first a.out.now a.at (decimal l.number) c.put_number-after_number.ensures.value.0 c.put_number-after_number.ensures.out_after in
    let to-gap = put_more room to_number space c.put-kind_at.ensures.value c.put-kind_at.ensures.out_after in
    let to-kind = put_more room to-gap kind c.put-after_kind.ensures.value c.put-after_kind.ensures.out_after in
    let to-answer = put_more room to-kind (space ++ decimal answer) c.put_behind_space-after_answer.ensures.value.0 c.put_behind_space-after_answer.ensures.out_after in
    let to-size = put_more room to-answer (space ++ decimal l.size) c.put_behind_space-after_size.ensures.value.0 c.put_behind_space-after_size.ensures.out_after in
    let to_end = put_more room to-size (ascii "\n") c.put.ensures.value c.put.ensures.out_after in
    let front = decimal l.number ++ space ++ kind in
    let whole = rw (joined front space (decimal answer) (decimal l.size) (ascii "\n")) at to_end in
    rw (← c.kind_name.ensures.value, ← c.from.ensures) record {
      value = (whole.end_is, omega (arith, c.put_number-after_number.ensures.value.1, c.put-kind_at.ensures.value, c.put-after_kind.ensures.value, c.kind_name.ensures.short, c.put_behind_space-after_answer.ensures.value.1, c.put_behind_space-after_size.ensures.value.1, c.put.ensures.value));
      out_after = whole.left_is;
    }
